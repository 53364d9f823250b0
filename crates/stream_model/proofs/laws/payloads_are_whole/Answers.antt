use Rattle.stream_model.proofs.CutPayloads.{payloads_are_whole}
use Rattle.stream_model.proofs.laws.payloads_are_whole.Goals as goal

pub returns : goal.returns
returns c = payloads_are_whole
