use Rattle.codestream_model.proofs.HeaderReads.{refusal_is_read_one_way}
use Rattle.codestream_model.proofs.laws.refusal_is_read_one_way.Goals as goal

pub returns : goal.returns
returns c = refusal_is_read_one_way
