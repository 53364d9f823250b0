use Rattle.stream_model.proofs.ThinnedCuts.{thinned_keeps_bytes}
use Rattle.stream_model.proofs.thinned_laws.thinned_keeps_bytes.Goals as goal

pub returns : goal.returns
returns c = thinned_keeps_bytes
