use Rattle.stream_model.proofs.Thinned.{thinned_then_picked}
use Rattle.stream_model.proofs.laws.thinned_then_picked.Goals as goal

pub returns : goal.returns
returns c = thinned_then_picked
