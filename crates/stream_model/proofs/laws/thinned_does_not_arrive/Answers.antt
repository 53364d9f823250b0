use Rattle.stream_model.proofs.Thinned.{thinned_does_not_arrive}
use Rattle.stream_model.proofs.laws.thinned_does_not_arrive.Goals as goal

pub returns : goal.returns
returns c = thinned_does_not_arrive
