use Rattle.stream_model.proofs.ThinnedCuts.{thinned_is_due}
use Rattle.stream_model.proofs.thinned_laws.thinned_is_due.Goals as goal

pub returns : goal.returns
returns c = thinned_is_due
