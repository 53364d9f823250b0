use Rattle.stream_model.proofs.ThinnedReports.{reached_has_left}
use Rattle.stream_model.proofs.thinned_laws.reached_has_left.Goals as goal

pub returns : goal.returns
returns c = reached_has_left
