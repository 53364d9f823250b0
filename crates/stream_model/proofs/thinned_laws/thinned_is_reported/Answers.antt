use Rattle.stream_model.proofs.ThinnedReports.{thinned_is_reported}
use Rattle.stream_model.proofs.thinned_laws.thinned_is_reported.Goals as goal

pub returns : goal.returns
returns c = thinned_is_reported
