use Rattle.stream_model.proofs.ThinnedReports.{thinned_then_reported}
use Rattle.stream_model.proofs.thinned_laws.thinned_then_reported.Goals as goal

pub returns : goal.returns
returns c = thinned_then_reported
