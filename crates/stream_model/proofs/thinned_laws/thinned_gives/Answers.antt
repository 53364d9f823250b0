use Rattle.stream_model.proofs.ThinnedReports.{thinned_gives}
use Rattle.stream_model.proofs.thinned_laws.thinned_gives.Goals as goal

pub returns : goal.returns
returns c = thinned_gives
