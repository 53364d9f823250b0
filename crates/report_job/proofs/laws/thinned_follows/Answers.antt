use Rattle.report_job.proofs.Promised.{thinned_follows}
use Rattle.report_job.proofs.laws.thinned_follows.Goals as goal

pub returns : goal.returns
returns c = thinned_follows
