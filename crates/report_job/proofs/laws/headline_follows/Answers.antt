use Rattle.report_job.proofs.Promised.{headline_follows}
use Rattle.report_job.proofs.laws.headline_follows.Goals as goal

pub returns : goal.returns
returns c = headline_follows
