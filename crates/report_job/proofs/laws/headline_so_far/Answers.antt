use Rattle.report_job.proofs.Promised.{headline_so_far}
use Rattle.report_job.proofs.laws.headline_so_far.Goals as goal

pub returns : goal.returns
returns c = headline_so_far
