use Rattle.report_job.proofs.Promised.{headline_at_fault}
use Rattle.report_job.proofs.laws.headline_at_fault.Goals as goal

pub returns : goal.returns
returns c = headline_at_fault
