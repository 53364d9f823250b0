use Rattle.report_job.proofs.Readings.{readings_so_far}
use Rattle.report_job.proofs.laws.readings_so_far.Goals as goal

pub returns : goal.returns
returns c = readings_so_far
