use Rattle.report_job.proofs.Readings.{readings_at_end}
use Rattle.report_job.proofs.laws.readings_at_end.Goals as goal

pub returns : goal.returns
returns c = readings_at_end
