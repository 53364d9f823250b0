use Rattle.report_job.proofs.Promised.{whole_stream_is_reported}
use Rattle.report_job.proofs.laws.whole_stream_is_reported.Goals as goal

pub returns : goal.returns
returns c = whole_stream_is_reported
