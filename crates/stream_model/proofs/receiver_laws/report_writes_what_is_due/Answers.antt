use Rattle.stream_model.proofs.ReportWritten.{report_writes_what_is_due}
use Rattle.stream_model.proofs.receiver_laws.report_writes_what_is_due.Goals as goal

pub returns : goal.returns
returns c = report_writes_what_is_due
