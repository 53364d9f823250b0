use Rattle.stream_model.proofs.ReportWritten.{report_grows}
use Rattle.stream_model.proofs.receiver_laws.report_grows.Goals as goal

pub returns : goal.returns
returns c = report_grows
