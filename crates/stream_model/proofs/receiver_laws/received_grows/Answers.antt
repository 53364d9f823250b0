use Rattle.stream_model.proofs.ReportWritten.{received_grows}
use Rattle.stream_model.proofs.receiver_laws.received_grows.Goals as goal

pub returns : goal.returns
returns c = received_grows
