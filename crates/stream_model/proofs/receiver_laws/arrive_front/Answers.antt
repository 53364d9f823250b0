use Rattle.stream_model.proofs.ReportWritten.{arrive_front}
use Rattle.stream_model.proofs.receiver_laws.arrive_front.Goals as goal

pub returns : goal.returns
returns c = arrive_front
