use Rattle.stream_model.proofs.Drains.{drained_takes_frame}
use Rattle.stream_model.proofs.receiver_laws.drained_takes_frame.Goals as goal

pub returns : goal.returns
returns c = drained_takes_frame
