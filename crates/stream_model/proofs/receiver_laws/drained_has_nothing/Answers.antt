use Rattle.stream_model.proofs.Drains.{drained_has_nothing}
use Rattle.stream_model.proofs.receiver_laws.drained_has_nothing.Goals as goal

pub returns : goal.returns
returns c = drained_has_nothing
