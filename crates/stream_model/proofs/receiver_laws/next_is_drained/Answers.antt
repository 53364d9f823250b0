use Rattle.stream_model.proofs.Drains.{next_is_drained}
use Rattle.stream_model.proofs.receiver_laws.next_is_drained.Goals as goal

pub returns : goal.returns
returns c = next_is_drained
