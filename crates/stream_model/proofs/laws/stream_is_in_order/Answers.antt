use Rattle.stream_model.proofs.StreamOrder.{stream_is_in_order}
use Rattle.stream_model.proofs.laws.stream_is_in_order.Goals as goal

pub returns : goal.returns
returns c = stream_is_in_order
