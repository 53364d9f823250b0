use Rattle.stream_model.proofs.ReceiverLaws.{hands_on_in_order}
use Rattle.stream_model.proofs.run_laws.hands_on_in_order.Goals as goal

pub returns : goal.returns
returns c = hands_on_in_order
