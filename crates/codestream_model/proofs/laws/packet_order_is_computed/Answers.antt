use Rattle.codestream_model.proofs.Orders.{packet_order_is_computed}
use Rattle.codestream_model.proofs.laws.packet_order_is_computed.Goals as goal

pub returns : goal.returns
returns c = packet_order_is_computed
