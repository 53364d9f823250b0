use Rattle.codestream_model.proofs.Orders.{packet_order_is_one}
use Rattle.codestream_model.proofs.laws.packet_order_is_one.Goals as goal

pub returns : goal.returns
returns c = packet_order_is_one
