use Rattle.rebuild_model.proofs.EmptyPackets.{empty_packet_is_packet}
use Rattle.rebuild_model.proofs.rebuilding_laws.empty_packet_is_packet.Goals as goal

pub returns : goal.returns
returns c = empty_packet_is_packet
