use Rattle.codestream_model.proofs.PacketsOneWay.{one_packet}
use Rattle.codestream_model.proofs.packet_laws.packets_are_read_one_way.Goals as goal

pub returns : goal.returns
returns c = one_packet
