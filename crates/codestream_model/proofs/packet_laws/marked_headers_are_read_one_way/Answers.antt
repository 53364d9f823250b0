use Rattle.codestream_model.proofs.PacketsOneWay.{one_marked}
use Rattle.codestream_model.proofs.packet_laws.marked_headers_are_read_one_way.Goals as goal

pub returns : goal.returns
returns c = one_marked
