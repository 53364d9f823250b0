use Rattle.codestream_model.proofs.EmptyLemmas.{empty_packet}
use Rattle.codestream_model.proofs.packet_laws.empty_packet_is_read.Goals as goal

pub returns : goal.returns
returns c = empty_packet
