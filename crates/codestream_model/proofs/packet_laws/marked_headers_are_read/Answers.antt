use Rattle.codestream_model.proofs.Marked.{marked_read}
use Rattle.codestream_model.proofs.packet_laws.marked_headers_are_read.Goals as goal

pub returns : goal.returns
returns c = marked_read
