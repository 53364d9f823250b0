use Rattle.codestream_model.proofs.Marked.{marked_needs_read}
use Rattle.codestream_model.proofs.packet_laws.marked_needs_are_read.Goals as goal

pub returns : goal.returns
returns c = marked_needs_read
