use Rattle.codestream_model.proofs.Marked.{marked_sound}
use Rattle.codestream_model.proofs.packet_laws.marked_headers_are_sound.Goals as goal

pub returns : goal.returns
returns c = marked_sound
