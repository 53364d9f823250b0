use Rattle.codestream_model.proofs.Marked.{marked_needs_sound}
use Rattle.codestream_model.proofs.packet_laws.marked_needs_are_sound.Goals as goal

pub returns : goal.returns
returns c = marked_needs_sound
