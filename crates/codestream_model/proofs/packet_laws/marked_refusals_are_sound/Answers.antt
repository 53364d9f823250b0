use Rattle.codestream_model.proofs.Marked.{marked_refusal_sound}
use Rattle.codestream_model.proofs.packet_laws.marked_refusals_are_sound.Goals as goal

pub returns : goal.returns
returns c = marked_refusal_sound
