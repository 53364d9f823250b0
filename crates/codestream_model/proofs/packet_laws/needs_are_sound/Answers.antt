use Rattle.codestream_model.proofs.BytesBack.{needs_sound}
use Rattle.codestream_model.proofs.packet_laws.needs_are_sound.Goals as goal

pub returns : goal.returns
returns c = needs_sound
