use Rattle.codestream_model.proofs.SoundLemmas.{header_sound}
use Rattle.codestream_model.proofs.packet_laws.headers_are_sound.Goals as goal

pub returns : goal.returns
returns c = header_sound
