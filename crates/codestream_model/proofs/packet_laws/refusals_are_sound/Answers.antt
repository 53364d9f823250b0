use Rattle.codestream_model.proofs.BytesBack.{refusal_sound}
use Rattle.codestream_model.proofs.packet_laws.refusals_are_sound.Goals as goal

pub returns : goal.returns
returns c = refusal_sound
