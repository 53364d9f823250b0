use Rattle.codestream_model.proofs.BytesJudged.{needs_read}
use Rattle.codestream_model.proofs.packet_laws.needs_are_read.Goals as goal

pub returns : goal.returns
returns c = needs_read
