use Rattle.codestream_model.proofs.BytesJudged.{refusal_read}
use Rattle.codestream_model.proofs.packet_laws.refusals_are_read.Goals as goal

pub returns : goal.returns
returns c = refusal_read
