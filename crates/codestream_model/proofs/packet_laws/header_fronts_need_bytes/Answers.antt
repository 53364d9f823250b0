use Rattle.codestream_model.proofs.VerdictLemmas.{front_needs}
use Rattle.codestream_model.proofs.packet_laws.header_fronts_need_bytes.Goals as goal

pub returns : goal.returns
returns c = front_needs
