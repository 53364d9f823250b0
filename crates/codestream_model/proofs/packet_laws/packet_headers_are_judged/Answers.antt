use Rattle.codestream_model.proofs.VerdictLemmas.{headers_judged}
use Rattle.codestream_model.proofs.packet_laws.packet_headers_are_judged.Goals as goal

pub returns : goal.returns
returns c = headers_judged
