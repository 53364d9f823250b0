use Rattle.codestream_model.proofs.VerdictLemmas.{one_verdict}
use Rattle.codestream_model.proofs.packet_laws.packet_headers_have_one_verdict.Goals as goal

pub returns : goal.returns
returns c = one_verdict
