use Rattle.codestream_model.proofs.MarkedVerdicts.{one_marked_verdict}
use Rattle.codestream_model.proofs.packet_laws.marked_headers_have_one_verdict.Goals as goal

pub returns : goal.returns
returns c = one_marked_verdict
