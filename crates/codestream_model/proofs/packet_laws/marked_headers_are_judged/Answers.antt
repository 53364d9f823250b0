use Rattle.codestream_model.proofs.MarkedVerdicts.{marked_judged}
use Rattle.codestream_model.proofs.packet_laws.marked_headers_are_judged.Goals as goal

pub returns : goal.returns
returns c = marked_judged
