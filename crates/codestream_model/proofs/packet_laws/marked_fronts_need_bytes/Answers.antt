use Rattle.codestream_model.proofs.MarkedVerdicts.{marked_front_needs}
use Rattle.codestream_model.proofs.packet_laws.marked_fronts_need_bytes.Goals as goal

pub returns : goal.returns
returns c = marked_front_needs
