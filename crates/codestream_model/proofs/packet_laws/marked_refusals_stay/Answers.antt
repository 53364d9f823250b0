use Rattle.codestream_model.proofs.Marked.{marked_refusal_stays}
use Rattle.codestream_model.proofs.packet_laws.marked_refusals_stay.Goals as goal

pub returns : goal.returns
returns c = marked_refusal_stays
