use Rattle.codestream_model.proofs.ItemsJudged.{packet_refusal_stays}
use Rattle.codestream_model.proofs.item_laws.packet_refusals_stay.Goals as goal

pub returns : goal.returns
returns c = packet_refusal_stays
