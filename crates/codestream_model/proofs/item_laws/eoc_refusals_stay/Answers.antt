use Rattle.codestream_model.proofs.ItemsJudged.{eoc_refusal_stays}
use Rattle.codestream_model.proofs.item_laws.eoc_refusals_stay.Goals as goal

pub returns : goal.returns
returns c = eoc_refusal_stays
