use Rattle.codestream_model.proofs.ItemsJudged.{eoc_judged}
use Rattle.codestream_model.proofs.item_laws.eoc_is_judged.Goals as goal

pub returns : goal.returns
returns c = eoc_judged
