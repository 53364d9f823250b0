use Rattle.codestream_model.proofs.ItemsJudged.{packets_judged}
use Rattle.codestream_model.proofs.item_laws.packets_are_judged.Goals as goal

pub returns : goal.returns
returns c = packets_judged
