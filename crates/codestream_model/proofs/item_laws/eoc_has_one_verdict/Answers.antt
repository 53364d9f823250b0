use Rattle.codestream_model.proofs.ItemsJudged.{eoc_verdict}
use Rattle.codestream_model.proofs.item_laws.eoc_has_one_verdict.Goals as goal

pub returns : goal.returns
returns c = eoc_verdict
