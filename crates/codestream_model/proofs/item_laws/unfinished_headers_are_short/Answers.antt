use Rattle.codestream_model.proofs.ItemsJudged.{unfinished_short}
use Rattle.codestream_model.proofs.item_laws.unfinished_headers_are_short.Goals as goal

pub returns : goal.returns
returns c = unfinished_short
