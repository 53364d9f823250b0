use Rattle.codestream_model.proofs.CutHeads.{cut_head_is_short}
use Rattle.codestream_model.proofs.item_laws.cut_heads_are_short.Goals as goal

pub returns : goal.returns
returns c = cut_head_is_short
