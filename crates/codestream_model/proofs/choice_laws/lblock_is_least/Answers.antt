use Rattle.codestream_model.proofs.ChoiceLemmas.{lblock_is_least}
use Rattle.codestream_model.proofs.choice_laws.lblock_is_least.Goals as goal

pub returns : goal.returns
returns c = lblock_is_least
