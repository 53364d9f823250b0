use Rattle.codestream_model.proofs.ChoiceLemmas.{inclusion_is_least}
use Rattle.codestream_model.proofs.choice_laws.inclusion_is_least.Goals as goal

pub returns : goal.returns
returns c = inclusion_is_least
