use Rattle.codestream_model.proofs.ChoiceLemmas.{planes_are_least}
use Rattle.codestream_model.proofs.choice_laws.planes_are_least.Goals as goal

pub returns : goal.returns
returns c = planes_are_least
