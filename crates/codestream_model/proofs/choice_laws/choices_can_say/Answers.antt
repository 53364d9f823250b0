use Rattle.codestream_model.proofs.ChoiceLemmas.{choices_can_say}
use Rattle.codestream_model.proofs.choice_laws.choices_can_say.Goals as goal

pub returns : goal.returns
returns c = choices_can_say
