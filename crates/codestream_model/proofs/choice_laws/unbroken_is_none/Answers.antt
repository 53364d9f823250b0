use Rattle.codestream_model.proofs.BrokenLemmas.{unbroken_is_none}
use Rattle.codestream_model.proofs.choice_laws.unbroken_is_none.Goals as goal

pub returns : goal.returns
returns c = unbroken_is_none
