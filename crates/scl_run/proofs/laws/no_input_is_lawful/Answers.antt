use Rattle.scl_run.proofs.InputClassLaws.{no_input_is_lawful}
use Rattle.scl_run.proofs.laws.no_input_is_lawful.Goals as goal

pub returns : goal.returns
returns c = no_input_is_lawful
