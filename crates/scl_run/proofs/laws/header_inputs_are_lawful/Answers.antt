use Rattle.scl_run.proofs.HeaderInputLaws.{header_input_is_lawful}
use Rattle.scl_run.proofs.laws.header_inputs_are_lawful.Goals as goal

pub returns : goal.returns
returns c = header_input_is_lawful
