use Rattle.scl_run.proofs.CaptureInputLaws.{capture_input_is_lawful}
use Rattle.scl_run.proofs.laws.capture_inputs_are_lawful.Goals as goal

pub returns : goal.returns
returns c = capture_input_is_lawful
