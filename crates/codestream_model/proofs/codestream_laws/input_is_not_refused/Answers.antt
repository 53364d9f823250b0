use Rattle.codestream_model.proofs.Inputs.{input_is_not_refused}
use Rattle.codestream_model.proofs.codestream_laws.input_is_not_refused.Goals as goal

pub returns : goal.returns
returns c = input_is_not_refused
