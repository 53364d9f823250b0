use Rattle.codestream_model.proofs.Inputs.{input_is_one}
use Rattle.codestream_model.proofs.codestream_laws.input_is_one.Goals as goal

pub returns : goal.returns
returns c = input_is_one
