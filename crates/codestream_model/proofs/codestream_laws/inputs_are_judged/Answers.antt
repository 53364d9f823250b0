use Rattle.codestream_model.proofs.Inputs.{inputs_are_judged}
use Rattle.codestream_model.proofs.codestream_laws.inputs_are_judged.Goals as goal

pub returns : goal.returns
returns c = inputs_are_judged
