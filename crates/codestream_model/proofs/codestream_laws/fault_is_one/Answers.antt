use Rattle.codestream_model.proofs.Inputs.{fault_is_one}
use Rattle.codestream_model.proofs.codestream_laws.fault_is_one.Goals as goal

pub returns : goal.returns
returns c = fault_is_one
