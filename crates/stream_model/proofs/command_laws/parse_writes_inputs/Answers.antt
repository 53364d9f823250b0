use Rattle.stream_model.proofs.ParsedInputs.{whole_inputs}
use Rattle.stream_model.proofs.command_laws.parse_writes_inputs.Goals as goal

pub returns : goal.returns
returns c = whole_inputs
