use Rattle.stream_model.proofs.ParsedInputs.{up_to_fault}
use Rattle.stream_model.proofs.command_laws.parse_writes_up_to_fault.Goals as goal

pub returns : goal.returns
returns c = up_to_fault
