use Rattle.codestream_model.proofs.Numbers.{great_pids_are_found}
use Rattle.codestream_model.proofs.laws.great_pids_are_found.Goals as goal

pub returns : goal.returns
returns c = great_pids_are_found
