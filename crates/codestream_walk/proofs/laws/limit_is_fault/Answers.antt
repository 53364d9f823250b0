use Rattle.codestream_walk.proofs.Refusals.{limit_is_fault}
use Rattle.codestream_walk.proofs.laws.limit_is_fault.Goals as goal

pub returns : goal.returns
returns c = limit_is_fault
