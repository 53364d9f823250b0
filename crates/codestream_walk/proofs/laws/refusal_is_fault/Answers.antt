use Rattle.codestream_walk.proofs.Refusals.{refusal_is_fault}
use Rattle.codestream_walk.proofs.laws.refusal_is_fault.Goals as goal

pub returns : goal.returns
returns c = refusal_is_fault
