use Rattle.scl_outside.proofs.Failing.{failures_are_calls}
use Rattle.scl_outside.proofs.laws.failures_are_calls.Goals as goal

pub returns : goal.returns
returns c = failures_are_calls
