use Rattle.scl_outside.proofs.Failing.{reads_are_before}
use Rattle.scl_outside.proofs.laws.reads_are_before.Goals as goal

pub returns : goal.returns
returns c = reads_are_before
