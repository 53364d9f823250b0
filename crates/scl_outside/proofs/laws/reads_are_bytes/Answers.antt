use Rattle.scl_outside.proofs.ReadBytes.{reads_are_bytes}
use Rattle.scl_outside.proofs.laws.reads_are_bytes.Goals as goal

pub returns : goal.returns
returns c = reads_are_bytes
