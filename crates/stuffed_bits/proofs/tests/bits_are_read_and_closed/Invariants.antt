-- Between two bits nothing of a value is kept, and the index is within the bytes.
use Rattle.std.proofs.Common.{◌≡◌, ◌≤◌, length}
use Rattle.stuffed_bits.specs.BitInState.{IsFree}
use Rattle.stuffed_bits.proofs.tests.bits_are_read_and_closed.Given as goal

abbrev pub invariant-loop-i : goal.invariant-loop-i
invariant-loop-i g l = record { free : IsFree l.reader; within : l.at ≤ length l.bytes.now }
