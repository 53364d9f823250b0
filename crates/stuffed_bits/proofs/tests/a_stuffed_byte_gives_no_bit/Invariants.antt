-- Between two bits nothing of a value is kept, and the index is within the piece.
use Rattle.std.proofs.Common.{◌≡◌, ◌≤◌}
use Rattle.stuffed_bits.specs.BitInState.{IsFree}
use Rattle.stuffed_bits.proofs.tests.a_stuffed_byte_gives_no_bit.Given as goal

abbrev pub invariant-loop : goal.invariant-loop
invariant-loop g l = record { free : IsFree l.reader; within : l.at ≤ 1 }
