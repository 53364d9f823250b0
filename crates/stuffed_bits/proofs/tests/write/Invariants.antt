-- What was begun is within the buffer.
use Rattle.std.proofs.Common.{◌≤◌, length}
use Rattle.stuffed_bits.proofs.tests.write.Given as goal

abbrev pub invariant-loop-i : goal.invariant-loop-i
invariant-loop-i l = l.writer.len ≤ length l.buf
