-- The reader has its room.
use Rattle.std.proofs.Common.{◌≡◌}
use Rattle.packet_header.proofs.tests.pieces.first_other_cut.Given as goal

abbrev pub invariant-loop-cut : goal.invariant-loop-cut
invariant-loop-cut l = l.reader.room ≡ 65536
