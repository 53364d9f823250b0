-- The reader has its room.
use Rattle.std.proofs.Common.{◌≡◌}
use Rattle.packet_header.proofs.tests.pieces.first_other_in_pieces.Given as goal

abbrev pub invariant-loop-row : goal.invariant-loop-row
invariant-loop-row l = l.reader.room ≡ 65536
