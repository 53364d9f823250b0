-- The reader was fed the pieces before this one.
use Rattle.std.proofs.Common.{ℕ, List}
use Rattle.packet_header.specs.Headers.{IsFed}
use Rattle.packet_header.proofs.tests.pieces.feed_front.Given as goal

abbrev pub invariant-loop-piece : goal.invariant-loop-piece
invariant-loop-piece l = (bytes : List ℕ) × IsFed l.reader bytes
