-- The reader has its room, and was fed the bytes before this one.
use Rattle.std.proofs.Common.{◌≡◌, ℕ, List}
use Rattle.packet_header.specs.Headers.{IsFed}
use Rattle.packet_header.proofs.tests.pieces.is_read_byte_by_byte.Given as goal

abbrev pub invariant-loop-byte : goal.invariant-loop-byte
invariant-loop-byte l = record {
  room : l.reader.room ≡ 65536;
  fed : (bytes : List ℕ) × IsFed l.reader bytes;
}
