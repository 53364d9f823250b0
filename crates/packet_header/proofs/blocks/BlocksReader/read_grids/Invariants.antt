-- The grids before the current one were read.
use Rattle.std.proofs.Common.{◌≡◌, ◌≤◌, ◌-◌, ℕ, List, Bool, true, length}
use Rattle.codestream_model.specs.Values as values
use Rattle.codestream_model.specs.PacketHeaderReading.{Read}
use Rattle.packet_header.specs.Moves.{taken_of}
use Rattle.packet_header.specs.Blocks.{IsSameRoom, HasTaken}
use Rattle.packet_header.proofs.blocks.BlocksReader.read_grids.Given as goal

abbrev pub invariant-loop-own : goal.invariant-loop-own
invariant-loop-own l = record {
  within : l.source.at ≤ length l.source.piece.now;
  piece : l.source.piece.now ≡ l.fn.source.piece.now;
  begun : l.self.begun ≡ true;
  same : IsSameRoom l.fn.self l.self;
  ready : (first : List Bool → Read (List values.Block)) × (before : List ℕ) × HasTaken first l.self (taken_of before l.source) l.source.bits;
  taken : (first : List Bool → Read (List values.Block)) (before : List ℕ) → HasTaken first l.fn.self (taken_of before l.fn.source) l.fn.source.bits → HasTaken first l.self (taken_of before l.source) l.source.bits;
}

abbrev pub decreases-loop-own : goal.decreases-loop-own
decreases-loop-own l = length l.self.bands.items - l.self.grid
