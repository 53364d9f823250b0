-- What is left to be read is what follows the positions that were read.
use Rattle.std.proofs.Common.{◌≡◌, ◌≤◌, ◌<◌, ◌+◌, ℕ, List, [], Bool, length, vec_len, vec_capacity}
use Rattle.codestream_model.specs.PacketHeaderReading.{Node}
use Rattle.precinct_geometry.specs.Spans.{grid_of}
use Rattle.tag_tree.specs.LeafReading.{IsSameShape}
use Rattle.packet_header.specs.declared.step.Step.TheVariants.{Inclusion}
use Rattle.packet_header.specs.Moves.{HasGiven}
use Rattle.tag_tree.specs.Kinds.{levels_of}
use Rattle.packet_header.specs.Steps.{Fits}
use Rattle.packet_header.specs.Positions.{KnowsBoth, HasGrid, IsReady}
use Rattle.packet_header.specs.Walks.{positions_from, WalkWent}
use Rattle.packet_header.proofs.grids.TagTrees.read_grid.Given as goal

abbrev pub invariant-loop-row : goal.invariant-loop-row
invariant-loop-row l = record {
  within : l.source.at ≤ length l.source.piece.now;
  piece : l.source.piece.now ≡ l.fn.source.piece.now;
  ready : IsReady l.self (record { band = l.grid.band; col = l.col; row = l.row }) l.step l.source;
  fits : Fits l.step l.source.bits.part;
  same : HasGrid l.self l.grid.cols l.grid.rows;
  col_in : l.col < l.grid.cols;
  room : vec_len l.blocks + length (positions_from (grid_of l.grid) l.row l.col) ≤ vec_capacity l.blocks;
  none : positions_from (grid_of l.grid) l.row l.col ≡ [] → l.step ≡ Inclusion;
  inclusion : IsSameShape l.fn.self.inclusion l.self.inclusion;
  planes : IsSameShape l.fn.self.planes l.self.planes;
  few : vec_len l.blocks + length (positions_from (grid_of l.grid) l.row l.col) ≤ vec_len l.fn.blocks + length (positions_from (grid_of l.grid) l.fn.row l.fn.col);
  capacity : vec_capacity l.blocks ≡ vec_capacity l.fn.blocks;
  walks : (nodes others : List Node) → KnowsBoth l.fn.self nodes others → (before : List ℕ) (done : List Bool) → HasGiven before done l.fn.source
      → WalkWent (levels_of l.fn.self.inclusion) (positions_from (grid_of l.grid) l.fn.row l.fn.col) (positions_from (grid_of l.grid) l.row l.col) nodes others l.self l.fn.step l.step before done l.source l.fn.blocks.items l.blocks.items;
}

abbrev pub decreases-loop-row : goal.decreases-loop-row
decreases-loop-row l = length (positions_from (grid_of l.grid) l.row l.col)
