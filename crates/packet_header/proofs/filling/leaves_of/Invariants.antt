-- The leaves of the code-blocks before this one are set.
use Rattle.std.proofs.Common.{map, take}
use Rattle.precinct_geometry.specs.Spans.{grid_of}
use Rattle.packet_header.specs.Answers.{block_of}
use Rattle.packet_header.specs.PositionsWritten.{LaysOut}
use Rattle.packet_header.proofs.filling.leaves_of.Given as goal

abbrev pub invariant-loop-block : goal.invariant-loop-block
invariant-loop-block l = record {
  inclusion : LaysOut (grid_of l.grid) (map block_of (take l.block-index l.blocks)) l.leaves.inclusion.items (λ b. 0) 1;
  planes : LaysOut (grid_of l.grid) (map block_of (take l.block-index l.blocks)) l.leaves.planes.items (λ b. b.planes) 74;
}
