-- The grids before this one are passed.
use Rattle.std.proofs.Common.{◌≡◌, map, drop}
use Rattle.std.specs.List.{flat_map}
use Rattle.codestream_model.specs.TagTrees.{seats}
use Rattle.precinct_geometry.specs.Spans.{grid_of}
use Rattle.packet_header.specs.Answers.{block_of}
use Rattle.packet_header.specs.Queues.{remaining, passed}
use Rattle.packet_header.proofs.judging.are_in_order.Given as goal

abbrev pub invariant-loop-grid : goal.invariant-loop-grid
invariant-loop-grid l = passed (flat_map seats (map grid_of (drop l.grid-index l.grids))) (remaining l.queue) ≡ passed (flat_map seats (map grid_of l.grids)) (map block_of l.blocks)
