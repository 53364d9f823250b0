use Rattle.std.proofs.Common.{map, drop}
use Rattle.std.specs.List.{flat_map}
use Rattle.codestream_model.specs.TagTrees.{seats}
use Rattle.precinct_geometry.specs.Spans.{grid_of}
use Rattle.codestream_make.proofs.DrawSteps.{Leaves}
use Rattle.codestream_make.proofs.drawing.Drawing.put_grids.Given as goal

abbrev pub invariant-loop-grid : goal.invariant-loop-grid
invariant-loop-grid l = Leaves (flat_map seats (map grid_of l.grids)) (flat_map seats (map grid_of (drop l.grid-index l.grids))) l.fn.self l.self
