use Rattle.codestream_model.specs.TagTrees.{seats}
use Rattle.precinct_geometry.specs.Spans.{grid_of}
use Rattle.codestream_make.proofs.DrawSteps.{Leaves, rows_left}
use Rattle.codestream_make.proofs.drawing.Drawing.put_grid.Given as goal

abbrev pub invariant-loop-row : goal.invariant-loop-row
invariant-loop-row l = Leaves (seats (grid_of l.grid)) (rows_left (grid_of l.grid) l.row) l.fn.self l.self
