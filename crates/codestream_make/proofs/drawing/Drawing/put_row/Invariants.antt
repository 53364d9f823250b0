use Rattle.precinct_geometry.specs.Spans.{grid_of}
use Rattle.codestream_make.specs.Drawn.{row_of}
use Rattle.codestream_make.proofs.DrawSteps.{Leaves, columns_left}
use Rattle.codestream_make.proofs.drawing.Drawing.put_row.Given as goal

abbrev pub invariant-loop-col : goal.invariant-loop-col
invariant-loop-col l = Leaves (row_of (grid_of l.grid) l.row) (columns_left (grid_of l.grid) l.row l.col) l.fn.self l.self
