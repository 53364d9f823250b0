use Rattle.std.proofs.Common.{List, ◌+◌, subst}
use Rattle.codestream_model.specs.TagTrees.{Seat, seats}
use Rattle.precinct_geometry.specs.Spans.{grid_of}
use Rattle.codestream_make.specs.Drawn.{row_of}
use Rattle.codestream_make.proofs.DrawSteps.{Leaves, rows_left, fewer_left, none_left, next_row, no_row}
use Rattle.codestream_make.proofs.drawing.Drawing.put_grid.Goals as goal

pub loop-row-preserved : goal.loop-row-preserved
loop-row-preserved c =
    let g = grid_of c.args.grid in
    let P : List Seat → Type 0 = λ l. Leaves (seats g) l c.args.self.now c.loop-row.self in
    fewer_left (seats g) (row_of g c.loop-row.row) (rows_left g (c.loop-row.row + 1)) c.args.self.now c.loop-row.self c.put_row.new.self
    (subst P (next_row g c.loop-row.row c.loop-row-test.true) c.loop-row.invariant) c.in_ok-put_row.ensures

pub returns : goal.returns
returns c =
    let g = grid_of c.args.grid in
    none_left (seats g) (rows_left g c.loop-row.row) c.args.self.now c.loop-row.self c.loop-row.invariant (no_row g c.loop-row.row c.loop-row-test.false)
