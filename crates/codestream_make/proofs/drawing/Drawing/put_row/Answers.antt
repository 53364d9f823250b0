use Rattle.std.proofs.Common.{List, [], ◌∷◌, ◌+◌, subst}
use Rattle.codestream_model.specs.TagTrees.{Seat}
use Rattle.precinct_geometry.specs.Spans.{grid_of}
use Rattle.codestream_make.specs.Drawn.{seat_at, row_of}
use Rattle.codestream_make.proofs.DrawSteps.{Leaves, columns_left, fewer_left, none_left, next_column, no_column}
use Rattle.codestream_make.proofs.drawing.Drawing.put_row.Goals as goal

pub loop-col-preserved : goal.loop-col-preserved
loop-col-preserved c =
    let g = grid_of c.args.grid in
    let P : List Seat → Type 0 = λ l. Leaves (row_of g c.args.row) l c.args.self.now c.loop-col.self in
    fewer_left (row_of g c.args.row) (seat_at g.band c.loop-col.col c.args.row ∷ []) (columns_left g c.args.row (c.loop-col.col + 1)) c.args.self.now c.loop-col.self c.put_block.new.self
    (subst P (next_column g c.args.row c.loop-col.col c.loop-col-test.true) c.loop-col.invariant) c.in_ok-put_block.ensures

pub returns : goal.returns
returns c =
    let g = grid_of c.args.grid in
    none_left (row_of g c.args.row) (columns_left g c.args.row c.loop-col.col) c.args.self.now c.loop-col.self c.loop-col.invariant (no_column g c.args.row c.loop-col.col c.loop-col-test.false)
