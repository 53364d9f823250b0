use Rattle.std.proofs.Common.{List, ◌+◌, map, drop, subst}
use Rattle.std.specs.List.{flat_map}
use Rattle.std.proofs.lemmas.List.{at_drop_more, at_drop_all}
use Rattle.codestream_model.specs.TagTrees.{Seat, seats}
use Rattle.precinct_geometry.specs.declared.place.Grid.{Grid}
use Rattle.precinct_geometry.specs.Spans.{grid_of}
use Rattle.codestream_make.proofs.DrawSteps.{Leaves, fewer_left, none_left}
use Rattle.codestream_make.proofs.drawing.Drawing.put_grids.Goals as goal

pub loop-grid-preserved : goal.loop-grid-preserved
loop-grid-preserved c =
    let all = flat_map seats (map grid_of c.args.grids.now) in
    let F : List Grid → List Seat = λ l. flat_map seats (map grid_of l) in
    let P : List Seat → Type 0 = λ l. Leaves all l c.args.self.now c.loop-grid.self in
    fewer_left all _ (F (drop (c.loop-grid.grid-index + 1) c.args.grids.now)) c.args.self.now c.loop-grid.self c.put_grid.new.self
    (subst P (at_drop_more F c.args.grids.now c.loop-grid.grid-index _ c.loop-grid-test.true) c.loop-grid.invariant) c.in_ok-put_grid.ensures

pub returns : goal.returns
returns c =
    let F : List Grid → List Seat = λ l. flat_map seats (map grid_of l) in
    none_left (F c.args.grids.now) (F (drop c.loop-grid.grid-index c.args.grids.now)) c.args.self.now c.loop-grid.self c.loop-grid.invariant (at_drop_all F c.args.grids.now c.loop-grid.grid-index c.loop-grid-test.false)
