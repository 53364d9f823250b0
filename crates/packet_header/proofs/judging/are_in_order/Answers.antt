-- One grid more.
use Rattle.std.proofs.Common.{◌≡◌, ◌+◌, List, ◌∷◌, map, drop, get_or, sym, ◌∙◌, ap}
use Rattle.std.specs.List.{flat_map}
use Rattle.codestream_model.specs.Values as values
use Rattle.codestream_model.specs.TagTrees.{seats}
use Rattle.precinct_geometry.specs.Spans.{grid_of}
use Rattle.packet_header.specs.Answers.{block_of}
use Rattle.packet_header.specs.Queues.{remaining, passed}
use Rattle.packet_header.proofs.GridRuns.{grids_from, no_grids_from}
use Rattle.packet_header.proofs.PositionWalks.{passed-append, in_order_if_taken, taken_if_in_order}
use Rattle.packet_header.proofs.judging.are_in_order.Goals as goal

pub loop-grid-preserved : goal.loop-grid-preserved
loop-grid-preserved c =
    let all = c.args.grids.now in
    let i = c.loop-grid.grid-index in
    let g = grid_of (get_or all i (record { band = 0; cols = 0; rows = 0 })) in
    let more = map grid_of (drop (i + 1) all) in
    let e : map grid_of (drop i all) ≡ g ∷ more = grids_from all i (record { band = 0; cols = 0; rows = 0 }) c.loop-grid-test.true in
    let w = remaining c.loop-grid.queue in
    ap (passed (flat_map seats more)) c.pass_grid.ensures
    ∙ (sym (ap (λ (l : List values.Grid). passed (flat_map seats l) w) e ∙ passed-append (seats g) (flat_map seats more) w) ∙ c.loop-grid.invariant)

pub returns : goal.returns
returns c =
    let all = c.args.grids.now in
    let gs = map grid_of all in
    let blocks = map block_of c.args.blocks.now in
    let none = no_grids_from all c.loop-grid.grid-index c.loop-grid-test.false in
    let left : remaining c.loop-grid.queue ≡ passed (flat_map seats gs) blocks = sym (ap (λ (l : List values.Grid). passed (flat_map seats l) (remaining c.loop-grid.queue)) none) ∙ c.loop-grid.invariant in
    (λ t. in_order_if_taken gs blocks c.requires (sym left ∙ c.is_done.ensures.0 t), λ m. c.is_done.ensures.1 (left ∙ taken_if_in_order gs blocks m))
