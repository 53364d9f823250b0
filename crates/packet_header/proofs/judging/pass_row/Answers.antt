-- One position more.
use Rattle.std.proofs.Common.{List, [], ◌∷◌, sym, ◌∙◌, ap}
use Rattle.codestream_model.specs.TagTrees.{Seat}
use Rattle.packet_header.specs.Positions.{row_seats}
use Rattle.packet_header.specs.Queues.{remaining, left_at, passed}
use Rattle.packet_header.proofs.PositionRuns.{row_more}
use Rattle.packet_header.proofs.PositionWalks.{passed-append, left_behind}
use Rattle.packet_header.proofs.judging.pass_row.Goals as goal

pub loop-col-preserved : goal.loop-col-preserved
loop-col-preserved c =
    let g = c.args.grid in
    let s : Seat = record { band = g.band; col = c.loop-col.col; row = c.args.row } in
    let w = remaining c.args.queue.now in
    left_behind s (remaining c.loop-col.queue) (remaining c.take_at.new.self) c.take_at.result c.take_at.ensures
    ∙ (ap (left_at s) c.loop-col.invariant
    ∙ sym (ap (λ (l : List Seat). passed l w) (row_more g.band c.args.row c.loop-col.col) ∙ passed-append (row_seats g.band c.loop-col.col c.args.row) (s ∷ []) w))
