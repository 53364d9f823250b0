-- One row more.
use Rattle.std.proofs.Common.{List, sym, ◌∙◌, ap}
use Rattle.codestream_model.specs.TagTrees.{Seat}
use Rattle.packet_header.specs.Positions.{row_seats}
use Rattle.packet_header.specs.Queues.{remaining, passed}
use Rattle.packet_header.proofs.PositionRuns.{rows_of, rows_more}
use Rattle.packet_header.proofs.PositionWalks.{passed-append}
use Rattle.packet_header.proofs.judging.pass_grid.Goals as goal

pub loop-row-preserved : goal.loop-row-preserved
loop-row-preserved c =
    let g = c.args.grid in
    let w = remaining c.args.queue.now in
    let r = row_seats g.band g.cols c.loop-row.row in
    c.pass_row.ensures
    ∙ (ap (passed r) c.loop-row.invariant
    ∙ sym (ap (λ (l : List Seat). passed l w) (rows_more g.band g.cols c.loop-row.row) ∙ passed-append (rows_of g.band g.cols c.loop-row.row) r w))
