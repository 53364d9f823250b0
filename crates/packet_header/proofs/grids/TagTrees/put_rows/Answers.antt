-- The rows of a grid, one after another.
use Rattle.std.proofs.Common.{◌≡◌, ℕ, List, Ok, refl, sym, ◌∙◌, subst, arith}
use Rattle.codestream_model.specs.TagTrees.{Seat, seats}
use Rattle.precinct_geometry.specs.Spans.{grid_of}
use Rattle.packet_header.specs.Positions.{row_seats}
use Rattle.packet_header.specs.Queues.{remaining}
use Rattle.packet_header.specs.PositionsWritten.{PutsPositions}
use Rattle.packet_header.proofs.PositionRuns.{rows_of, rows_at, rows_more}
use Rattle.packet_header.proofs.PutSteps.{goes_none, goes_both}
use Rattle.packet_header.proofs.PositionPuts.{no_position_put, positions_join, positions_full}
use Rattle.packet_header.proofs.grids.TagTrees.put_rows.Goals as goal

pub loop-row-init : goal.loop-row-init
loop-row-init c = record {
  bits = no_position_put (grid_of c.args.grid) c.args.self.now (remaining c.args.queue.now) c.args.bits.now c.args.buf.now;
  goes = goes_none c.args.bits.now c.args.buf.now c.requires.inside;
  same = c.requires.same;
  limits = c.requires.limits;
  size = refl;
}

pub returns-in_err-put_row-clause-bits : goal.returns-in_err-put_row-clause-bits
returns-in_err-put_row-clause-bits c =
    let g = c.args.grid in
    let r = rows_at g.band g.cols g.rows c.loop-row.row c.loop-row-test.true in
    positions_full (grid_of g) (seats (grid_of g)) (rows_of g.band g.cols c.loop-row.row) (row_seats g.band g.cols c.loop-row.row) r.0 c.args.self.now c.loop-row.self c.put_row.new.self (remaining c.args.queue.now) (remaining c.loop-row.queue) (remaining c.put_row.new.queue)
    c.args.bits.now c.loop-row.bits c.put_row.new.bits c.args.buf.now c.loop-row.buf c.put_row.new.buf tt c.in_err-put_row.field-0.0 c.from_residual.result c.from_residual.ensures.0 r.1 c.loop-row.invariant.size
    c.loop-row.invariant.bits c.in_err-put_row.ensures.bits

pub returns-in_err-put_row-clause-goes : goal.returns-in_err-put_row-clause-goes
returns-in_err-put_row-clause-goes c = goes_both c.args.bits.now c.loop-row.bits c.put_row.new.bits c.args.buf.now c.loop-row.buf c.put_row.new.buf c.loop-row.invariant.goes c.put_row.ensures.goes

pub loop-row-preserved : goal.loop-row-preserved
loop-row-preserved c =
    let g = c.args.grid in
    let P : List Seat → Type 0 = λ l. PutsPositions (grid_of g) l c.args.self.now c.put_row.new.self (remaining c.args.queue.now) (remaining c.put_row.new.queue) c.args.bits.now c.put_row.new.bits c.args.buf.now c.put_row.new.buf (Ok tt) in
    record {
      bits = subst P (sym (rows_more g.band g.cols c.loop-row.row))
          (positions_join (grid_of g) (rows_of g.band g.cols c.loop-row.row) (row_seats g.band g.cols c.loop-row.row) c.args.self.now c.loop-row.self c.put_row.new.self (remaining c.args.queue.now) (remaining c.loop-row.queue) (remaining c.put_row.new.queue)
          c.args.bits.now c.loop-row.bits c.put_row.new.bits c.args.buf.now c.loop-row.buf c.put_row.new.buf tt (Ok tt) c.loop-row.invariant.size c.loop-row.invariant.bits c.in_ok-put_row.ensures.bits);
      goes = goes_both c.args.bits.now c.loop-row.bits c.put_row.new.bits c.args.buf.now c.loop-row.buf c.put_row.new.buf c.loop-row.invariant.goes c.put_row.ensures.goes;
      same = c.put_row.ensures.same;
      limits = c.put_row.ensures.limits;
      size = c.put_row.auto.buf ∙ c.loop-row.invariant.size;
    }

pub returns-clause-bits : goal.returns-clause-bits
returns-clause-bits c =
    let g = c.args.grid in
    let e : c.loop-row.row ≡ g.rows = omega arith in
    let P : ℕ → Type 0 = λ n. PutsPositions (grid_of g) (rows_of g.band g.cols n) c.args.self.now c.loop-row.self (remaining c.args.queue.now) (remaining c.loop-row.queue) c.args.bits.now c.loop-row.bits c.args.buf.now c.loop-row.buf (Ok tt) in
    subst P e c.loop-row.invariant.bits
