-- The positions of a row, one after another.
use Rattle.std.proofs.Common.{◌≡◌, ℕ, List, [], ◌∷◌, Ok, refl, sym, ◌∙◌, subst, arith}
use Rattle.codestream_model.specs.TagTrees.{Seat}
use Rattle.precinct_geometry.specs.Spans.{grid_of}
use Rattle.packet_header.specs.Positions.{row_seats}
use Rattle.packet_header.specs.Queues.{remaining}
use Rattle.packet_header.specs.PositionsWritten.{PutsPositions}
use Rattle.packet_header.proofs.PositionRuns.{row_at, row_more}
use Rattle.packet_header.proofs.PutSteps.{goes_none, goes_both}
use Rattle.packet_header.proofs.PositionPuts.{no_position_put, positions_join, positions_full}
use Rattle.packet_header.proofs.grids.TagTrees.put_row.Goals as goal

pub loop-col-init : goal.loop-col-init
loop-col-init c = record {
  bits = no_position_put (grid_of c.args.grid) c.args.self.now (remaining c.args.queue.now) c.args.bits.now c.args.buf.now;
  goes = goes_none c.args.bits.now c.args.buf.now c.requires.inside;
  same = c.requires.same;
  limits = c.requires.limits;
  size = refl;
}

pub returns-in_err-put_at-clause-bits : goal.returns-in_err-put_at-clause-bits
returns-in_err-put_at-clause-bits c =
    let g = c.args.grid in
    let s : Seat = record { band = g.band; col = c.loop-col.col; row = c.args.row } in
    let r = row_at g.band g.cols c.args.row c.loop-col.col c.loop-col-test.true in
    positions_full (grid_of g) (row_seats g.band g.cols c.args.row) (row_seats g.band c.loop-col.col c.args.row) (s ∷ []) r.0 c.args.self.now c.loop-col.self c.put_at.new.self (remaining c.args.queue.now) (remaining c.loop-col.queue) (remaining c.put_at.new.queue)
    c.args.bits.now c.loop-col.bits c.put_at.new.bits c.args.buf.now c.loop-col.buf c.put_at.new.buf tt c.in_err-put_at.field-0.0 c.from_residual.result c.from_residual.ensures.0 r.1 c.loop-col.invariant.size
    c.loop-col.invariant.bits c.in_err-put_at.ensures.bits

pub returns-in_err-put_at-clause-goes : goal.returns-in_err-put_at-clause-goes
returns-in_err-put_at-clause-goes c = goes_both c.args.bits.now c.loop-col.bits c.put_at.new.bits c.args.buf.now c.loop-col.buf c.put_at.new.buf c.loop-col.invariant.goes c.put_at.ensures.goes

pub loop-col-preserved : goal.loop-col-preserved
loop-col-preserved c =
    let g = c.args.grid in
    let s : Seat = record { band = g.band; col = c.loop-col.col; row = c.args.row } in
    let P : List Seat → Type 0 = λ l. PutsPositions (grid_of g) l c.args.self.now c.put_at.new.self (remaining c.args.queue.now) (remaining c.put_at.new.queue) c.args.bits.now c.put_at.new.bits c.args.buf.now c.put_at.new.buf (Ok tt) in
    record {
      bits = subst P (sym (row_more g.band c.args.row c.loop-col.col))
          (positions_join (grid_of g) (row_seats g.band c.loop-col.col c.args.row) (s ∷ []) c.args.self.now c.loop-col.self c.put_at.new.self (remaining c.args.queue.now) (remaining c.loop-col.queue) (remaining c.put_at.new.queue)
          c.args.bits.now c.loop-col.bits c.put_at.new.bits c.args.buf.now c.loop-col.buf c.put_at.new.buf tt (Ok tt) c.loop-col.invariant.size c.loop-col.invariant.bits c.in_ok-put_at.ensures.bits);
      goes = goes_both c.args.bits.now c.loop-col.bits c.put_at.new.bits c.args.buf.now c.loop-col.buf c.put_at.new.buf c.loop-col.invariant.goes c.put_at.ensures.goes;
      same = c.put_at.ensures.same;
      limits = c.put_at.ensures.limits;
      size = c.put_at.auto.buf ∙ c.loop-col.invariant.size;
    }

pub returns-clause-bits : goal.returns-clause-bits
returns-clause-bits c =
    let g = c.args.grid in
    let e : c.loop-col.col ≡ g.cols = omega arith in
    let P : ℕ → Type 0 = λ n. PutsPositions (grid_of g) (row_seats g.band n c.args.row) c.args.self.now c.loop-col.self (remaining c.args.queue.now) (remaining c.loop-col.queue) c.args.bits.now c.loop-col.bits c.args.buf.now c.loop-col.buf (Ok tt) in
    subst P e c.loop-col.invariant.bits
