-- The grids, one after another.
use Rattle.std.proofs.Common.{◌≡◌, ◌+◌, ◌*◌, List, ◌∷◌, map, drop, get_or, Err, refl, sym, ◌∙◌, ap, subst, arith}
use Rattle.std.proofs.lemmas.Result.{err_from_is_err_and}
use Rattle.std.proofs.lemmas.List.Sums.{sum_by-cons}
use Rattle.std.specs.List.{AllByRecursion}
use Rattle.codestream_model.specs.Values as values
use Rattle.codestream_model.specs.Packet.{block_count}
use Rattle.codestream_model.specs.PacketHeader.{IsWithinLimits}
use Rattle.precinct_geometry.specs.Spans.{grid_of}
use Rattle.packet_header.specs.Answers.{block_of}
use Rattle.packet_header.specs.Queues.{remaining}
use Rattle.packet_header.specs.PositionsWritten.{AreOnGrid}
use Rattle.packet_header.specs.declared.fault.PutFault.{PutFault}
use Rattle.packet_header.proofs.GridRuns.{grids_from, no_grids_from}
use Rattle.packet_header.proofs.PutSteps.{goes_none, goes_both}
use Rattle.packet_header.proofs.GridPuts.{GridsPut, no_grid_put, next_grid_put, next_grid_full, all_grids_put}
use Rattle.packet_header.proofs.OnGrid.{all_on_grid}
use Rattle.packet_header.proofs.writing.put_grids.Goals as goal

pub loop-grid-init : goal.loop-grid-init
loop-grid-init c =
    let all = map grid_of c.args.grids.now in
    let blocks = map block_of c.args.blocks.now in
    let P : List values.Block → Type 0 = λ l. AllByRecursion IsWithinLimits l in
    record {
      put = no_grid_put all blocks (remaining c.new-queue.result) c.args.bits.now c.args.buf.now c.new-queue.ensures c.requires.blocks;
      on_grid = all_on_grid all blocks c.requires.own_bands c.requires.blocks;
      few = c.requires.few;
      limits = subst P (sym c.new-queue.ensures) c.requires.blocks.limits;
      goes = goes_none c.args.bits.now c.args.buf.now c.requires.inside;
      size = refl;
    }

pub put_grid-requires-clause-on_grid : goal.put_grid-requires-clause-on_grid
put_grid-requires-clause-on_grid c =
    let all = c.args.grids.now in
    let i = c.loop-grid.grid-index in
    let e = grids_from all i (record { band = 0; cols = 0; rows = 0 }) c.loop-grid-test.true in
    let P : List values.Grid → Type 0 = λ l. AllByRecursion (λ (g : values.Grid). AreOnGrid g (map block_of c.args.blocks.now)) l in
    let s = subst P e c.loop-grid.invariant.on_grid in
    s.0

pub returns-in_err-put_grid-clause-bits : goal.returns-in_err-put_grid-clause-bits
returns-in_err-put_grid-clause-bits c =
    let p = err_from_is_err_and c.from_residual.result c.from_residual.ensures.1 in
    let all = c.args.grids.now in
    let i = c.loop-grid.grid-index in
    let e = grids_from all i (record { band = 0; cols = 0; rows = 0 }) c.loop-grid-test.true in
    let P : List values.Grid → Type 0 = λ l. GridsPut (map grid_of all) l (map block_of c.args.blocks.now) (remaining c.loop-grid.queue) c.args.bits.now c.loop-grid.bits c.args.buf.now c.loop-grid.buf in
    next_grid_full (map grid_of all) (map grid_of (drop (i + 1) all)) _ (map block_of c.args.blocks.now) (remaining c.loop-grid.queue) (remaining c.put_grid.new.queue) c.args.bits.now c.loop-grid.bits c.put_grid.new.bits c.args.buf.now c.loop-grid.buf c.put_grid.new.buf
    c.in_err-put_grid.field-0.0 c.from_residual.result (p.1 ∙ ap (λ (x : PutFault). Err x) p.2) c.loop-grid.invariant.size (subst P e c.loop-grid.invariant.put) c.in_err-put_grid.ensures.put

pub returns-in_err-put_grid-clause-goes : goal.returns-in_err-put_grid-clause-goes
returns-in_err-put_grid-clause-goes c = goes_both c.args.bits.now c.loop-grid.bits c.put_grid.new.bits c.args.buf.now c.loop-grid.buf c.put_grid.new.buf c.loop-grid.invariant.goes c.put_grid.ensures.goes

pub loop-grid-preserved : goal.loop-grid-preserved
loop-grid-preserved c =
    let all = c.args.grids.now in
    let i = c.loop-grid.grid-index in
    let g = grid_of (get_or all i (record { band = 0; cols = 0; rows = 0 })) in
    let more = map grid_of (drop (i + 1) all) in
    let e : map grid_of (drop i all) ≡ g ∷ more = grids_from all i (record { band = 0; cols = 0; rows = 0 }) c.loop-grid-test.true in
    let n : block_count (map grid_of (drop i all)) ≡ g.cols * g.rows + block_count more = ap block_count e ∙ sum_by-cons (λ (x : values.Grid). x.cols * x.rows) g more in
    let P : List values.Grid → Type 0 = λ l. GridsPut (map grid_of all) l (map block_of c.args.blocks.now) (remaining c.loop-grid.queue) c.args.bits.now c.loop-grid.bits c.args.buf.now c.loop-grid.buf in
    let Q : List values.Grid → Type 0 = λ l. AllByRecursion (λ (x : values.Grid). AreOnGrid x (map block_of c.args.blocks.now)) l in
    let s = subst Q e c.loop-grid.invariant.on_grid in
    record {
      put = next_grid_put (map grid_of all) more g (map block_of c.args.blocks.now) (remaining c.loop-grid.queue) (remaining c.put_grid.new.queue) c.args.bits.now c.loop-grid.bits c.put_grid.new.bits c.args.buf.now c.loop-grid.buf c.put_grid.new.buf
          c.loop-grid.invariant.size (subst P e c.loop-grid.invariant.put) c.in_ok-put_grid.ensures.put;
      on_grid = s.1;
      few = omega (arith, c.loop-grid.invariant.few, n);
      limits = c.put_grid.ensures.limits;
      goes = goes_both c.args.bits.now c.loop-grid.bits c.put_grid.new.bits c.args.buf.now c.loop-grid.buf c.put_grid.new.buf c.loop-grid.invariant.goes c.put_grid.ensures.goes;
      size = c.put_grid.auto.buf ∙ c.loop-grid.invariant.size;
    }

pub returns-clause-bits : goal.returns-clause-bits
returns-clause-bits c =
    let all = c.args.grids.now in
    let e = no_grids_from all c.loop-grid.grid-index c.loop-grid-test.false in
    let P : List values.Grid → Type 0 = λ l. GridsPut (map grid_of all) l (map block_of c.args.blocks.now) (remaining c.loop-grid.queue) c.args.bits.now c.loop-grid.bits c.args.buf.now c.loop-grid.buf in
    all_grids_put (map grid_of all) (map block_of c.args.blocks.now) (remaining c.loop-grid.queue) c.args.bits.now c.loop-grid.bits c.args.buf.now c.loop-grid.buf (subst P e c.loop-grid.invariant.put)
