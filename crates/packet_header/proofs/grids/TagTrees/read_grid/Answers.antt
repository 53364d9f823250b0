-- Seat by position.
use Rattle.std.proofs.Common.{◌≡◌, ◌≢◌, ◌<◌, ◌+◌, ◌++◌, ℕ, List, ◌∷◌, length, Result, Err, refl, sym, ◌∙◌, ap, subst, inl, inr, arith}
use Rattle.std.proofs.lemmas.Result.{err_from_is_err_and}
use Rattle.std.proofs.lemmas.Bool.Decides.{eqb_tells}
use Rattle.codestream_model.specs.TagTrees.{Seat}
use Rattle.precinct_geometry.specs.Spans.{grid_of}
use Rattle.stuffed_bits.specs.declared.part.Part.{Part}
use Rattle.tag_tree.specs.Kinds.{levels_of}
use Rattle.packet_header.specs.Steps.{Fits}
use Rattle.packet_header.specs.Positions.{ReadsAt, ReadAt}
use Rattle.packet_header.specs.Walks.{positions_from}
use Rattle.packet_header.specs.declared.refusal.HeaderStop.{HeaderStop}
use Rattle.packet_header.specs.declared.step.Step.{Step}
use Rattle.packet_header.specs.declared.step.Step.TheVariants.{Inclusion}
use Rattle.packet_header.proofs.PositionMoves.{unread_free, same_levels}
use Rattle.packet_header.proofs.PositionRuns.{shape_kept, same_shape}
use Rattle.packet_header.proofs.WalkMoves.{walk_none, walk_step, walk_halts, next_in_row, next_row}
use Rattle.packet_header.proofs.grids.TagTrees.read_grid.Goals as goal

-- a step at which a leaf is next keeps nothing
fits_next : (step : Step) (p : Part) → step ≡ Inclusion → Fits Inclusion p → Fits step p
fits_next step p e h = let P : Step → Type 0 = λ x. Fits x p in subst P (sym e) h

pub loop-row-init : goal.loop-row-init
loop-row-init c = record {
  within = c.requires.within;
  piece = refl;
  ready = c.requires.ready;
  fits = c.requires.fits;
  same = c.requires.same;
  col_in = c.requires.col_in;
  few = omega arith;
  room = c.requires.room;
  none = c.requires.none;
  inclusion = same_shape c.args.self.now.inclusion;
  planes = same_shape c.args.self.now.planes;
  capacity = refl;
  walks = λ nodes others k before done h. walk_none (levels_of c.args.self.now.inclusion) (positions_from (grid_of c.args.grid) c.args.row.now c.args.col.now) nodes others c.args.self.now c.args.step.now before done c.args.source.now c.args.blocks.now.items k h;
}

pub returns-in_err-read_at-clause-read : goal.returns-in_err-read_at-clause-read
returns-in_err-read_at-clause-read c = λ nodes others k before done h.
    let p = err_from_is_err_and c.from_residual.result c.from_residual.ensures.1 in
    let g = grid_of c.args.grid in
    let i = c.loop-row.invariant in
    let row = c.loop-row.row in
    let col = c.loop-row.col in
    let s : Seat = record { band = g.band; col = col; row = row } in
    let own = c.requires.same in
    let levels = levels_of c.args.self.now.inclusion in
    let same : levels_of c.loop-row.self.inclusion ≡ levels = same_levels c.args.self.now.inclusion c.loop-row.self.inclusion (i.same.inclusion_cols ∙ sym own.inclusion_cols) (i.same.inclusion_rows ∙ sym own.inclusion_rows) in
    let w = i.walks nodes others k before done h in
    let stopped = c.in_err-read_at.field-0.0 in
    let R : Result (Unit {0}) HeaderStop → Type 0 = λ x. ReadsAt (levels_of c.loop-row.self.inclusion) s w.known w.known_others c.read_at.new.self c.loop-row.step c.read_at.new.step before (done ++ w.bits) c.loop-row.source c.read_at.new.source c.loop-row.blocks.items c.read_at.new.blocks.items x in
    let P : List ℕ → Type 0 = λ ls. ReadsAt ls s w.known w.known_others c.read_at.new.self c.loop-row.step c.read_at.new.step before (done ++ w.bits) c.loop-row.source c.read_at.new.source c.loop-row.blocks.items c.read_at.new.blocks.items (Err stopped) in
    let here = subst P same (subst R c.in_err-read_at.was (c.read_at.ensures.read w.known w.known_others w.knows before (done ++ w.bits) w.holds)) in
    let first = positions_from g c.args.row.now c.args.col.now in
    rw (p.1, p.2) (elim (eqb_tells (col + 1) g.cols) [
      | inl t ↦ walk_halts levels s first (positions_from g row col) (positions_from g (row + 1) 0) nodes others c.loop-row.self c.read_at.new.self c.args.step.now c.loop-row.step c.read_at.new.step before done c.args.source.now c.loop-row.source c.read_at.new.source c.args.blocks.now.items c.loop-row.blocks.items c.read_at.new.blocks.items stopped
          (next_row g row col c.loop-row-test.true t.1) i.piece w here
      | inr t ↦ let less : col + 1 < g.cols = let ne : col + 1 ≢ g.cols = t.1 in omega (arith, i.col_in, ne) in
          walk_halts levels s first (positions_from g row col) (positions_from g row (col + 1)) nodes others c.loop-row.self c.read_at.new.self c.args.step.now c.loop-row.step c.read_at.new.step before done c.args.source.now c.loop-row.source c.read_at.new.source c.args.blocks.now.items c.loop-row.blocks.items c.read_at.new.blocks.items stopped
          (next_in_row g row col c.loop-row-test.true less) i.piece w here
    ])

pub loop-row-smaller-then-col-grid : goal.loop-row-smaller-then-col-grid
loop-row-smaller-then-col-grid c =
    let g = grid_of c.args.grid in
    let i = c.loop-row.invariant in
    let e : positions_from g c.loop-row.row c.loop-row.col ≡ record { band = g.band; col = c.loop-row.col; row = c.loop-row.row } ∷ positions_from g (c.loop-row.row + 1) (0) = next_row g c.loop-row.row c.loop-row.col c.loop-row-test.true c.if-col-grid.true in
    omega (arith, ap (λ (l : List Seat). length l) e)

pub loop-row-preserved-then-col-grid : goal.loop-row-preserved-then-col-grid
loop-row-preserved-then-col-grid c =
    let g = grid_of c.args.grid in
    let i = c.loop-row.invariant in
    let row = c.loop-row.row in
    let col = c.loop-row.col in
    let s : Seat = record { band = g.band; col = col; row = row } in
    let next = positions_from g (c.loop-row.row + 1) (0) in
    let e : positions_from g row col ≡ s ∷ next = next_row g c.loop-row.row c.loop-row.col c.loop-row-test.true c.if-col-grid.true in
    let own = c.requires.same in
    let levels = levels_of c.args.self.now.inclusion in
    let same : levels_of c.loop-row.self.inclusion ≡ levels = same_levels c.args.self.now.inclusion c.loop-row.self.inclusion (i.same.inclusion_cols ∙ sym own.inclusion_cols) (i.same.inclusion_rows ∙ sym own.inclusion_rows) in
    let new = c.read_at.new.self in
    let a = c.read_at.ensures.inclusion in
    let b = c.read_at.ensures.planes in
    let kept = c.in_ok-read_at.ensures.fits in
    let q = i.ready in
    let R0 : Result (Unit {0}) HeaderStop → Type 0 = λ x. ReadsAt (levels_of c.loop-row.self.inclusion) s q.nodes q.others new c.loop-row.step c.read_at.new.step q.before q.done c.loop-row.source c.read_at.new.source c.loop-row.blocks.items c.read_at.new.blocks.items x in
    let here : ReadAt (levels_of c.loop-row.self.inclusion) s q.nodes q.others new c.loop-row.step q.before q.done c.read_at.new.source c.loop-row.blocks.items c.read_at.new.blocks.items =
    subst R0 c.in_ok-read_at.was (c.read_at.ensures.read q.nodes q.others q.knows q.before q.done q.holds) in
    record {
      within = c.read_at.ensures.within;
      piece = c.read_at.ensures.piece ∙ i.piece;
      ready = record {
        before = q.before;
        done = q.done ++ here.bits;
        nodes = here.known;
        others = here.known_others;
        holds = here.holds;
        knows = here.knows;
        unread = unread_free (levels_of new.planes) (record { band = g.band; col = 0; row = c.loop-row.row + 1 }) here.known_others c.read_at.new.step c.read_at.new.source.bits.part kept.0;
      };
      fits = fits_next c.read_at.new.step c.read_at.new.source.bits.part kept.1 kept.0;
      same = record { inclusion_cols = a.cols ∙ i.same.inclusion_cols; inclusion_rows = a.rows ∙ i.same.inclusion_rows; planes_cols = b.cols ∙ i.same.planes_cols; planes_rows = b.rows ∙ i.same.planes_rows };
      col_in = omega (arith, i.col_in);
      few = omega (arith, i.few, c.read_at.ensures.few, ap (λ (l : List Seat). length l) e);
      room = omega (arith, i.room, c.read_at.ensures.few, c.read_at.ensures.capacity, ap (λ (l : List Seat). length l) e);
      none = λ z. kept.1;
      inclusion = shape_kept c.args.self.now.inclusion c.loop-row.self.inclusion new.inclusion i.inclusion a;
      planes = shape_kept c.args.self.now.planes c.loop-row.self.planes new.planes i.planes b;
      capacity = c.read_at.ensures.capacity ∙ i.capacity;
      walks = λ nodes others k before done h.
          let w = i.walks nodes others k before done h in
          let R : Result (Unit {0}) HeaderStop → Type 0 = λ x. ReadsAt (levels_of c.loop-row.self.inclusion) s w.known w.known_others new c.loop-row.step c.read_at.new.step before (done ++ w.bits) c.loop-row.source c.read_at.new.source c.loop-row.blocks.items c.read_at.new.blocks.items x in
          let P : List ℕ → Type 0 = λ ls. ReadAt ls s w.known w.known_others new c.loop-row.step before (done ++ w.bits) c.read_at.new.source c.loop-row.blocks.items c.read_at.new.blocks.items in
          walk_step levels s (positions_from g c.args.row.now c.args.col.now) (positions_from g row col) next nodes others c.loop-row.self new c.args.step.now c.loop-row.step c.read_at.new.step before done c.loop-row.source c.read_at.new.source c.args.blocks.now.items c.loop-row.blocks.items c.read_at.new.blocks.items
          e kept.1 w (subst P same (subst R c.in_ok-read_at.was (c.read_at.ensures.read w.known w.known_others w.knows before (done ++ w.bits) w.holds)));
    }

pub loop-row-smaller : goal.loop-row-smaller
loop-row-smaller c =
    let g = grid_of c.args.grid in
    let i = c.loop-row.invariant in
    let e : positions_from g c.loop-row.row c.loop-row.col ≡ record { band = g.band; col = c.loop-row.col; row = c.loop-row.row } ∷ positions_from g (c.loop-row.row) (c.loop-row.col + 1) = next_in_row g c.loop-row.row c.loop-row.col c.loop-row-test.true (let ne : c.loop-row.col + 1 ≢ c.args.grid.cols = c.if-col-grid.false in omega (arith, i.col_in, ne)) in
    omega (arith, ap (λ (l : List Seat). length l) e)

pub loop-row-preserved : goal.loop-row-preserved
loop-row-preserved c =
    let g = grid_of c.args.grid in
    let i = c.loop-row.invariant in
    let row = c.loop-row.row in
    let col = c.loop-row.col in
    let s : Seat = record { band = g.band; col = col; row = row } in
    let next = positions_from g (c.loop-row.row) (c.loop-row.col + 1) in
    let e : positions_from g row col ≡ s ∷ next = next_in_row g c.loop-row.row c.loop-row.col c.loop-row-test.true (let ne : c.loop-row.col + 1 ≢ c.args.grid.cols = c.if-col-grid.false in omega (arith, i.col_in, ne)) in
    let own = c.requires.same in
    let levels = levels_of c.args.self.now.inclusion in
    let same : levels_of c.loop-row.self.inclusion ≡ levels = same_levels c.args.self.now.inclusion c.loop-row.self.inclusion (i.same.inclusion_cols ∙ sym own.inclusion_cols) (i.same.inclusion_rows ∙ sym own.inclusion_rows) in
    let new = c.read_at.new.self in
    let a = c.read_at.ensures.inclusion in
    let b = c.read_at.ensures.planes in
    let kept = c.in_ok-read_at.ensures.fits in
    let q = i.ready in
    let R0 : Result (Unit {0}) HeaderStop → Type 0 = λ x. ReadsAt (levels_of c.loop-row.self.inclusion) s q.nodes q.others new c.loop-row.step c.read_at.new.step q.before q.done c.loop-row.source c.read_at.new.source c.loop-row.blocks.items c.read_at.new.blocks.items x in
    let here : ReadAt (levels_of c.loop-row.self.inclusion) s q.nodes q.others new c.loop-row.step q.before q.done c.read_at.new.source c.loop-row.blocks.items c.read_at.new.blocks.items =
    subst R0 c.in_ok-read_at.was (c.read_at.ensures.read q.nodes q.others q.knows q.before q.done q.holds) in
    record {
      within = c.read_at.ensures.within;
      piece = c.read_at.ensures.piece ∙ i.piece;
      ready = record {
        before = q.before;
        done = q.done ++ here.bits;
        nodes = here.known;
        others = here.known_others;
        holds = here.holds;
        knows = here.knows;
        unread = unread_free (levels_of new.planes) (record { band = g.band; col = c.loop-row.col + 1; row = c.loop-row.row }) here.known_others c.read_at.new.step c.read_at.new.source.bits.part kept.0;
      };
      fits = fits_next c.read_at.new.step c.read_at.new.source.bits.part kept.1 kept.0;
      same = record { inclusion_cols = a.cols ∙ i.same.inclusion_cols; inclusion_rows = a.rows ∙ i.same.inclusion_rows; planes_cols = b.cols ∙ i.same.planes_cols; planes_rows = b.rows ∙ i.same.planes_rows };
      col_in = let ne : c.loop-row.col + 1 ≢ c.args.grid.cols = c.if-col-grid.false in omega (arith, i.col_in, ne);
      few = omega (arith, i.few, c.read_at.ensures.few, ap (λ (l : List Seat). length l) e);
      room = omega (arith, i.room, c.read_at.ensures.few, c.read_at.ensures.capacity, ap (λ (l : List Seat). length l) e);
      none = λ z. kept.1;
      inclusion = shape_kept c.args.self.now.inclusion c.loop-row.self.inclusion new.inclusion i.inclusion a;
      planes = shape_kept c.args.self.now.planes c.loop-row.self.planes new.planes i.planes b;
      capacity = c.read_at.ensures.capacity ∙ i.capacity;
      walks = λ nodes others k before done h.
          let w = i.walks nodes others k before done h in
          let R : Result (Unit {0}) HeaderStop → Type 0 = λ x. ReadsAt (levels_of c.loop-row.self.inclusion) s w.known w.known_others new c.loop-row.step c.read_at.new.step before (done ++ w.bits) c.loop-row.source c.read_at.new.source c.loop-row.blocks.items c.read_at.new.blocks.items x in
          let P : List ℕ → Type 0 = λ ls. ReadAt ls s w.known w.known_others new c.loop-row.step before (done ++ w.bits) c.read_at.new.source c.loop-row.blocks.items c.read_at.new.blocks.items in
          walk_step levels s (positions_from g c.args.row.now c.args.col.now) (positions_from g row col) next nodes others c.loop-row.self new c.args.step.now c.loop-row.step c.read_at.new.step before done c.loop-row.source c.read_at.new.source c.args.blocks.now.items c.loop-row.blocks.items c.read_at.new.blocks.items
          e kept.1 w (subst P same (subst R c.in_ok-read_at.was (c.read_at.ensures.read w.known w.known_others w.knows before (done ++ w.bits) w.holds)));
    }
