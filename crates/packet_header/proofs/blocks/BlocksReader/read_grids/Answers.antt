-- The grids, one after another.
use Rattle.std.proofs.Common.{◌≡◌, ◌+◌, ◌++◌, ℕ, Bool, List, ◌∷◌, map, drop, vec_capacity, Result, refl, sym, ◌∙◌, ap, subst}
use Rattle.std.proofs.lemmas.Result.{err_from_is_err_and}
use Rattle.codestream_model.specs.Values as values
use Rattle.codestream_model.specs.StuffedBits.{packed_bits}
use Rattle.codestream_model.specs.PacketHeaderReading.{Read}
use Rattle.precinct_geometry.specs.Spans.{grid_of}
use Rattle.precinct_geometry.specs.declared.place.Grid.{Grid}
use Rattle.packet_header.specs.Moves.{taken_of, IsStop}
use Rattle.packet_header.specs.Blocks.{grids_left, IsSameRoom, HasTaken, TookPart, later_grids}
use Rattle.packet_header.specs.declared.blocks.BlocksReader.{BlocksReader}
use Rattle.packet_header.specs.declared.refusal.HeaderStop.{HeaderStop}
use Rattle.packet_header.proofs.GridMoves.{grid_entered}
use Rattle.packet_header.proofs.blocks.BlocksReader.read_grids.Goals as goal

-- room that stays twice
same_room : (x y z : BlocksReader) → IsSameRoom x y → IsSameRoom y z → IsSameRoom x z
same_room x y z a b = record { inclusion = b.inclusion ∙ a.inclusion; planes = b.planes ∙ a.planes; blocks = b.blocks ∙ a.blocks; bands = b.bands ∙ a.bands }

pub loop-own-init : goal.loop-own-init
loop-own-init c = record {
  within = c.requires.within;
  piece = refl;
  begun = c.requires.begun;
  same = record { inclusion = refl; planes = refl; blocks = refl; bands = refl };
  ready = c.requires.ready;
  taken = λ first before t. t;
}

pub returns-in_err-read_grid-clause-read : goal.returns-in_err-read_grid-clause-read
returns-in_err-read_grid-clause-read c = λ first before t.
    let p = err_from_is_err_and c.from_residual.result c.from_residual.ensures.1 in
    let i = c.loop-own.invariant in
    let stopped = c.in_err-read_grid.field-0.0 in
    let R : Result (Unit {0}) HeaderStop → Type 0 = λ x. TookPart first c.read_grid.new.self before c.loop-own.source c.read_grid.new.source x in
    let q = subst R c.in_err-read_grid.was (c.read_grid.ensures.read first before (i.taken first before t)) in
    let P : List ℕ → Type 0 = λ l. IsStop (first (packed_bits (before ++ l)).bits) (packed_bits (before ++ l)).broken_at stopped in
    rw (p.1, p.2) (subst P i.piece q.0, q.1)

pub returns-in_err-read_grid-clause-same : goal.returns-in_err-read_grid-clause-same
returns-in_err-read_grid-clause-same c = same_room c.args.self.now c.loop-own.self c.read_grid.new.self c.loop-own.invariant.same c.read_grid.ensures.same

-- the grids that are left stay
left_kept : (r mid : BlocksReader) (own : Grid) → mid.grid ≡ r.grid → mid.bands.items ≡ r.bands.items → grids_left r ≡ grid_of own ∷ later_grids (r.grid + 1) r → grids_left mid ≡ grid_of own ∷ later_grids (r.grid + 1) r
left_kept r mid own e f g = ap (λ (n : ℕ). map grid_of (drop n mid.bands.items)) e ∙ (ap (λ (l : List Grid). map grid_of (drop r.grid l)) f ∙ g)

later_kept : (r mid : BlocksReader) → mid.grid ≡ r.grid → mid.bands.items ≡ r.bands.items → later_grids (mid.grid + 1) mid ≡ later_grids (r.grid + 1) r
later_kept r mid e f = ap (λ (n : ℕ). map grid_of (drop (n + 1) mid.bands.items)) e ∙ ap (λ (l : List Grid). map grid_of (drop (r.grid + 1) l)) f

-- the next grid is entered
goes_on : (c : goal.After-enter) (first : List Bool → Read (List values.Block)) (before : List ℕ) → HasTaken first c.loop-own.self (taken_of before c.loop-own.source) c.loop-own.source.bits
    → HasTaken first c.enter.new.self (taken_of before c.read_grid.new.source) c.read_grid.new.source.bits
goes_on c first before m =
    let r = c.loop-own.self in
    let mid = c.read_grid.new.self in
    let new = c.read_grid.new.source in
    let own = c.in-Some.own in
    let e = c.read_grid.ensures.grid in
    let f = c.read_grid.ensures.same.bands in
    let R : Result (Unit {0}) HeaderStop → Type 0 = λ x. TookPart first mid before c.loop-own.source new x in
    let q = subst R c.in_ok-read_grid.was (c.read_grid.ensures.read first before m) in
    let P : BlocksReader → Type 0 = λ x. HasTaken first x (taken_of before new) new.bits in
    subst P (sym c.enter.ensures.place) (grid_entered first (grid_of own) (later_grids (r.grid + 1) r) mid (mid.grid + 1) c.enter.new.self.trees (taken_of before new) new.bits q
    (left_kept r mid own e f c.in-Some.ensures.current.0) (later_kept r mid e f) c.read_grid.ensures.begun c.in_ok-read_grid.ensures.whole c.enter.ensures.trees c.enter.ensures.room c.enter.ensures.planes_room)

pub loop-own-preserved : goal.loop-own-preserved
loop-own-preserved c =
    let i = c.loop-own.invariant in
    let place = c.enter.ensures.place in
    let last : IsSameRoom c.read_grid.new.self c.enter.new.self = record { inclusion = c.enter.ensures.room; planes = c.enter.ensures.planes_room; blocks = ap (λ (x : BlocksReader). vec_capacity x.blocks) place; bands = ap (λ (x : BlocksReader). x.bands.items) place } in
    let t = i.ready in
    record {
      within = c.read_grid.ensures.within;
      piece = c.read_grid.ensures.piece ∙ i.piece;
      begun = ap (λ (x : BlocksReader). x.begun) place ∙ c.read_grid.ensures.begun;
      same = same_room c.args.self.now c.read_grid.new.self c.enter.new.self (same_room c.args.self.now c.loop-own.self c.read_grid.new.self i.same c.read_grid.ensures.same) last;
      ready = (t.0, t.1, goes_on c t.0 t.1 t.2);
      taken = λ first before m. goes_on c first before (i.taken first before m);
    }

pub returns-clause-read : goal.returns-clause-read
returns-clause-read c = λ first before t. (c.loop-own.invariant.taken first before t, c.in_default.ensures.current, c.loop-own.invariant.begun)
