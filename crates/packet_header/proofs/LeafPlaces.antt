-- The leaves of a grid's trees: each code-block's own, and the trees that they fill.
use Rattle.std.proofs.Common.{◌≡◌, ◌≢◌, ◌<◌, ◌≤◌, ◌⊎◌, ◌+◌, ◌*◌, ◌++◌, ℕ, zero, suc, Bool, true, false, List, [], ◌∷◌, length, replicate, slice_index, slice_set, refl, sym, ◌∙◌, ap, subst, inl, inr, arith}
use Rattle.std.specs.List.{AllByRecursion, filter, list_any}
use Rattle.std.proofs.Math.Nat.{mul-le-mul_right}
use Rattle.std.proofs.lemmas.Bool.Decides.{eqb_tells}
use Rattle.std.proofs.lemmas.List.{get_or-replicate, length-replicate, length-set, get_or-set_other, get_or-set_same}
use Rattle.codestream_model.specs.Values as values
use Rattle.codestream_model.specs.TagTrees.{Seat, IsSeat, seat_of}
use Rattle.codestream_model.specs.HeaderPieces.{stands_at}
use Rattle.codestream_model.specs.PacketHeader.{is_included, IsWithinLimits}
use Rattle.codestream_model.proofs.TreeLemmas.{either, same_number, among_all}
use Rattle.codestream_model.proofs.SeatLemmas.{all-append, all-behind, all-map, stands_here}
use Rattle.tag_tree.specs.TreeState.{TreeState}
use Rattle.tag_tree.specs.LeafWriting.{IsOn}
use Rattle.tag_tree.proofs.LabelLemmas.{AreLeaves, each_both, holds_inclusion, holds_planes}
use Rattle.packet_header.specs.PositionsWritten.{AreOnGrid, leaf_place, laid, LaysOut, IsFilled, AreWritten}
use Rattle.packet_header.specs.declared.grids.TagTrees.{TagTrees}

-- numbers that differ are in an order
apart_either : (a b : ℕ) → a ≢ b → (a < b) ⊎ (b < a)
apart_either zero zero ne = absurd (ne refl)
apart_either zero (suc b) ne = inl (omega arith)
apart_either (suc a) zero ne = inr (omega arith)
apart_either (suc a) (suc b) ne = elim (apart_either a b (λ e. ne (ap (λ (n : ℕ). suc n) e))) [ inl h ↦ inl (omega arith) | inr h ↦ inr (omega arith) ]

-- where none of some items passes a test, none of fewer does, nor the last
fewer : {X : Type 0} (p : X → Bool) (xs : List X) (x : X) → list_any p (xs ++ x ∷ []) ≡ false → list_any p xs ≡ false
fewer p [] x e = refl
fewer p (y ∷ xs) x e = elim (either (p y)) [
  | inl t ↦ let no : true ≡ false = rw t at e in absurd (cc)
  | inr t ↦ let f : list_any p (xs ++ x ∷ []) ≡ false = rw t at e in rw t (fewer p xs x f)
]

last_fails : {X : Type 0} (p : X → Bool) (xs : List X) (x : X) → list_any p (xs ++ x ∷ []) ≡ false → p x ≡ false
last_fails p [] x e = elim (either (p x)) [
  | inl t ↦ let no : true ≡ false = rw t at e in absurd (cc)
  | inr t ↦ t
]
last_fails p (y ∷ xs) x e = elim (either (p y)) [
  | inl t ↦ let no : true ≡ false = rw t at e in absurd (cc)
  | inr t ↦ let f : list_any p (xs ++ x ∷ []) ≡ false = rw t at e in last_fails p xs x f
]

-- where one item alone passes a test, those before it don't
some_behind : {X : Type 0} (p : X → Bool) (xs : List X) (x : X) (ys : List X) → p x ≡ true → filter p (xs ++ x ∷ ys) ≡ [] → ⊥
some_behind p [] x ys t e = let no : x ∷ filter p ys ≡ [] = rw t at e in absurd (cc)
some_behind p (y ∷ xs) x ys t e = elim (either (p y)) [
  | inl u ↦ let no : y ∷ filter p (xs ++ x ∷ ys) ≡ [] = rw u at e in absurd (cc)
  | inr u ↦ some_behind p xs x ys t (rw u at e)
]

none_before : {X : Type 0} (p : X → Bool) (xs : List X) (x : X) (ys : List X) → p x ≡ true → filter p (xs ++ x ∷ ys) ≡ x ∷ [] → AllByRecursion (λ y. p y ≡ false) xs
none_before p [] x ys t e = tt
none_before p (y ∷ xs) x ys t e = elim (either (p y)) [
  | inl u ↦
      let two : y ∷ filter p (xs ++ x ∷ ys) ≡ x ∷ [] = rw u at e in
      let none : filter p (xs ++ x ∷ ys) ≡ [] = cc in
      absurd (some_behind p xs x ys t none)
  | inr u ↦ (u, none_before p xs x ys t (rw u at e))
]

-- a row further down begins further on
next_row : (cols a b : ℕ) → a < b → a * cols + cols ≤ b * cols
next_row cols a b h =
    let up : (a + 1) * cols ≤ b * cols = mul-le-mul_right cols (omega arith) in
    omega arith

-- a leaf is among those of the grid
pub place_in : (g : values.Grid) (s : Seat) → IsSeat g s → leaf_place g s < g.cols * g.rows
place_in g s i = omega (arith, next_row g.cols s.row g.rows i.row, i.col)

-- and apart from the others
rows_same : (cols a b x y : ℕ) → x < cols → y < cols → a * cols + x ≡ b * cols + y → a ≡ b
rows_same cols a b x y hx hy e = elim (eqb_tells a b) [
  | inl t ↦ t.1
  | inr t ↦
      let ne : a ≢ b = t.1 in
      let order : (a < b) ⊎ (b < a) = apart_either a b ne in
      elim order [
        | inl lt ↦ absurd (omega (arith, next_row cols a b lt))
        | inr lt ↦ absurd (omega (arith, next_row cols b a lt))
      ]
]

pub same_place : (g : values.Grid) (s t : Seat) → IsSeat g s → IsSeat g t → leaf_place g s ≡ leaf_place g t → (s.col ≡ t.col) × (s.row ≡ t.row)
same_place g s t i j e =
    let row : s.row ≡ t.row = rows_same g.cols s.row t.row s.col t.col i.col j.col e in
    let P : ℕ → Type 0 = λ n. n * g.cols + s.col ≡ t.row * g.cols + t.col in
    let f : t.row * g.cols + s.col ≡ t.row * g.cols + t.col = subst P row e in
    (omega arith, row)

-- a code-block at a position's column and row, in its band, is there
stands_if_same : (s : Seat) (b : values.Block) → b.band ≡ s.band → b.col ≡ s.col → b.row ≡ s.row → stands_at s b ≡ true
stands_if_same s b e c r = rw (e, c, r, same_number s.band, same_number s.col, same_number s.row) refl

-- the leaves before the first code-block
pub none_laid : (g : values.Grid) (value : values.Block → ℕ) (other : ℕ) → LaysOut g [] (replicate (g.cols * g.rows) other) value other
none_laid g value other = record {
  size = length-replicate (g.cols * g.rows) other;
  included = tt;
  others = λ s i out. get_or-replicate (g.cols * g.rows) (leaf_place g s) other 0 (place_in g s i);
}

-- a code-block of another band
laid_elsewhere : (g : values.Grid) (done : List values.Block) (b : values.Block) (leaves : List ℕ) (value : values.Block → ℕ) (other : ℕ) → b.band ≢ g.band → LaysOut g done leaves value other → LaysOut g (done ++ b ∷ []) leaves value other
laid_elsewhere g done b leaves value other ne l = record {
  size = l.size;
  included = all-append (λ x. x.band ≡ g.band → slice_index leaves (leaf_place g (seat_of x)) ≡ value x) done (b ∷ []) l.included ((λ e. absurd (ne e)), tt);
  others = λ s i out. l.others s i (fewer (stands_at s) done b out);
}

-- a code-block of the grid's band
laid_here : (g : values.Grid) (done : List values.Block) (b : values.Block) (leaves : List ℕ) (value : values.Block → ℕ) (other : ℕ) → b.band ≡ g.band → IsSeat g (seat_of b)
    → AllByRecursion (λ x. x.band ≡ g.band → IsSeat g (seat_of x)) done → AllByRecursion (λ x. stands_at (seat_of b) x ≡ false) done
    → LaysOut g done leaves value other → LaysOut g (done ++ b ∷ []) (slice_set leaves (leaf_place g (seat_of b)) (value b)) value other
laid_here g done b leaves value other e i on fresh l =
    let p = leaf_place g (seat_of b) in
    let after = slice_set leaves p (value b) in
    let within : p < length leaves = omega (arith, place_in g (seat_of b) i, l.size) in
    record {
      size = length-set leaves p (value b) ∙ l.size;
      included = all-append (λ x. x.band ≡ g.band → slice_index after (leaf_place g (seat_of x)) ≡ value x) done (b ∷ [])
          (each_both (λ x. (x.band ≡ g.band → IsSeat g (seat_of x)) × (stands_at (seat_of b) x ≡ false)) (λ x. x.band ≡ g.band → slice_index leaves (leaf_place g (seat_of x)) ≡ value x) (λ x. x.band ≡ g.band → slice_index after (leaf_place g (seat_of x)) ≡ value x) done
          (λ x there was f.
          let other_place : leaf_place g (seat_of x) ≢ p = λ q.
          (let same = same_place g (seat_of x) (seat_of b) (there.0 f) i q in
          let holds : stands_at (seat_of b) x ≡ true = stands_if_same (seat_of b) x (f ∙ sym e) same.0 same.1 in
          let no : true ≡ false = sym holds ∙ there.1 in
          absurd (cc)) in
          get_or-set_other leaves p (leaf_place g (seat_of x)) (value b) 0 other_place ∙ was f)
          (each_both (λ x. x.band ≡ g.band → IsSeat g (seat_of x)) (λ x. stands_at (seat_of b) x ≡ false) (λ x. (x.band ≡ g.band → IsSeat g (seat_of x)) × (stands_at (seat_of b) x ≡ false)) done (λ x a f. (a, f)) on fresh)
          l.included)
          ((λ f. get_or-set_same leaves p (value b) 0 within), tt);
      others = λ s j out.
          let elsewhere : stands_at s b ≡ false = last_fails (stands_at s) done b out in
          let other_place : leaf_place g s ≢ p = λ q.
          (let same = same_place g s (seat_of b) j i q in
          let holds : stands_at s b ≡ true = stands_if_same s b (e ∙ sym j.band) (sym same.0) (sym same.1) in
          let no : true ≡ false = sym holds ∙ elsewhere in
          absurd (cc)) in
          get_or-set_other leaves p (leaf_place g s) (value b) 0 other_place ∙ l.others s j (fewer (stands_at s) done b out);
    }

-- one code-block more
pub laid_more : (g : values.Grid) (done rest : List values.Block) (b : values.Block) (leaves : List ℕ) (value : values.Block → ℕ) (other : ℕ) → AreOnGrid g (done ++ b ∷ rest)
    → LaysOut g done leaves value other → LaysOut g (done ++ b ∷ []) (laid g b (value b) leaves) value other
laid_more g done rest b leaves value other on_grid l = elim (eqb_tells b.band g.band) [
  | inr t ↦ let ne : b.band ≢ g.band = t.1 in rw t.0 (laid_elsewhere g done b leaves value other ne l)
  | inl t ↦
      let on = all-behind (λ x. x.band ≡ g.band → IsSeat g (seat_of x)) done (b ∷ rest) on_grid.own_band in
      let alone = among_all (λ x. filter (stands_at (seat_of x)) (done ++ b ∷ rest) ≡ x ∷ []) done b rest on_grid.alone in
      let fresh = none_before (stands_at (seat_of b)) done b rest (stands_here b) alone in
      rw t.0 (laid_here g done b leaves value other t.1 (on.1.0 t.1) on.0 fresh l)
]

-- the leaves as those of a tree
tree_leaves : (g : values.Grid) (t : TreeState) (blocks : List values.Block) (leaves : List ℕ) (value : values.Block → ℕ) (other : ℕ) → AreOnGrid g blocks → LaysOut g blocks leaves value other → IsFilled g leaves t → AreLeaves t leaves blocks g.band value other
tree_leaves g t blocks leaves value other on_grid l f =
    let P : ℕ → Type 0 = λ n. AllByRecursion (λ b. b.band ≡ g.band → slice_index leaves (b.row * n + b.col) ≡ value b) blocks in
    let Q : ℕ → Type 0 = λ n. (s : Seat) → IsOn t s → s.band ≡ g.band → is_included blocks s ≡ false → slice_index leaves (s.row * n + s.col) ≡ other in
    record {
      on = all-map (λ b. b.band ≡ g.band → IsSeat g (seat_of b)) (λ b. b.band ≡ g.band → IsOn t (seat_of b)) blocks
          (λ b i e. let s = i e in record { col = rw f.cols s.col; row = rw f.rows s.row }) on_grid.own_band;
      included = subst P (sym f.cols) l.included;
      others = subst Q (sym f.cols) (λ s on e out. l.others s (record { band = e; col = rw f.cols at on.col; row = rw f.rows at on.row }) out);
    }

-- both trees of a grid
pub trees_filled : (g : values.Grid) (t : TagTrees) (blocks : List values.Block) (inclusion planes : List ℕ) → AreOnGrid g blocks
    → LaysOut g blocks inclusion (λ b. 0) 1 → LaysOut g blocks planes (λ b. b.planes) 74 → IsFilled g inclusion t.inclusion → IsFilled g planes t.planes → AreWritten g blocks [] t
trees_filled g t blocks inclusion planes on_grid a b f h = record {
  inclusion = holds_inclusion t.inclusion inclusion blocks g.band (tree_leaves g t.inclusion blocks inclusion (λ x. 0) 1 on_grid a f) f.least;
  planes = holds_planes t.planes planes blocks g.band (tree_leaves g t.planes blocks planes (λ x. x.planes) 74 on_grid b h) (all-map IsWithinLimits (λ x. x.planes ≤ 74) blocks (λ x w. w.planes) on_grid.limits) h.least;
  met = f.unmet;
  met_planes = h.unmet;
}
