-- Labels are lowered leaf by leaf to the least below each node.
use Rattle.std.proofs.Common.{◌≡◌, ◌≢◌, ◌<◌, ◌≤◌, ◌⊎◌, ◌+◌, ◌-◌, ◌*◌, ◌/◌, ◌%◌, ◌^◌, ℕ, zero, suc, min, Bool, true, false, List, [], length, replicate, slice_index, slice_set, Some, None, refl, sym, ◌∙◌, ap, subst, inl, inr, arith, if◌then◌else◌}
use Rattle.std.proofs.lemmas.Bool.Decides.{eqb_tells, leb_tells}
use Rattle.std.proofs.lemmas.Grind.{get_or-set_at}
use Rattle.std.proofs.lemmas.Nat.{mul-add-lt, div-mul-add}
use Rattle.std.proofs.Math.Nat.{div-lt_iff_lt-mul}
use Rattle.codestream_model.specs.TagTrees.{Seat, shares}
use Rattle.codestream_model.proofs.TreeLemmas.{either, same_number, shared}
use Rattle.tag_tree.specs.Places.{place_of}
use Rattle.tag_tree.specs.TreeState.{TreeState}
use Rattle.codestream_model.specs.PacketHeaderReading.{known_label}
use Rattle.tag_tree.specs.LeafReading.{Knows, IsSameShape}
use Rattle.tag_tree.specs.LeafWriting.{IsOn, IsLowered, HoldsLeast, HasMet, held, is_met, lowered_at, leaf_at}
use Rattle.tag_tree.proofs.KnowLemmas.{set_other}
use Rattle.tag_tree.proofs.WayLemmas.{other_level, other_node, one_place}

-- a label as a leaf lowers it, if it is below the node
abbrev pub lowered_to : Bool → ℕ → ℕ → ℕ
lowered_to below was label = if below then min was label else was

-- a node's label where one of its level is lowered
lower_level : (t : TreeState) (s u : Seat) (level label : ℕ) → IsOn t s → IsOn t u → place_of t.cols t.rows level s.col s.row < length t.labels
    → held (lowered_at t (place_of t.cols t.rows level s.col s.row) label) level u ≡ lowered_to (shares level u s) (held t level u) label
lower_level t s u level label at on inside =
    let p = place_of t.cols t.rows level s.col s.row in
    let v = min (slice_index t.labels p) label in
    elim (either (shares level u s)) [
      | inl h ↦
          let one : place_of t.cols t.rows level u.col u.row ≡ p = one_place t level u s h in
          let here : slice_index (slice_set t.labels p v) p ≡ v = get_or-set_at t.labels p p v 0 refl inside in
          rw (h, one) here
      | inr h ↦ rw h (set_other t.labels p (place_of t.cols t.rows level u.col u.row) v 0 (other_node t level u s on at h))
    ]

lower_others : (t : TreeState) (s u : Seat) (l level label : ℕ) → IsOn t s → IsOn t u → l ≢ level
    → held (lowered_at t (place_of t.cols t.rows level s.col s.row) label) l u ≡ held t l u
lower_others t s u l level label at on ne =
    let p = place_of t.cols t.rows level s.col s.row in
    set_other t.labels p (place_of t.cols t.rows l u.col u.row) (min (slice_index t.labels p) label) 0 (other_level t l level u s on at ne)

-- a leaf lowers its own node, and then those above are as they were
pub lowers_leaf : (t : TreeState) (s : Seat) (level label : ℕ) → IsOn t s → place_of t.cols t.rows level s.col s.row < length t.labels → level ≡ 0
    → IsLowered t (lowered_at t (place_of t.cols t.rows level s.col s.row) label) s label level
lowers_leaf t s level label at inside e = record {
  upper = λ l u on above low. (let ne : l ≢ level = λ f. omega arith in lower_others t s u l level label at on ne);
  lower = λ l u on below low.
      let same : level ≡ l = omega arith in
      let P : ℕ → Type 0 = λ n. held (lowered_at t (place_of t.cols t.rows level s.col s.row) label) n u ≡ lowered_to (shares n u s) (held t n u) label in
      subst P same (lower_level t s u level label at on inside);
}

-- a node is lowered, and then those below it
pub lowers_more : (t w : TreeState) (s : Seat) (level label : ℕ) → IsOn t s → place_of t.cols t.rows level s.col s.row < length t.labels → level ≢ 0
    → IsLowered (lowered_at t (place_of t.cols t.rows level s.col s.row) label) w s label (level - 1) → IsLowered t w s label level
lowers_more t w s level label at inside some r =
    let v = lowered_at t (place_of t.cols t.rows level s.col s.row) label in
    record {
      upper = λ l u on above low.
          let here : IsOn v u = record { col = on.col; row = on.row } in
          let ne : l ≢ level = λ f. omega arith in
          r.upper l u here (omega arith) low ∙ lower_others t s u l level label at on ne;
      lower = λ l u on below low.
          let here : IsOn v u = record { col = on.col; row = on.row } in
          elim (eqb_tells l level) [
            | inl e ↦
                let same : level ≡ l = sym e.1 in
                let P : ℕ → Type 0 = λ n. held v n u ≡ lowered_to (shares n u s) (held t n u) label in
                r.upper l u here (omega (arith, e.1)) low ∙ subst P same (lower_level t s u level label at on inside)
            | inr e ↦
                let ne : l ≢ level = e.1 in
                r.lower l u here (omega arith) low ∙ ap (λ (n : ℕ). lowered_to (shares l u s) n label) (lower_others t s u l level label at on ne)
          ];
    }

-- the labels are the least of the first leaves, or 255 where none of them is below
pub record LeastOf (t : TreeState) (leaves : List ℕ) (count : ℕ) : Type 0 where
  pub low : (level : ℕ) (s leaf : Seat) → IsOn t s → IsOn t leaf → level ≤ t.root → leaf.row * t.cols + leaf.col < count → shares level s leaf ≡ true → held t level s ≤ leaf_at t leaves leaf
  pub reached : (level : ℕ) (s : Seat) → IsOn t s → level ≤ t.root → (held t level s ≡ 255) ⊎ ((leaf : Seat) × IsOn t leaf × (shares level s leaf ≡ true) × (held t level s ≡ leaf_at t leaves leaf))

-- an item of a list that is all one
one_of_all : (n i x : ℕ) → i < n → slice_index (replicate n x) i ≡ x
one_of_all zero i x h = absurd (omega arith)
one_of_all (suc n) zero x h = refl
one_of_all (suc n) (suc i) x h = one_of_all n i x (omega arith)

-- no leaf yet
pub least_of_none : (t : TreeState) (leaves : List ℕ) (n : ℕ) → t.labels ≡ replicate n 255 → ((level : ℕ) (s : Seat) → IsOn t s → level ≤ t.root → place_of t.cols t.rows level s.col s.row < n) → LeastOf t leaves 0
least_of_none t leaves n all inside = record {
  low = λ level s leaf on off low few shared. absurd (omega arith);
  reached = λ level s on low. inl (ap (λ (l : List ℕ). slice_index l (place_of t.cols t.rows level s.col s.row)) all ∙ one_of_all n (place_of t.cols t.rows level s.col s.row) 255 (inside level s on low));
}

-- a leaf's place in raster order
abbrev pub leaf_of : ℕ → ℕ → Seat
leaf_of cols k = record { band = 0; col = k % cols; row = k / cols }

pub col_within : (cols k : ℕ) → 0 < cols → k % cols < cols
col_within cols k h = omega arith

pub row_within : (cols rows k : ℕ) → k < cols * rows → k / cols < rows
row_within zero rows k h = absurd (omega arith)
row_within (suc c) rows k h = (let some : 0 < suc c = omega arith in (div-lt_iff_lt-mul some).1 (omega arith))

pub some_cols : (cols rows k : ℕ) → k < cols * rows → 0 < cols
some_cols zero rows k h = absurd (omega arith)
some_cols (suc c) rows k h = omega arith

raster : (cols k : ℕ) → 0 < cols → k / cols * cols + k % cols ≡ k
raster cols k h = omega arith

-- a place in raster order has one row and one column
raster_row : (cols k row col : ℕ) → col < cols → row * cols + col ≡ k → row ≡ k / cols
raster_row cols k row col h e = sym (div-mul-add row cols col h) ∙ ap (λ (n : ℕ). n / cols) e

raster_col : (cols k row col : ℕ) → col < cols → row * cols + col ≡ k → col ≡ k % cols
raster_col cols k row col h e =
    let r : row ≡ k / cols = raster_row cols k row col h e in
    let some : 0 < cols = omega arith in
    let P : ℕ → Type 0 = λ n. n * cols + col ≡ k in
    let f : k / cols * cols + col ≡ k = subst P r e in
    omega (arith, f, raster cols k some)

-- a leaf at a place in raster order shares what the leaf of that place shares
shares_there : (cols k level : ℕ) (s leaf : Seat) → leaf.col < cols → leaf.row * cols + leaf.col ≡ k → shares level s leaf ≡ shares level s (leaf_of cols k)
shares_there cols k level s leaf h e =
    let r : leaf.row ≡ k / cols = raster_row cols k leaf.row leaf.col h e in
    let c : leaf.col ≡ k % cols = raster_col cols k leaf.row leaf.col h e in
    rw (← r, ← c) refl

shares_back : (level : ℕ) (s t u : Seat) → shares level s t ≡ true → shares level s u ≡ true → shares level t u ≡ true
shares_back level s t u e f =
    let a = shared level s t e in
    let b = shared level s u f in
    rw (← a.0, ← a.1, b.0, b.1, same_number (u.col / 2 ^ level), same_number (u.row / 2 ^ level)) refl

-- a label isn't raised, and where the leaf is below it is no more than the leaf
lowered_low : (below : Bool) (was label : ℕ) → lowered_to below was label ≤ was
lowered_low true was label = omega arith
lowered_low false was label = omega arith

lowered_below : (below : Bool) (was label : ℕ) → below ≡ true → lowered_to below was label ≤ label
lowered_below below was label e = rw e (omega arith)

-- it is as it was, or the leaf is below and it is the leaf's
lowered_which : (below : Bool) (was label : ℕ) → (lowered_to below was label ≡ was) ⊎ ((below ≡ true) × (lowered_to below was label ≡ label))
lowered_which false was label = inl refl
lowered_which true was label = elim (leb_tells was label) [
  | inl t ↦ let h : was ≤ label = t.1 in inl (omega arith)
  | inr t ↦ let h : label < was = t.1 in inr (refl, omega arith)
]

-- one leaf more
pub least_of_more : (t u : TreeState) (leaves : List ℕ) (k : ℕ) → u.cols ≡ t.cols → u.rows ≡ t.rows → u.root ≡ t.root → k < t.cols * t.rows
    → IsLowered t u (leaf_of t.cols k) (slice_index leaves k) t.root → LeastOf t leaves k → LeastOf u leaves (k + 1)
least_of_more t u leaves k c r o few is least =
    let here : (s : Seat) → IsOn u s → IsOn t s = λ s on. record { col = rw (← c) on.col; row = rw (← r) on.row } in
    let there : (s : Seat) → IsOn t s → IsOn u s = λ s on. record { col = rw c on.col; row = rw r on.row } in
    let v = slice_index leaves k in
    let some : 0 < t.cols = some_cols t.cols t.rows k few in
    let own : IsOn t (leaf_of t.cols k) = record { col = col_within t.cols k some; row = row_within t.cols t.rows k few } in
    record {
      low = λ level s leaf on off low near e.
          let top : level ≤ t.root = rw (← o) low in
          let at = here s on in
          let by = here leaf off in
          let next : held u level s ≡ lowered_to (shares level s (leaf_of t.cols k)) (held t level s) v = is.lower level s at top top in
          let index : leaf.row * t.cols + leaf.col < k + 1 = rw (← c) near in
          let same_leaf : leaf_at u leaves leaf ≡ leaf_at t leaves leaf = rw c refl in
          elim (eqb_tells (leaf.row * t.cols + leaf.col) k) [
            | inl x ↦
                let place : leaf.row * t.cols + leaf.col ≡ k = x.1 in
                let below : shares level s (leaf_of t.cols k) ≡ true = sym (shares_there t.cols k level s leaf by.col place) ∙ e in
                let m : lowered_to (shares level s (leaf_of t.cols k)) (held t level s) v ≤ v = lowered_below (shares level s (leaf_of t.cols k)) (held t level s) v below in
                let f : leaf_at t leaves leaf ≡ v = ap (slice_index leaves) place in
                omega (arith, next, m, f, same_leaf)
            | inr x ↦
                let ne : leaf.row * t.cols + leaf.col ≢ k = x.1 in
                let m : held t level s ≤ leaf_at t leaves leaf = least.low level s leaf at by top (omega arith) e in
                omega (arith, next, m, same_leaf, lowered_low (shares level s (leaf_of t.cols k)) (held t level s) v)
          ];
      reached = λ level s on low.
          let top : level ≤ t.root = rw (← o) low in
          let at = here s on in
          let next : held u level s ≡ lowered_to (shares level s (leaf_of t.cols k)) (held t level s) v = is.lower level s at top top in
          elim (lowered_which (shares level s (leaf_of t.cols k)) (held t level s) v) [
            | inl same ↦ elim (least.reached level s at top) [
              | inl all ↦ inl (next ∙ (same ∙ all))
              | inr l ↦ inr (l.0, there l.0 l.1, l.2, next ∙ (same ∙ (l.3 ∙ rw c refl)))
            ]
            | inr w ↦
                let f : leaf_at u leaves (leaf_of t.cols k) ≡ v = rw c (ap (slice_index leaves) (raster t.cols k some)) in
                inr (leaf_of t.cols k, there (leaf_of t.cols k) own, w.0, next ∙ (w.1 ∙ sym f))
          ];
    }

-- a leaf shares its own nodes
shares_own : (level : ℕ) (s : Seat) → shares level s s ≡ true
shares_own level s = rw (same_number (s.col / 2 ^ level), same_number (s.row / 2 ^ level)) refl

-- a position's place in raster order is before the end
before_end : (cols rows row col : ℕ) → col < cols → row < rows → row * cols + col < cols * rows
before_end cols rows row col h t = omega (arith, mul-add-lt row cols col rows t h)

-- all leaves
pub least_of_all : (t : TreeState) (leaves : List ℕ) → ((i : ℕ) → slice_index leaves i < 256) → LeastOf t leaves (t.cols * t.rows) → HoldsLeast t leaves
least_of_all t leaves bytes least =
    let low : (level : ℕ) (s leaf : Seat) → IsOn t s → IsOn t leaf → level ≤ t.root → shares level s leaf ≡ true → held t level s ≤ leaf_at t leaves leaf =
    λ level s leaf on off low e. least.low level s leaf on off low (before_end t.cols t.rows leaf.row leaf.col off.col off.row) e in
    record {
      low = low;
      reached = λ level s on top. elim (least.reached level s on top) [
        | inl all ↦
            let own : held t level s ≤ leaf_at t leaves s = low level s s on on top (shares_own level s) in
            (s, on, shares_own level s, omega (arith, own, all, bytes (s.row * t.cols + s.col)))
        | inr l ↦ l
      ];
    }

-- nothing is met where nothing is known
none_told : (met : Bool) (label : ℕ) → None ≡ (if met then Some label else None) → met ≡ false
none_told true label e = absurd (cc)
none_told false label e = refl

pub none_met : (t u : TreeState) → u.cols ≡ t.cols → u.rows ≡ t.rows → u.root ≡ t.root → u.met ≡ t.met → Knows t [] → HasMet u []
unfolding known_label
none_met t u c r o m k = record {
  each = λ level s on low.
      let same : is_met u level s ≡ is_met t level s = rw (m, c, r) refl in
      same ∙ none_told (is_met t level s) (held t level s) (k.told level s (rw (← c) on.col) (rw (← r) on.row) (rw (← o) low));
}

-- a tree that keeps its shape twice keeps it
pub same_twice : (t u v : TreeState) → IsSameShape t u → IsSameShape u v → IsSameShape t v
same_twice t u v a b = record { leaves = b.leaves ∙ a.leaves; cols = b.cols ∙ a.cols; rows = b.rows ∙ a.rows; root = b.root ∙ a.root }
