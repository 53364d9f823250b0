-- A leaf on its way down: the nodes on its path are met and written one by one.
use Rattle.std.proofs.Common.{◌≡◌, ◌≢◌, ◌<◌, ◌≤◌, ◌+◌, ◌-◌, ◌/◌, ◌^◌, ◌==◌, ◌||◌, ◌++◌, ℕ, Bool, true, false, not, List, [], ◌∷◌, length, slice_index_or, slice_set, Result, Ok, Err, IfOk, refl, sym, ◌∙◌, ap, subst, inl, inr, arith, if◌then◌else◌}
use Rattle.std.specs.List.{filter, flat_map, list_any}
use Rattle.std.proofs.lemmas.Bool.Decides.{eqb_tells}
use Rattle.std.proofs.lemmas.List.{append-nil}
use Rattle.std.proofs.lemmas.Grind.{get_or-set_at}
use Rattle.std.proofs.lemmas.List.Folds.{list_any-append}
use Rattle.codestream_model.specs.Values.{Grid}
use Rattle.codestream_model.specs.TagTrees.{Seat, Labels, label, parent_label, shares, levels_from, root_level}
use Rattle.codestream_model.proofs.TreeLemmas.{either, same_number, shared, or_false}
use Rattle.tag_tree.specs.Places.{place_of}
use Rattle.tag_tree.specs.TreeState.{TreeState}
use Rattle.tag_tree.specs.LeafReading.{IsSameShape}
use Rattle.tag_tree.specs.LeafWriting.{IsOn, Holds, HasMet, HasMetFrom, held, is_met, marked_at, node_bits, bits_down}
use Rattle.tag_tree.proofs.PlaceLemmas.{levels_apart, same_node}
use Rattle.tag_tree.proofs.KnowLemmas.{set_other, apart}
use Rattle.tag_tree.proofs.AnswerLemmas.{leaf_levels, lower_levels}

-- nodes of different levels, and nodes that aren't shared, have different places
pub other_level : (t : TreeState) (l level : ℕ) (u s : Seat) → IsOn t u → IsOn t s → l ≢ level → place_of t.cols t.rows level s.col s.row ≢ place_of t.cols t.rows l u.col u.row
other_level t l level u s on at d e = elim (apart l level d) [
  | inl f ↦ levels_apart t.cols t.rows l level u.col u.row s.col s.row on.col on.row f (sym e)
  | inr f ↦ levels_apart t.cols t.rows level l s.col s.row u.col u.row at.col at.row f e
]

pub other_node : (t : TreeState) (level : ℕ) (u s : Seat) → IsOn t u → IsOn t s → shares level u s ≡ false → place_of t.cols t.rows level s.col s.row ≢ place_of t.cols t.rows level u.col u.row
other_node t level u s on at d e =
    let n = same_node t.cols t.rows level s.col s.row u.col u.row at.col on.col e in
    let y : shares level u s ≡ true = rw (n.0, n.1, same_number (u.col / 2 ^ level), same_number (u.row / 2 ^ level)) refl in
    let z : true ≡ false = sym y ∙ d in
    cc

-- a shared node has one place
pub one_place : (t : TreeState) (level : ℕ) (u s : Seat) → shares level u s ≡ true → place_of t.cols t.rows level u.col u.row ≡ place_of t.cols t.rows level s.col s.row
one_place t level u s e = let p = shared level u s e in rw (p.0, p.1) refl

-- one more leaf shares a node or doesn't
or_true : (b : Bool) → (b || true) ≡ true
or_true true = refl
or_true false = refl

any_more : (level : ℕ) (t s : Seat) (before : List Seat) → list_any (shares level t) (before ++ s ∷ []) ≡ (list_any (shares level t) before || shares level t s)
any_more level t s before =
    list_any-append (shares level t) before (s ∷ []) ∙ ap (λ (b : Bool). list_any (shares level t) before || b) (or_false (shares level t s))

-- what is met of a level where a node is marked
marked_level : (t : TreeState) (before : List Seat) (s u : Seat) (level : ℕ) → IsOn t s → IsOn t u → place_of t.cols t.rows level s.col s.row < length t.met → is_met t level u ≡ list_any (shares level u) before
    → is_met (marked_at t (place_of t.cols t.rows level s.col s.row)) level u ≡ list_any (shares level u) (before ++ s ∷ [])
marked_level t before s u level at on inside was =
    let p = place_of t.cols t.rows level s.col s.row in
    elim (either (shares level u s)) [
      | inl h ↦
          let here : slice_index_or (slice_set t.met p true) p false ≡ true = get_or-set_at t.met p p true false refl inside in
          let P : ℕ → Type 0 = λ n. slice_index_or (slice_set t.met p true) n false ≡ true in
          let met : is_met (marked_at t p) level u ≡ true = subst P (sym (one_place t level u s h)) here in
          met ∙ sym (any_more level u s before ∙ (ap (λ (b : Bool). list_any (shares level u) before || b) h ∙ or_true (list_any (shares level u) before)))
      | inr h ↦
          set_other t.met p (place_of t.cols t.rows level u.col u.row) true false (other_node t level u s on at h)
          ∙ (was ∙ sym (any_more level u s before ∙ (ap (λ (b : Bool). list_any (shares level u) before || b) h ∙ or_false (list_any (shares level u) before))))
    ]

-- one level further down
pub marks_node : (t : TreeState) (before : List Seat) (s : Seat) (level : ℕ) → IsOn t s → place_of t.cols t.rows level s.col s.row < length t.met → HasMetFrom t before s (level + 1)
    → HasMetFrom (marked_at t (place_of t.cols t.rows level s.col s.row)) before s level
marks_node t before s level at inside m =
    let p = place_of t.cols t.rows level s.col s.row in
    record {
      upper = λ l u here from low.
          let on : IsOn t u = record { col = here.col; row = here.row } in
          elim (eqb_tells l level) [
            | inl e ↦
                let P : ℕ → Type 0 = λ n. is_met (marked_at t p) n u ≡ list_any (shares n u) (before ++ s ∷ []) in
                let below : l < level + 1 = omega (arith, e.1) in
                let Q : ℕ → Type 0 = λ n. is_met t n u ≡ list_any (shares n u) before in
                subst P (sym e.1) (marked_level t before s u level at on inside (subst Q e.1 (m.lower l u on below low)))
            | inr e ↦
                let ne : l ≢ level = e.1 in
                set_other t.met p (place_of t.cols t.rows l u.col u.row) true false (other_level t l level u s on at ne) ∙ m.upper l u on (omega arith) low
          ];
      lower = λ l u here below low.
          let on : IsOn t u = record { col = here.col; row = here.row } in
          let ne : l ≢ level = λ e. omega arith in
          set_other t.met p (place_of t.cols t.rows l u.col u.row) true false (other_level t l level u s on at ne) ∙ m.lower l u on (omega arith) low;
    }

-- above the root and at the leaves
pub none_on_way : (t : TreeState) (before : List Seat) (s : Seat) → HasMet t before → HasMetFrom t before s (t.root + 1)
none_on_way t before s m = record {
  upper = λ l u on from low. absurd (omega arith);
  lower = λ l u on below low. m.each l u on low;
}

pub all_on_way : (t : TreeState) (before : List Seat) (s : Seat) → HasMetFrom t before s 0 → HasMet t (before ++ s ∷ [])
all_on_way t before s m = record { each = λ l u on low. m.upper l u on (omega arith) low }

-- a tree that keeps its shape and its labels holds what it held
pub still_holds : (t u : TreeState) (labels : Labels) → u.labels ≡ t.labels → u.cols ≡ t.cols → u.rows ≡ t.rows → u.root ≡ t.root → Holds t labels → Holds u labels
still_holds t u labels e c r o h = record {
  each = λ level s on low.
      let here : IsOn t s = record { col = rw c at on.col; row = rw r at on.row } in
      let same : held u level s ≡ held t level s = rw (e, c, r) refl in
      same ∙ h.each level s here (rw o at low);
}

pub holds_after : (t u : TreeState) (labels : Labels) → IsSameShape t u → u.labels ≡ t.labels → Holds t labels → Holds u labels
holds_after t u labels same e h = still_holds t u labels e same.cols same.rows same.root h

-- the bits of a node, by the labels and the leaves before
abbrev pub first_bits : (ℕ → ℕ → List Bool) → Grid → Labels → List Seat → Seat → ℕ → List Bool
first_bits step g labels before s level = if list_any (shares level s) before then [] else step (parent_label g labels level s) (label labels level s)

pub node_bits_are : (step : ℕ → ℕ → List Bool) (t : TreeState) (g : Grid) (labels : Labels) (before : List Seat) (s : Seat) (level above : ℕ) → IsOn t s → level ≤ t.root
    → Holds t labels → HasMetFrom t before s (level + 1) → above ≡ parent_label g labels level s
    → node_bits step t (place_of t.cols t.rows level s.col s.row) above ≡ first_bits step g labels before s level
node_bits_are step t g labels before s level above at low h m e =
    let a : is_met t level s ≡ list_any (shares level s) before = m.lower level s at (omega arith) low in
    let b : held t level s ≡ label labels level s = h.each level s at low in
    ap (λ (x : Bool). if x then [] else step above (held t level s)) a
    ∙ (ap (λ (n : ℕ). if list_any (shares level s) before then [] else step above n) b
    ∙ ap (λ (n : ℕ). if list_any (shares level s) before then [] else step n (label labels level s)) e)

-- the bits of levels, one by one
bits_of_level : (step : ℕ → List Bool) (p : ℕ → Bool) (level : ℕ) (levels : List ℕ) → flat_map step (filter (λ l. not (p l)) (level ∷ levels)) ≡ (if p level then [] else step level) ++ flat_map step (filter (λ l. not (p l)) levels)
bits_of_level step p level levels = elim (either (p level)) [
  | inl e ↦ rw e refl
  | inr e ↦ rw e refl
]

pub bits_at_leaf : (step : ℕ → ℕ → List Bool) (g : Grid) (labels : Labels) (before : List Seat) (s : Seat) (level : ℕ) → level ≡ 0 → bits_down step g labels before s level ≡ first_bits step g labels before s level
bits_at_leaf step g labels before s level e =
    let f : ℕ → List Bool = λ l. step (parent_label g labels l s) (label labels l s) in
    let p : ℕ → Bool = λ l. list_any (shares l s) before in
    ap (λ (l : List ℕ). flat_map f (filter (λ k. not (p k)) l)) (leaf_levels level e)
    ∙ (bits_of_level f p level [] ∙ append-nil (first_bits step g labels before s level))

pub bits_by_node : (step : ℕ → ℕ → List Bool) (g : Grid) (labels : Labels) (before : List Seat) (s : Seat) (level : ℕ) → level ≢ 0
    → bits_down step g labels before s level ≡ first_bits step g labels before s level ++ bits_down step g labels before s (level - 1)
bits_by_node step g labels before s level e =
    let f : ℕ → List Bool = λ l. step (parent_label g labels l s) (label labels l s) in
    let p : ℕ → Bool = λ l. list_any (shares l s) before in
    ap (λ (l : List ℕ). flat_map f (filter (λ k. not (p k)) l)) (lower_levels level e) ∙ bits_of_level f p level (levels_from (level - 1))

-- the bits of a level come first
pub bits_split : (step : ℕ → ℕ → List Bool) (g : Grid) (labels : Labels) (before : List Seat) (s : Seat) (level : ℕ) → (rest : List Bool) × (bits_down step g labels before s level ≡ first_bits step g labels before s level ++ rest)
bits_split step g labels before s level = elim (eqb_tells level 0) [
  | inl e ↦ ([], bits_at_leaf step g labels before s level e.1 ∙ sym (append-nil (first_bits step g labels before s level)))
  | inr e ↦ (bits_down step g labels before s (level - 1), bits_by_node step g labels before s level e.1)
]

-- a node's label is above its children's
pub label_above : (g : Grid) (labels : Labels) (s : Seat) (level : ℕ) → level ≢ 0 → level ≤ root_level g → label labels level s ≡ parent_label g labels (level - 1) s
label_above g labels s level e low =
    let one : level - 1 + 1 ≡ level = omega arith in
    let below : (level - 1 == root_level g) ≡ false = elim (eqb_tells (level - 1) (root_level g)) [
      | inl x ↦ absurd (omega (arith, x.1))
      | inr x ↦ x.0
    ] in
    sym (ap (λ (b : Bool). if b then 0 else label labels (level - 1 + 1) s) below ∙ ap (λ (n : ℕ). label labels n s) one)

pub none_above : (g : Grid) (labels : Labels) (s : Seat) (level : ℕ) → level ≡ root_level g → 0 ≡ parent_label g labels level s
none_above g labels s level e =
    let top : (level == root_level g) ≡ true = rw e (same_number (root_level g)) in
    sym (ap (λ (b : Bool). if b then 0 else label labels (level + 1) s) top)

-- a fact that follows where a call succeeds
pub ok_then : {A E : Type 0} (r : Result A E) (P Q : A → Type 0) → IfOk r P → ((x : A) → P x → Q x) → IfOk r Q
ok_then (Ok x) P Q h f = f x h
ok_then (Err e) P Q h f = tt

-- the nodes that were met after a leaf
pub met_behind : (t u : TreeState) (before : List Seat) (s : Seat) (top : ℕ) → top ≡ t.root → (HasMetFrom t before s (top + 1) → HasMetFrom u before s 0) → HasMet t before → HasMet u (before ++ s ∷ [])
met_behind t u before s top e f m =
    let P : ℕ → Type 0 = λ n. HasMetFrom t before s (n + 1) in
    all_on_way u before s (f (subst P (sym e) (none_on_way t before s m)))
