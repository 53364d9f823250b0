-- What a tree knows: nothing at first, and one node more after each that is met.
use Rattle.std.proofs.Common.{◌≡◌, ◌≢◌, ◌<◌, ◌≤◌, ◌⊎◌, ◌/◌, ◌^◌, ◌++◌, ℕ, zero, suc, Bool, true, false, List, [], ◌∷◌, length, take, replicate, slice_index, slice_index_or, slice_set, Some, refl, sym, ◌∙◌, ap, subst, inl, inr, arith}
use Rattle.std.proofs.lemmas.Bool.Decides.{eqb_tells}
use Rattle.std.proofs.lemmas.Grind.{get_or-set_at}
use Rattle.codestream_model.specs.TagTrees.{Seat, shares}
use Rattle.codestream_model.specs.PacketHeaderReading.{Node, node_of, known_label}
use Rattle.codestream_model.proofs.TreeLemmas.{either, same_number, shared}
use Rattle.tag_tree.specs.Places.{place_of}
use Rattle.tag_tree.specs.TreeState.{TreeState}
use Rattle.tag_tree.specs.LeafReading.{told_at, met_at, Knows}
use Rattle.tag_tree.proofs.PlaceLemmas.{levels_apart, same_node}

-- a list whose first items were cleared is clear there
pub cleared : (n len place : ℕ) (rest : List Bool) → place < n → slice_index_or (take len (replicate n false ++ rest)) place false ≡ false
cleared zero len place rest h = absurd (omega (arith, h))
cleared (suc n) zero place rest h = refl
cleared (suc n) (suc len) zero rest h = refl
cleared (suc n) (suc len) (suc place) rest h = cleared n len place rest (omega (arith, h))

-- a tree of whose nodes none was met tells nothing
pub knows_nothing : (t : TreeState) → ((level : ℕ) (s : Seat) → s.col < t.cols → s.row < t.rows → level ≤ t.root → slice_index_or t.met (place_of t.cols t.rows level s.col s.row) false ≡ false) → Knows t []
unfolding known_label
knows_nothing t unmet = record {
  told = λ level s h u low. let e = unmet level s h u low in rw e refl;
}

-- an item that is set leaves the others
pub set_other : {A : Type 0} (xs : List A) (i j : ℕ) (x d : A) → i ≢ j → slice_index_or (slice_set xs i x) j d ≡ slice_index_or xs j d
set_other [] i j x d h = refl
set_other (y ∷ xs) zero zero x d h = absurd (h refl)
set_other (y ∷ xs) zero (suc j) x d h = refl
set_other (y ∷ xs) (suc i) zero x d h = refl
set_other (y ∷ xs) (suc i) (suc j) x d h = set_other xs i j x d (λ e. h (ap suc e))

-- what is told of a node that was met, and of another
told_here : (t : TreeState) (place v : ℕ) → place < length t.labels → place < length t.met → told_at (met_at t place v) place ≡ Some v
told_here t place v h u =
    let m : slice_index_or (slice_set t.met place true) place false ≡ true = get_or-set_at t.met place place true false refl u in
    let l : slice_index (slice_set t.labels place v) place ≡ v = get_or-set_at t.labels place place v 0 refl h in
    rw (m, l) refl

told_elsewhere : (t : TreeState) (place other v : ℕ) → place ≢ other → told_at (met_at t place v) other ≡ told_at t other
told_elsewhere t place other v h =
    let m : slice_index_or (slice_set t.met place true) other false ≡ slice_index_or t.met other false = set_other t.met place other true false h in
    let l : slice_index (slice_set t.labels place v) other ≡ slice_index t.labels other = set_other t.labels place other v 0 h in
    rw (m, l) refl

-- levels that differ
pub apart : (l m : ℕ) → l ≢ m → (l < m) ⊎ (m < l)
apart zero zero h = absurd (h refl)
apart zero (suc m) h = inl (omega arith)
apart (suc l) zero h = inr (omega arith)
apart (suc l) (suc m) h = elim (apart l m (λ e. h (ap suc e))) [ inl t ↦ inl (omega arith) | inr t ↦ inr (omega arith) ]

-- what is told of a node of the level where one was met
told_beside : (t : TreeState) (nodes : List Node) (level v : ℕ) (s u : Seat) → s.col < t.cols → s.row < t.rows → u.col < t.cols → u.row < t.rows → level ≤ t.root
    → place_of t.cols t.rows level s.col s.row < length t.labels → place_of t.cols t.rows level s.col s.row < length t.met → Knows t nodes
    → known_label level u (node_of level s v ∷ nodes) ≡ told_at (met_at t (place_of t.cols t.rows level s.col s.row) v) (place_of t.cols t.rows level u.col u.row)
unfolding known_label
told_beside t nodes level v s u sc sr uc ur low a b k =
    let p = place_of t.cols t.rows level s.col s.row in
    let q = place_of t.cols t.rows level u.col u.row in
    elim (either (shares level u s)) [
      | inl h ↦
          let e = shared level u s h in
          let here : told_at (met_at t p v) p ≡ Some v = told_here t p v a b in
          rw (same_number level, h, e.0, e.1) (sym here)
      | inr h ↦
          let other : p ≢ q = λ e.
          let n = same_node t.cols t.rows level s.col s.row u.col u.row sc uc e in
          let y : shares level u s ≡ true = rw (n.0, n.1, same_number (u.col / 2 ^ level), same_number (u.row / 2 ^ level)) refl in
          let z : true ≡ false = sym y ∙ h in
          cc
          in
          rw (same_number level, h) (k.told level u uc ur low ∙ sym (told_elsewhere t p q v other))
    ]

-- what is told of a node, where another or the same one was met
told_after : (t : TreeState) (nodes : List Node) (level l v : ℕ) (s u : Seat) → s.col < t.cols → s.row < t.rows → u.col < t.cols → u.row < t.rows → l ≤ t.root
    → place_of t.cols t.rows level s.col s.row < length t.labels → place_of t.cols t.rows level s.col s.row < length t.met → Knows t nodes
    → known_label l u (node_of level s v ∷ nodes) ≡ told_at (met_at t (place_of t.cols t.rows level s.col s.row) v) (place_of t.cols t.rows l u.col u.row)
unfolding known_label
told_after t nodes level l v s u sc sr uc ur low a b k =
    let p = place_of t.cols t.rows level s.col s.row in
    let q = place_of t.cols t.rows l u.col u.row in
    elim (eqb_tells l level) [
      | inr d ↦
          let other : p ≢ q = λ e. elim (apart l level d.1) [
            | inl f ↦ levels_apart t.cols t.rows l level u.col u.row s.col s.row uc ur f (sym e)
            | inr f ↦ levels_apart t.cols t.rows level l s.col s.row u.col u.row sc sr f e
          ] in
          rw d.0 (k.told l u uc ur low ∙ sym (told_elsewhere t p q v other))
      | inl d ↦
          let P : ℕ → Type 0 = λ n. known_label n u (node_of level s v ∷ nodes) ≡ told_at (met_at t p v) (place_of t.cols t.rows n u.col u.row) in
          let Q : ℕ → Type 0 = λ n. n ≤ t.root in
          subst P (sym d.1) (told_beside t nodes level v s u sc sr uc ur (subst Q d.1 low) a b k)
    ]

-- after a node that was met, the tree knows it as well
pub knows_more : (t : TreeState) (nodes : List Node) (level v : ℕ) (s : Seat) → s.col < t.cols → s.row < t.rows
    → place_of t.cols t.rows level s.col s.row < length t.labels → place_of t.cols t.rows level s.col s.row < length t.met → Knows t nodes
    → Knows (met_at t (place_of t.cols t.rows level s.col s.row) v) (node_of level s v ∷ nodes)
knows_more t nodes level v s sc sr a b k =
    let p = place_of t.cols t.rows level s.col s.row in
    record {
      told = λ l u uc ur low. told_after t nodes level l v s u sc sr uc ur low a b k;
    }
