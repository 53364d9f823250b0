-- What holds between any two elements of a list does in each order of it.
use Rattle.std.proofs.Common.{◌≡◌, ◌<◌, ℕ, List, length, get_or, inl, inr, refl, arith}
use Rattle.std.specs.List.{swap, AllPairs}
use Rattle.std.specs.List.Sorted.{IsPermutation}
use Rattle.std.proofs.lemmas.Bool.{cases_eq, cases_lt}
use Rattle.std.proofs.lemmas.List.Edits.{swapped_from_swap, length-swap}
use Rattle.std.proofs.lemmas.List.Sorted.{IsPermutation-keeps}

-- it holds of the elements at any two places
abbrev pub AreApart : {X : Type 0} → (X → X → Type 0) → List X → Type 0
AreApart {X} R xs = (i j : ℕ) (d : X) → (i ≡ j → ⊥) → i < length xs → j < length xs → R (get_or xs i d) (get_or xs j d)

-- where the element at a place was before those at a and b were exchanged
data From (a b i j : ℕ) : Type 0 where
  First : i ≡ a → j ≡ b → From a b i j
  Second : i ≡ b → j ≡ a → From a b i j
  Stays : (i ≡ a → ⊥) → (i ≡ b → ⊥) → j ≡ i → From a b i j

came_from : {X : Type 0} (xs : List X) (a b : ℕ) (d : X) → a < length xs → b < length xs → (i : ℕ) → i < length xs → (j : ℕ) × (j < length xs) × (get_or (swap xs a b) i d ≡ get_or xs j d) × From a b i j
came_from xs a b d la lb i li =
    let s = swapped_from_swap xs (swap xs a b) a b d la lb refl in
    elim (cases_eq i a) [
      | inl at_a ↦ (b, lb, rw at_a s.0, First at_a refl)
      | inr not_a ↦ elim (cases_eq i b) [
        | inl at_b ↦ (a, la, rw at_b s.1, Second at_b refl)
        | inr not_b ↦ (i, li, s.2 i not_a not_b, Stays not_a not_b refl)
      ]
    ]

-- two places come from two
two_from : (a b i j p q : ℕ) → (i ≡ j → ⊥) → From a b i p → From a b j q → p ≡ q → ⊥
two_from a b i j p q two (First x y) (First z w) e = omega arith
two_from a b i j p q two (First x y) (Second z w) e = omega arith
two_from a b i j p q two (First x y) (Stays u v w) e = omega arith
two_from a b i j p q two (Second x y) (First z w) e = omega arith
two_from a b i j p q two (Second x y) (Second z w) e = omega arith
two_from a b i j p q two (Second x y) (Stays u v w) e = omega arith
two_from a b i j p q two (Stays x y z) (First u w) e = omega arith
two_from a b i j p q two (Stays x y z) (Second u w) e = omega arith
two_from a b i j p q two (Stays x y z) (Stays u v w) e = omega arith

-- one exchange leaves any two apart
apart_swapped : {X : Type 0} (R : X → X → Type 0) (xs : List X) (a b : ℕ) → a < length xs → b < length xs → AreApart R xs → AreApart R (swap xs a b)
apart_swapped {X} R xs a b la lb apart i j d two li lj =
    let n = length-swap xs a b in
    let one = came_from xs a b d la lb i (omega arith) in
    let other = came_from xs a b d la lb j (omega arith) in
    rw (one.2, other.2) (apart one.0 other.0 d (two_from a b i j one.0 other.0 two one.3 other.3) one.1 other.1)

-- and so does each other order
pub apart_in_each_order : {X : Type 0} (R : X → X → Type 0) (xs ys : List X) → IsPermutation xs ys → AreApart R xs → AreApart R ys
apart_in_each_order R xs ys p apart = IsPermutation-keeps xs (AreApart R) apart (λ l i j li lj m. apart_swapped R l i j li lj m) ys p

-- any two elements are apart where each is from those that follow it, and they are from it
pub apart_from_pairs : {X : Type 0} (R : X → X → Type 0) (xs : List X) → ((x y : X) → R x y → R y x) → AllPairs R xs → AreApart R xs
apart_from_pairs R xs back all i j d two li lj = elim (cases_lt i j) [
  | inl lt ↦ all i j d lt lj
  | inr ge ↦ back (get_or xs j d) (get_or xs i d) (all j i d (omega arith) li)
]
