-- Facts of each pair of a list, at a place.
use Rattle.std.proofs.Common.{◌≡◌, ◌<◌, ◌+◌, ◌||◌, ℕ, zero, suc, Bool, true, false, List, [], ◌∷◌, ◌++◌, map, length, get_or, drop, refl, sym, ◌∙◌, ap, inl, inr, subst, arith}
use Rattle.std.specs.List.{All, list_any, range_with_len}
use Rattle.std.proofs.lemmas.Bool.{cases_Bool}
use Rattle.std.proofs.lemmas.List.FromFn.{map-range_with_len_more}
use Rattle.std.proofs.lemmas.List.Folds.{list_any_at}
use Rattle.std.proofs.lemmas.List.{length-map, map-append}
use Rattle.std.proofs.Math.ListN.{get_or-map}
use Rattle.codestream_model.specs.Values.{Pair}
use Rattle.j2k_markers.specs.Fields.{pair}

-- a fact of each pair at a place
pub pair_at : (P : Pair → Type 0) (items : List (ℕ × ℕ)) (k : ℕ) → All P (map pair items) → k < length (map pair items) → P (pair (get_or items k (0, 0)))
pair_at P items k all lt =
    let e : get_or (map pair items) k (pair (0, 0)) ≡ pair (get_or items k (0, 0)) = get_or-map pair items k (0, 0) in
    subst P e (all k (pair (0, 0)) lt)

-- a fact of each pair but the first, at a later place
pub later_pair_at : (P : Pair → Type 0) (items : List (ℕ × ℕ)) (k : ℕ) → All P (drop 1 (map pair items)) → 0 < k → k < length (map pair items) → P (pair (get_or items k (0, 0)))
later_pair_at P items zero all some lt = absurd (omega arith)
later_pair_at P [] (suc k) all some lt = absurd (omega arith)
later_pair_at P (x ∷ items) (suc k) all some lt = pair_at P items k all (omega arith)

-- one more of the pairs that a function of the place gives
pub pair_more : (f : ℕ → Pair) (items : List (ℕ × ℕ)) (n : ℕ) (p : ℕ × ℕ) → map pair items ≡ map f (range_with_len 0 n) → pair p ≡ f n → map pair (items ++ p ∷ []) ≡ map f (range_with_len 0 (n + 1))
pair_more f items n p e g =
    map-append pair items (p ∷ [])
    ∙ (ap (λ (l : List Pair). l ++ pair p ∷ []) e
    ∙ (ap (λ (q : Pair). map f (range_with_len 0 n) ++ q ∷ []) g ∙ sym (map-range_with_len_more f 0 n n (omega arith))))

-- a test of some pair from a place on
pub any_from : (test : Pair → Bool) (items : List (ℕ × ℕ)) (k : ℕ) → k < length items → list_any test (map pair (drop k items)) ≡ (test (pair (get_or items k (0, 0))) || list_any test (map pair (drop (k + 1) items)))
any_from test [] k lt = absurd (omega arith)
any_from test (x ∷ items) zero lt = refl
any_from test (x ∷ items) (suc k) lt =
    let e : suc k + 1 ≡ suc (k + 1) = omega arith in
    rw e (any_from test items k (omega arith))

-- a test that a pair passes is passed by some pair
pub any_at : (test : Pair → Bool) (items : List (ℕ × ℕ)) (k : ℕ) → k < length items → test (pair (get_or items k (0, 0))) ≡ true → list_any test (map pair items) ≡ true
any_at test items k lt e =
    let there : get_or (map pair items) k (pair (0, 0)) ≡ pair (get_or items k (0, 0)) = get_or-map pair items k (0, 0) in
    list_any_at test (map pair items) k (pair (0, 0)) (omega (arith, length-map items pair)) (ap test there ∙ e)

-- a test that no pair passes is not passed by one
pub none_at : (test : Pair → Bool) (items : List (ℕ × ℕ)) (k : ℕ) → list_any test (map pair items) ≡ false → k < length items → test (pair (get_or items k (0, 0))) ≡ false
none_at test items k none lt = elim (cases_Bool (test (pair (get_or items k (0, 0))))) [
  | inl passes ↦ let some = any_at test items k lt passes in absurd (cc)
  | inr fails ↦ fails
]

-- a fact of each pair, at a place of the list itself
pub pair_of : (P : Pair → Type 0) (items : List (ℕ × ℕ)) (k : ℕ) → All P (map pair items) → k < length items → P (pair (get_or items k (0, 0)))
pair_of P items k all lt = pair_at P items k all (omega (arith, length-map items pair))
