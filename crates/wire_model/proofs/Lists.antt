-- Lists in parts: what lies after a front, and a range in the midst.
use Rattle.std.proofs.Common.{◌≡◌, ◌≤◌, ◌+◌, ◌-◌, ℕ, suc, Bool, true, false, List, [], ◌∷◌, ◌++◌, length, take, drop, get_or, refl, sym, ap, ◌∙◌, arith, append_assoc, inl, inr, ◌⊎◌, length-take-le}
use Rattle.std.specs.Prelude.{slice_range, ◌&&◌, if◌then◌else◌}
use Rattle.std.proofs.lemmas.List.{take_at, drop_at, length-append, length-drop}

-- an item after a front
pub behind : (xs ys : List ℕ) (k : ℕ) → get_or (xs ++ ys) (length xs + k) 0 ≡ get_or ys k 0
behind [] ys k = ap (λ n. get_or ys n 0) (let e : 0 + k ≡ k = omega arith in e)
behind (x ∷ xs) ys k = ap (λ n. get_or (x ∷ (xs ++ ys)) n 0) (let e : suc (length xs) + k ≡ suc (length xs + k) = omega arith in e) ∙ behind xs ys k

-- the last of a list
pub last_behind : (xs : List ℕ) (y : ℕ) → get_or (xs ++ y ∷ []) (length (xs ++ y ∷ []) - 1) 0 ≡ y
last_behind xs y = ap (λ n. get_or (xs ++ y ∷ []) n 0) (let e : length (xs ++ y ∷ []) - 1 ≡ length xs + 0 = omega (arith, length-append xs (y ∷ [])) in e) ∙ behind xs (y ∷ []) 0

-- the length of a range that is there
pub long_range : (b : List ℕ) (i j : ℕ) → i ≤ j → j ≤ length b → length (slice_range b i j) ≡ j - i
long_range b i j h k = length-take-le (j - i) (drop i b) (omega (arith, length-drop i b))

-- the first four, and then the others
pub take_four : (ys : List ℕ) (n : ℕ) → 4 + n ≤ length ys → take (4 + n) ys ≡ get_or ys 0 0 ∷ get_or ys 1 0 ∷ get_or ys 2 0 ∷ get_or ys 3 0 ∷ take n (drop 4 ys)
take_four (a ∷ b ∷ c ∷ d ∷ ys) n h = ap (λ k. take k (a ∷ b ∷ c ∷ d ∷ ys)) (let e : 4 + n ≡ suc (suc (suc (suc n))) = omega arith in e)
take_four ys n h = absurd (omega arith)

-- which branch a choice took
pub chosen : {A : Type 0} (b : Bool) (x y z : A) → (if b then x else y) ≡ z → ((b ≡ true) × (x ≡ z)) ⊎ ((b ≡ false) × (y ≡ z))
chosen true x y z e = inl (refl, e)
chosen false x y z e = inr (refl, e)

-- each of the tests held
pub all_held : (a b c d : Bool) → (a && b && c && d) ≡ true → (a ≡ true) × (b ≡ true) × (c ≡ true) × (d ≡ true)
all_held true true true true e = (refl, refl, refl, refl)
all_held false b c d e = absurd (cc)
all_held true false c d e = absurd (cc)
all_held true true false d e = absurd (cc)
all_held true true true false e = absurd (cc)

-- the front of bytes, where they are a front and others
pub front_of : (front back b : List ℕ) (n : ℕ) → b ≡ front ++ back → length front ≡ n → take n b ≡ front
front_of front back b n w e = rw w (take_at front back n e)

-- the range of bytes, where they are a front, it and others
pub range_behind : (front mid back b : List ℕ) (i j : ℕ) → i ≡ length front → j ≡ length front + length mid → b ≡ (front ++ mid) ++ back → mid ≡ slice_range b i j
range_behind front mid back b i j ei ej w =
    let d : drop i b ≡ mid ++ back = rw (w, append_assoc) (drop_at front (mid ++ back) i (sym ei)) in
    let n : length mid ≡ j - i = omega arith in
    rw d (sym (take_at mid back (j - i) n))
