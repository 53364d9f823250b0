-- A ring as a list from its head on.
use Rattle.std.proofs.Common.{◌≡◌, ◌⊎◌, ◌<◌, ◌≤◌, ◌+◌, ◌-◌, ℕ, zero, suc, Bool, true, false, List, [], ◌∷◌, ◌++◌, length, take, drop, get_or, set, nat_lt, Option, refl, sym, ◌∙◌, ap, ap₂, inl, inr, arith, append_assoc, length-append, length-drop, if◌then◌else◌}
use Rattle.std.proofs.lemmas.Bool.{cases_lt, lt-ltb, le-ltb}
use Rattle.std.proofs.lemmas.List.{take-append-drop, get_or-drop, get_or-take, get_or_append_left, get_or-append_right, set-append_left, set-append_right, drop-set-add, drop-set-lt, take-set-le, drop-drop, drop-append-le, take-append-le, length-set}
use Rattle.reassembly_window.specs.Slots.{rotated, wrapped, is_filled, is_full, front}

-- where a place is, before the end or around it
pub wraps : (h d n : ℕ) → h < n → d ≤ n → ((h + d < n) × (wrapped h d n ≡ h + d)) ⊎ ((n ≤ h + d) × (wrapped h d n ≡ d - (n - h)))
wraps h d n low most = elim (cases_lt d (n - h)) [
  | inl t ↦ let e : nat_lt d (n - h) ≡ true = lt-ltb d (n - h) t in inl (omega arith, ap (λ (b : Bool). if b then h + d else d - (n - h)) e)
  | inr t ↦ let e : nat_lt d (n - h) ≡ false = le-ltb d (n - h) t in inr (omega arith, ap (λ (b : Bool). if b then h + d else d - (n - h)) e)
]

-- what is in a place
pub get_or-rotated : {A : Type 0} (h d n : ℕ) (xs : List A) (y : A) → h < n → d < n → length xs ≡ n → get_or (rotated h xs) d y ≡ get_or xs (wrapped h d n) y
get_or-rotated h d n xs y low in_range len =
    let tail : length (drop h xs) ≡ n - h = length-drop h xs ∙ ap (λ k. k - h) len in
    elim (wraps h d n low (omega arith)) [
      | inl (inside, e) ↦ get_or_append_left (drop h xs) (take h xs) y d (omega (arith, tail)) ∙ (get_or-drop h xs d y ∙ sym (ap (λ k. get_or xs k y) e))
      | inr (past, e) ↦ get_or-append_right (drop h xs) (take h xs) (n - h) d y tail (omega arith) ∙ (get_or-take h xs (d - (n - h)) y (omega arith) ∙ sym (ap (λ k. get_or xs k y) e))
    ]

-- a prefix of a list that is written to
take_set : {A : Type 0} (h : ℕ) (xs : List A) (k : ℕ) (y : A) → take h (set xs k y) ≡ set (take h xs) k y
take_set zero xs k y = refl
take_set (suc h) [] k y = refl
take_set (suc h) (x ∷ xs) zero y = refl
take_set (suc h) (x ∷ xs) (suc k) y = ap (λ l. x ∷ l) (take_set h xs k y)

-- a write to a place
pub rotated-set : {A : Type 0} (h d n : ℕ) (xs : List A) (y : A) → h < n → d < n → length xs ≡ n → rotated h (set xs (wrapped h d n) y) ≡ set (rotated h xs) d y
rotated-set h d n xs y low in_range len =
    let tail : length (drop h xs) ≡ n - h = length-drop h xs ∙ ap (λ k. k - h) len in
    elim (wraps h d n low (omega arith)) [
      | inl (inside, e) ↦
          ap (λ k. rotated h (set xs k y)) e
          ∙ (ap₂ ◌++◌ (drop-set-add h xs d y) (take-set-le h xs (h + d) y (omega arith))
          ∙ sym (set-append_left (drop h xs) (take h xs) d y (omega (arith, tail))))
      | inr (past, e) ↦
          let k = d - (n - h) in
          ap (λ j. rotated h (set xs j y)) e
          ∙ (ap₂ ◌++◌ (drop-set-lt h xs k y (omega arith)) (take_set h xs k y)
          ∙ sym (set-append_right (drop h xs) (take h xs) (n - h) d y tail (omega arith)))
    ]

-- a prefix of nothing
take_none : {A : Type 0} (d : ℕ) → take {A = A} d [] ≡ []
take_none zero = refl
take_none (suc d) = refl

-- a front in two parts
take_sum : {A : Type 0} (h d : ℕ) (xs : List A) → take (h + d) xs ≡ take h xs ++ take d (drop h xs)
take_sum zero d xs = let e : zero + d ≡ d = omega arith in ap (λ k. take k xs) e
take_sum (suc h) d [] = let e : suc h + d ≡ suc (h + d) = omega arith in ap (λ k. take k []) e ∙ sym (take_none d)
take_sum (suc h) d (x ∷ xs) = let e : suc h + d ≡ suc (h + d) = omega arith in ap (λ k. take k (x ∷ xs)) e ∙ ap (λ l. x ∷ l) (take_sum h d xs)

-- what is after a front
drop_in : {A : Type 0} (h k : ℕ) (xs : List A) → k ≤ h → drop k xs ≡ drop k (take h xs) ++ drop h xs
drop_in h zero xs le = sym (take-append-drop h xs)
drop_in zero (suc k) xs le = absurd (omega arith)
drop_in (suc h) (suc k) [] le = refl
drop_in (suc h) (suc k) (x ∷ xs) le = drop_in h k xs (omega arith)

take_in : {A : Type 0} (h k : ℕ) (xs : List A) → k ≤ h → take k (take h xs) ≡ take k xs
take_in h zero xs le = refl
take_in zero (suc k) xs le = absurd (omega arith)
take_in (suc h) (suc k) [] le = refl
take_in (suc h) (suc k) (x ∷ xs) le = ap (λ l. x ∷ l) (take_in h k xs (omega arith))

drop_past : {A : Type 0} (xs ys : List A) (k : ℕ) → drop (length xs + k) (xs ++ ys) ≡ drop k ys
drop_past [] ys k = let e : 0 + k ≡ k = omega arith in ap (λ j. drop j ys) e
drop_past (x ∷ xs) ys k = let e : suc (length xs) + k ≡ suc (length xs + k) = omega arith in ap (λ j. drop j (x ∷ (xs ++ ys))) e ∙ drop_past xs ys k

take_past : {A : Type 0} (xs ys : List A) (k : ℕ) → take (length xs + k) (xs ++ ys) ≡ xs ++ take k ys
take_past [] ys k = let e : 0 + k ≡ k = omega arith in ap (λ j. take j ys) e
take_past (x ∷ xs) ys k = let e : suc (length xs) + k ≡ suc (length xs + k) = omega arith in ap (λ j. take j (x ∷ (xs ++ ys))) e ∙ ap (λ l. x ∷ l) (take_past xs ys k)

-- a ring whose head moves
pub rotated-rotated : {A : Type 0} (h d n : ℕ) (xs : List A) → h < n → d ≤ n → length xs ≡ n → rotated (wrapped h d n) xs ≡ rotated d (rotated h xs)
rotated-rotated h d n xs low most len =
    let tail : length (drop h xs) ≡ n - h = length-drop h xs ∙ ap (λ k. k - h) len in
    elim (wraps h d n low most) [
      | inl (inside, e) ↦
          let taken : take (h + d) xs ≡ take h xs ++ take d (drop h xs) = take_sum h d xs in
          ap (λ k. rotated k xs) e
          ∙ (ap₂ ◌++◌ (sym (drop-drop d h xs)) taken
          ∙ (sym (append_assoc (drop d (drop h xs)) (take h xs) (take d (drop h xs)))
          ∙ sym (ap₂ ◌++◌ (drop-append-le d (drop h xs) (take h xs) (omega (arith, tail))) (take-append-le d (drop h xs) (take h xs) (omega (arith, tail))))))
      | inr (past, e) ↦
          let k = d - (n - h) in
          let f : d ≡ length (drop h xs) + k = omega (arith, tail) in
          let head : take h xs ≡ take k (take h xs) ++ drop k (take h xs) = sym (take-append-drop k (take h xs)) in
          ap (λ j. rotated j xs) e
          ∙ (ap₂ ◌++◌ (drop_in h k xs (omega arith)) (sym (take_in h k xs (omega arith)))
          ∙ (append_assoc (drop k (take h xs)) (drop h xs) (take k (take h xs))
          ∙ sym (ap (λ j. rotated j (rotated h xs)) f ∙ ap₂ ◌++◌ (drop_past (drop h xs) (take h xs) k) (take_past (drop h xs) (take h xs) k))))
    ]

-- its length
pub length-rotated : {A : Type 0} (h : ℕ) (xs : List A) → length (rotated h xs) ≡ length xs
length-rotated h xs =
    let a = length-append (drop h xs) (take h xs) in
    let b = length-append (take h xs) (drop h xs) in
    let c = ap (λ (l : List _). length l) (take-append-drop h xs) in
    omega (arith, a, b, c)

-- the first of a list goes to its end
front_out : {A : Type 0} (xs : List A) (y : A) → 1 ≤ length xs → rotated 1 (set xs 0 y) ≡ drop 1 xs ++ y ∷ []
front_out [] y some = absurd (omega arith)
front_out (x ∷ xs) y some = refl

-- the first place is emptied and passed
pub rotated-front : {A : Type 0} (h n : ℕ) (xs : List A) (y : A) → h < n → length xs ≡ n → rotated (wrapped h 1 n) (set xs h y) ≡ drop 1 (rotated h xs) ++ y ∷ []
rotated-front h n xs y low len =
    let here : wrapped h 0 n ≡ h = elim (wraps h 0 n low (omega arith)) [ inl (a, e) ↦ e ∙ omega arith | inr (a, e) ↦ absurd (omega arith) ] in
    let set_len : length (set xs h y) ≡ n = length-set xs h y ∙ len in
    let front : rotated h (set xs h y) ≡ set (rotated h xs) 0 y = ap (λ k. rotated h (set xs k y)) (sym here) ∙ rotated-set h 0 n xs y low (omega arith) len in
    let some : 1 ≤ length (rotated h xs) = omega (arith, length-rotated h xs, len) in
    rotated-rotated h 1 n (set xs h y) low (omega arith) set_len ∙ (ap (rotated 1) front ∙ front_out (rotated h xs) y some)

-- whether a place is filled
pub is_filled-get : {T : Type 0} (d : ℕ) (xs : List (Option T)) (y : Option T) → d < length xs → is_filled d xs ≡ is_full (get_or xs d y)
is_filled-get d [] y less = absurd (omega arith)
is_filled-get zero (x ∷ xs) y less = refl
is_filled-get (suc d) (x ∷ xs) y less = is_filled-get d xs y (omega arith)

-- what the first place holds
pub front-get : {T : Type 0} (xs : List (Option T)) (y : Option T) → 0 < length xs → front xs ≡ get_or xs 0 y
front-get [] y some = absurd (omega arith)
front-get (x ∷ xs) y some = refl
