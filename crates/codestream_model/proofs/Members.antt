-- What is a member of a list, by recursion on the list, and lists that ascend.
use Rattle.std.proofs.Common.{◌≡◌, ◌<◌, ◌≤◌, ◌+◌, ◌⊎◌, ℕ, zero, suc, List, [], ◌∷◌, ◌++◌, map, length, get_or, refl, sym, ◌∙◌, ap, inl, inr, subst, arith}
use Rattle.std.proofs.lemmas.Bool.{cases_eq}
use Rattle.std.specs.List.{Contains, AllPairs, AllByRecursion, flat_map, range_with_len}

-- z is a member of the list
abbrev pub Has : {X : Type 0} → List X → X → Type 0
Has [] z = ⊥
Has (x ∷ xs) z = (x ≡ z) ⊎ Has xs z

-- what is contained is a member,
pub has_contained : {X : Type 0} (xs : List X) (z : X) → Contains xs z → Has xs z
has_contained [] z (k, lt, e) = absurd (omega arith)
has_contained (x ∷ xs) z (zero, lt, e) = inl e
has_contained (x ∷ xs) z (suc k, lt, e) = inr (has_contained xs z (k, omega arith, e))

-- and a member is contained
pub contained_has : {X : Type 0} (xs : List X) (z : X) → Has xs z → Contains xs z
contained_has [] z h = absurd h
contained_has (x ∷ xs) z (inl e) = (0, omega arith, e)
contained_has (x ∷ xs) z (inr h) = let c = contained_has xs z h in (suc c.0, omega arith, c.2)

-- a member of the first of two runs is one of both,
pub has_left : {X : Type 0} (xs ys : List X) (z : X) → Has xs z → Has (xs ++ ys) z
has_left [] ys z h = absurd h
has_left (x ∷ xs) ys z (inl e) = inl e
has_left (x ∷ xs) ys z (inr h) = inr (has_left xs ys z h)

-- and so is one of the second,
pub has_right : {X : Type 0} (xs ys : List X) (z : X) → Has ys z → Has (xs ++ ys) z
has_right [] ys z h = h
has_right (x ∷ xs) ys z h = inr (has_right xs ys z h)

-- and there are no others
pub has_parts : {X : Type 0} (xs ys : List X) (z : X) → Has (xs ++ ys) z → Has xs z ⊎ Has ys z
has_parts [] ys z h = inr h
has_parts (x ∷ xs) ys z (inl e) = inl (inl e)
has_parts (x ∷ xs) ys z (inr h) = elim (has_parts xs ys z h) [ inl a ↦ inl (inr a) | inr b ↦ inr b ]

-- what a function gives of a member is one of what it gives,
pub has_map : {X Y : Type 0} (f : X → Y) (xs : List X) (x : X) → Has xs x → Has (map f xs) (f x)
has_map f [] x h = absurd h
has_map f (y ∷ xs) x (inl e) = inl (ap f e)
has_map f (y ∷ xs) x (inr h) = inr (has_map f xs x h)

-- and there are no others
pub map_has : {X Y : Type 0} (f : X → Y) (xs : List X) (z : Y) → Has (map f xs) z → (x : X) × Has xs x × (f x ≡ z)
map_has f [] z h = absurd h
map_has f (y ∷ xs) z (inl e) = (y, inl refl, e)
map_has f (y ∷ xs) z (inr h) = let m = map_has f xs z h in (m.0, inr m.1, m.2)

-- a member of a part is one of all parts together,
pub has_flat_map : {X Y : Type 0} (f : X → List Y) (xs : List X) (x : X) (z : Y) → Has xs x → Has (f x) z → Has (flat_map f xs) z
has_flat_map f [] x z h m = absurd h
has_flat_map {X} {Y} f (y ∷ xs) x z (inl e) m = has_left (f y) (flat_map f xs) z (rw e m)
has_flat_map f (y ∷ xs) x z (inr h) m = has_right (f y) (flat_map f xs) z (has_flat_map f xs x z h m)

-- and there are no others
pub flat_map_has : {X Y : Type 0} (f : X → List Y) (xs : List X) (z : Y) → Has (flat_map f xs) z → (x : X) × Has xs x × Has (f x) z
flat_map_has f [] z h = absurd h
flat_map_has f (y ∷ xs) z h = elim (has_parts (f y) (flat_map f xs) z h) [
  | inl a ↦ (y, inl refl, a)
  | inr b ↦ let m = flat_map_has f xs z b in (m.0, inr m.1, m.2)
]

-- a number of a range is a member of it,
pub has_range : (a n x : ℕ) → a ≤ x → x < a + n → Has (range_with_len a n) x
has_range a zero x low high = absurd (omega arith)
has_range a (suc n) x low high = elim (cases_eq a x) [
  | inl e ↦ inl e
  | inr ne ↦ inr (has_range (a + 1) n x (omega arith) (omega arith))
]

-- and there are no others
pub range_has : (a n x : ℕ) → Has (range_with_len a n) x → (a ≤ x) × (x < a + n)
range_has a zero x h = absurd h
range_has a (suc n) x (inl e) = (omega arith, omega arith)
range_has a (suc n) x (inr h) = let m = range_has (a + 1) n x h in (omega arith, omega arith)

-- a fact of each element holds of a member
pub at_member : {X : Type 0} (P : X → Type 0) (xs : List X) (z : X) → AllByRecursion P xs → Has xs z → P z
at_member P [] z all h = absurd h
at_member P (x ∷ xs) z all (inl e) = subst P e all.0
at_member P (x ∷ xs) z all (inr h) = at_member P xs z all.1 h

-- and a fact of each member is one of each element
pub each_member : {X : Type 0} (P : X → Type 0) (xs : List X) → ((z : X) → Has xs z → P z) → AllByRecursion P xs
each_member P [] f = tt
each_member P (x ∷ xs) f = (f x (inl refl), each_member P xs (λ z h. f z (inr h)))

-- each element is related so to all that follow it, by recursion
abbrev pub Ascends : {X : Type 0} → (X → X → Type 0) → List X → Type 0
Ascends R [] = Unit {0}
Ascends R (x ∷ xs) = AllByRecursion (R x) xs × Ascends R xs

-- a fact of each element holds at each place
at_index : {X : Type 0} (P : X → Type 0) (xs : List X) (k : ℕ) (d : X) → AllByRecursion P xs → k < length xs → P (get_or xs k d)
at_index P [] k d all lt = absurd (omega arith)
at_index P (x ∷ xs) zero d all lt = all.0
at_index P (x ∷ xs) (suc k) d all lt = at_index P xs k d all.1 (omega arith)

-- so each element is related so to each later one
pub all_pairs : {X : Type 0} (R : X → X → Type 0) (xs : List X) → Ascends R xs → AllPairs R xs
all_pairs R [] up i j d lt below = absurd (omega arith)
all_pairs R (x ∷ xs) up zero zero d lt below = absurd (omega arith)
all_pairs R (x ∷ xs) up zero (suc j) d lt below = at_index (R x) xs j d up.0 (omega arith)
all_pairs R (x ∷ xs) up (suc i) zero d lt below = absurd (omega arith)
all_pairs R (x ∷ xs) up (suc i) (suc j) d lt below = all_pairs R xs up.1 i j d (omega arith) (omega arith)

-- a fact at each place is one of each element
from_index : {X : Type 0} (P : X → Type 0) (xs : List X) (d : X) → ((k : ℕ) → k < length xs → P (get_or xs k d)) → AllByRecursion P xs
from_index P [] d f = tt
from_index P (x ∷ xs) d f = (f 0 (omega arith), from_index P xs d (λ k lt. f (suc k) (omega arith)))

-- and the other way round
pub ascends : {X : Type 0} (R : X → X → Type 0) (xs : List X) → AllPairs R xs → Ascends R xs
ascends R [] all = tt
ascends R (x ∷ xs) all = (from_index (R x) xs x (λ k lt. all 0 (suc k) x (omega arith) (omega arith)), ascends R xs (λ i j d lt below. all (suc i) (suc j) d (omega arith) (omega arith)))

-- what precedes one of a list is no later member of it
first_is : {X : Type 0} (R : X → X → Type 0) → ((x y : X) → R x y → R y x → ⊥) → (x y : X) (xs ys : List X) → AllByRecursion (R x) xs → AllByRecursion (R y) ys → Has (y ∷ ys) x → Has (x ∷ xs) y → x ≡ y
first_is R one_way x y xs ys up other (inl e) h = sym e
first_is R one_way x y xs ys up other (inr g) (inl e) = e
first_is R one_way x y xs ys up other (inr g) (inr h) = absurd (one_way x y (at_member (R x) xs y up h) (at_member (R y) ys x other g))

-- a later member of a list is one of the other
later_has : {X : Type 0} (R : X → X → Type 0) → ((x y : X) → R x y → R y x → ⊥) → (x y z : X) (xs ys : List X) → x ≡ y → AllByRecursion (R x) xs → Has (y ∷ ys) z → Has xs z → Has ys z
later_has R one_way x y z xs ys same up (inr g) h = g
later_has {X} R one_way x y z xs ys same up (inl e) h =
    let P : X → Type 0 = λ w. R x w in
    let at_z : R x z = at_member (R x) xs z up h in
    let at_x : R x x = subst P (sym (same ∙ e)) at_z in
    absurd (one_way x x at_x at_x)

-- two ascending lists with the same members are one
pub one_ascending : {X : Type 0} (R : X → X → Type 0) → ((x y : X) → R x y → R y x → ⊥) → (xs ys : List X) → Ascends R xs → Ascends R ys → ((z : X) → Has xs z → Has ys z) → ((z : X) → Has ys z → Has xs z) → xs ≡ ys
one_ascending R one_way [] [] up other there back = refl
one_ascending R one_way [] (y ∷ ys) up other there back = absurd (back y (inl refl))
one_ascending R one_way (x ∷ xs) [] up other there back = absurd (there x (inl refl))
one_ascending R one_way (x ∷ xs) (y ∷ ys) up other there back =
    let same : x ≡ y = first_is R one_way x y xs ys up.0 other.0 (there x (inl refl)) (back y (inl refl)) in
    let rest : xs ≡ ys = one_ascending R one_way xs ys up.1 other.1
    (λ z h. later_has R one_way x y z xs ys same up.0 (there z (inr h)) h)
    (λ z h. later_has R one_way y x z ys xs (sym same) other.0 (back z (inr h)) h) in
    cc
