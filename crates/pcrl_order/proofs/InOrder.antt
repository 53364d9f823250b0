-- Precincts with their anchors, sorted, are the packet order.
use Rattle.std.proofs.Common.{◌≡◌, ◌<◌, ◌≤◌, ◌+◌, ◌⊎◌, ℕ, Bool, true, false, Ordering, Less, Equal, Greater, nat_cmp, is_lt, ltb, eqb, if◌then◌else◌, suc, List, [], ◌∷◌, map, length, get_or, refl, sym, ap, subst, ◌∙◌, inl, inr, arith}
use Rattle.std.specs.List.{AllByRecursion}
use Rattle.std.specs.List.Sorted.{IsPermutation, IsSorted}
use Rattle.std.proofs.lemmas.List.Sorted.{IsPermutation-sym, Contains-permutation}
use Rattle.std.specs.Ordering.{ordering_then}
use Rattle.std.proofs.lemmas.Bool.{ltb-true, ltb-false, eqb-true, eqb-false}
use Rattle.std.proofs.lemmas.List.Elements.{All-weaker}
use Rattle.codestream_model.specs.HeadLimits.{IsWithinLimits, IsStep}
use Rattle.codestream_model.specs.Values.{Head, Place}
use Rattle.codestream_model.specs.Precincts.{IsPrecinct}
use Rattle.codestream_model.specs.PacketOrder.{key, IsBefore, IsPacketOrder, all_places}
use Rattle.codestream_model.specs.GeometryLaws.{HasSteps}
use Rattle.codestream_model.proofs.Members.{Has, has_contained, contained_has, has_map, map_has, at_member, each_member, Ascends, all_pairs}
use Rattle.codestream_model.proofs.Anchors.{keys_are_distinct}
use Rattle.codestream_model.proofs.Orders.{before_along}
use Rattle.pcrl_order.specs.declared.anchored.Anchored.{Anchored}
use Rattle.pcrl_order.specs.Ahead.{numbers_of}
use Rattle.pcrl_order.specs.Anchors.{anchored_of, place_in, by_fields}
use Rattle.pcrl_order.proofs.Apart.{AreApart, apart_in_each_order, apart_from_pairs}
use Rattle.codestream_model.proofs.Orders.{all_are_precincts, precinct_is_there}
use Rattle.pcrl_order.proofs.Precincts.{Differ, all_differ}

-- one comes before another, or has the same numbers
abbrev pub IsUpTo : Anchored → Anchored → Type 0
IsUpTo a b = IsBefore (numbers_of a) (numbers_of b) ⊎ (numbers_of a ≡ numbers_of b)

-- what isn't less by a number and then by an order is greater, or as great and not less by that order
not_less : (m n : ℕ) (o : Ordering) → is_lt (ordering_then (nat_cmp m n) o) ≡ false → (n < m) ⊎ ((n ≡ m) × (is_lt o ≡ false))
not_less m n o e = by_tests (ltb m n) (eqb m n) refl refl e where
  by_tests : (less same : Bool) → ltb m n ≡ less → eqb m n ≡ same → is_lt (ordering_then (if less then Less else (if same then Equal else Greater)) o) ≡ false → (n < m) ⊎ ((n ≡ m) × (is_lt o ≡ false))
  by_tests true same l s e = absurd (cc)
  by_tests false true l s e = inr (sym (eqb-true m n s), e)
  by_tests false false l s e = inl (let ge : n ≤ m = ltb-false m n l in let ne : m ≡ n → ⊥ = eqb-false m n s in omega arith)

-- of two lists with the same first number, the rest tells
same_first : (x y : ℕ) (xs ys : List ℕ) → x ≡ y → IsBefore xs ys ⊎ (xs ≡ ys) → IsBefore (x ∷ xs) (y ∷ ys) ⊎ (x ∷ xs ≡ y ∷ ys)
same_first x y xs ys e (inl before) = inl (inr (e, before))
same_first x y xs ys e (inr same) = inr (cc)

-- the same, when the first numbers are judged
first_then : (x y : ℕ) (xs ys : List ℕ) (o : Ordering) → (is_lt o ≡ false → IsBefore xs ys ⊎ (xs ≡ ys)) → is_lt (ordering_then (nat_cmp y x) o) ≡ false → IsBefore (x ∷ xs) (y ∷ ys) ⊎ (x ∷ xs ≡ y ∷ ys)
first_then x y xs ys o rest e = elim (not_less y x o e) [
  | inl before ↦ inl (inl before)
  | inr same ↦ same_first x y xs ys same.0 (rest same.1)
]

-- one that the next isn't less than comes before it, or has its numbers
pub up_to : (a b : Anchored) → is_lt (by_fields b a) ≡ false → IsUpTo a b
up_to a b e =
    first_then a.rank b.rank (a.y ∷ a.x ∷ a.c ∷ a.r ∷ []) (b.y ∷ b.x ∷ b.c ∷ b.r ∷ []) _
    (first_then a.y b.y (a.x ∷ a.c ∷ a.r ∷ []) (b.x ∷ b.c ∷ b.r ∷ []) _
    (first_then a.x b.x (a.c ∷ a.r ∷ []) (b.c ∷ b.r ∷ []) _
    (first_then a.c b.c (a.r ∷ []) (b.r ∷ []) _
    (first_then a.r b.r [] [] (nat_cmp b.k a.k) (λ k. inr refl))))) e

-- what is less by a number and then by an order is less, or as great and less by that order
is_less : (m n : ℕ) (o : Ordering) → is_lt (ordering_then (nat_cmp m n) o) ≡ true → (m < n) ⊎ ((m ≡ n) × (is_lt o ≡ true))
is_less m n o e = by_tests (ltb m n) (eqb m n) refl refl e where
  by_tests : (less same : Bool) → ltb m n ≡ less → eqb m n ≡ same → is_lt (ordering_then (if less then Less else (if same then Equal else Greater)) o) ≡ true → (m < n) ⊎ ((m ≡ n) × (is_lt o ≡ true))
  by_tests true same l s e = inl (ltb-true m n l)
  by_tests false true l s e = inr (eqb-true m n s, e)
  by_tests false false l s e = absurd (cc)

less_then : (x y : ℕ) (xs ys : List ℕ) (o : Ordering) → (is_lt o ≡ true → IsBefore xs ys ⊎ (xs ≡ ys)) → is_lt (ordering_then (nat_cmp x y) o) ≡ true → IsBefore (x ∷ xs) (y ∷ ys) ⊎ (x ∷ xs ≡ y ∷ ys)
less_then x y xs ys o rest e = elim (is_less x y o e) [
  | inl before ↦ inl (inl before)
  | inr same ↦ same_first x y xs ys same.0 (rest same.1)
]

-- one that is less than another comes before it, or has its numbers
pub less_up_to : (a b : Anchored) → is_lt (by_fields a b) ≡ true → IsUpTo a b
less_up_to a b e =
    less_then a.rank b.rank (a.y ∷ a.x ∷ a.c ∷ a.r ∷ []) (b.y ∷ b.x ∷ b.c ∷ b.r ∷ []) _
    (less_then a.y b.y (a.x ∷ a.c ∷ a.r ∷ []) (b.x ∷ b.c ∷ b.r ∷ []) _
    (less_then a.x b.x (a.c ∷ a.r ∷ []) (b.c ∷ b.r ∷ []) _
    (less_then a.c b.c (a.r ∷ []) (b.r ∷ []) _
    (less_then a.r b.r [] [] (nat_cmp a.k b.k) (λ k. inr refl))))) e

-- sorted ones are each up to the next
each_up_to : (ys : List Anchored) → IsSorted by_fields ys → (k : ℕ) (d : Anchored) → suc k < length ys → IsUpTo (get_or ys k d) (get_or ys (suc k) d)
each_up_to ys sorted k d lt =
    let next : k + 1 ≡ suc k = omega arith in
    let P : ℕ → Type 0 = λ n. IsUpTo (get_or ys k d) (get_or ys n d) in
    subst P next (up_to (get_or ys k d) (get_or ys (k + 1) d) (sorted k d (omega arith) (omega arith)))

-- two have other numbers
abbrev OtherNumbers : Anchored → Anchored → Type 0
OtherNumbers a b = numbers_of a ≡ numbers_of b → ⊥

-- what a function gives of a list that ascends
ascends_map : {X Y : Type 0} (f : X → Y) (R : X → X → Type 0) (S : Y → Y → Type 0) (xs : List X) → Ascends R xs → ((x y : X) → Has xs x → Has xs y → R x y → S (f x) (f y)) → Ascends S (map f xs)
ascends_map f R S [] up g = tt
ascends_map {X} {Y} f R S (x ∷ xs) up g = (
  each_member (S (f x)) (map f xs)
      (λ z m. let at = map_has f xs z m in subst (λ (w : Y). S (f x) w) at.2 (g x at.0 (inl refl) (inr at.1) (at_member (R x) xs at.0 up.0 at.1))),
  ascends_map f R S xs up.1 (λ a b m n. g a b (inr m) (inr n)),
)

-- a list ascends where each element comes before the next
chain : {X : Type 0} (R : X → X → Type 0) → ((x y z : X) → R x y → R y z → R x z) → (xs : List X) → ((k : ℕ) (d : X) → suc k < length xs → R (get_or xs k d) (get_or xs (suc k) d)) → Ascends R xs
chain R along [] next = tt
chain R along (x ∷ []) next = (tt, tt)
chain R along (x ∷ y ∷ zs) next =
    let up = chain R along (y ∷ zs) (λ k d lt. next (suc k) d (omega arith)) in
    let first : R x y = next 0 x (omega arith) in
    ((first, all_along R along x y zs first up.0), up)
  where
    all_along : {X : Type 0} (R : X → X → Type 0) → ((x y z : X) → R x y → R y z → R x z) → (x y : X) (zs : List X) → R x y → AllByRecursion (R y) zs → AllByRecursion (R x) zs
    all_along R along x y [] f all = tt
    all_along R along x y (z ∷ zs) f all = (along x y z f all.0, all_along R along x y zs f all.1)

-- the precinct that one with its anchor is
listed : (h : Head) (ys : List Anchored) → IsPermutation (map (anchored_of h) (all_places h)) ys → (a : Anchored) → Has ys a → (q : Place) × Has (all_places h) q × (anchored_of h q ≡ a)
listed h ys p a m =
    let xs = map (anchored_of h) (all_places h) in
    map_has (anchored_of h) (all_places h) a (has_contained xs a (Contains-permutation ys xs a (IsPermutation-sym xs ys p) (contained_has ys a m)))

-- its numbers are the precinct's
numbers_are : (h : Head) (a : Anchored) (q : Place) → anchored_of h q ≡ a → numbers_of a ≡ key h (place_in a)
numbers_are h a q e = sym (ap (λ (b : Anchored). numbers_of b) e) ∙ ap (λ (b : Anchored). key h (place_in b)) e

-- no two precincts have the same numbers
all_apart : (h : Head) → HasSteps h → AreApart OtherNumbers (map (anchored_of h) (all_places h))
all_apart h steps = apart_from_pairs OtherNumbers (map (anchored_of h) (all_places h)) (λ x y other e. other (sym e))
    (all_pairs OtherNumbers (map (anchored_of h) (all_places h))
    (ascends_map (anchored_of h) Differ OtherNumbers (all_places h) (all_differ h)
    (λ p q m n two e. two (keys_are_distinct h p q steps (all_are_precincts h p m) (all_are_precincts h q n) e))))

-- so each comes before the next
each_before : (h : Head) (ys : List Anchored) → HasSteps h → IsPermutation (map (anchored_of h) (all_places h)) ys
    → ((k : ℕ) (d : Anchored) → suc k < length ys → IsUpTo (get_or ys k d) (get_or ys (suc k) d))
    → Ascends (λ a b. IsBefore (numbers_of a) (numbers_of b)) ys
each_before h ys steps p up =
    let apart = apart_in_each_order OtherNumbers (map (anchored_of h) (all_places h)) ys p (all_apart h steps) in
    chain (λ a b. IsBefore (numbers_of a) (numbers_of b)) (λ x y z. before_along (numbers_of x) (numbers_of y) (numbers_of z)) ys
    (λ k d lt. elim (up k d lt) [ inl before ↦ before | inr same ↦ absurd (apart k (suc k) d (omega arith) (omega arith) lt same) ])

-- each header within the limits has steps of at least 1
pub has_steps : (h : Head) → IsWithinLimits h → HasSteps h
has_steps h limits = All-weaker IsStep (λ step. (0 < step.x) × (0 < step.y)) (λ step is. (is.some_x, is.some_y)) h.steps limits.each_step

-- the precincts in this order are the packet order
pub in_order : (h : Head) (ys : List Anchored) → IsWithinLimits h → IsPermutation (map (anchored_of h) (all_places h)) ys → IsSorted by_fields ys → IsPacketOrder h (map place_in ys)
in_order h ys limits p sorted = record {
  each = λ z. (
    λ c.
        let one = map_has place_in ys z (has_contained (map place_in ys) z c) in
        let q = listed h ys p one.0 one.1 in
        let same : q.0 ≡ z = ap place_in q.2 ∙ one.2 in
        subst (λ (w : Place). IsPrecinct h w) same (all_are_precincts h q.0 q.1),
    λ is.
        let xs = map (anchored_of h) (all_places h) in
        let there = contained_has xs (anchored_of h z) (has_map (anchored_of h) (all_places h) z (precinct_is_there h z is)) in
        let found = has_contained ys (anchored_of h z) (Contains-permutation xs ys (anchored_of h z) p there) in
        contained_has (map place_in ys) z (has_map place_in ys (anchored_of h z) found),
  );
  ascending = all_pairs (λ a b. IsBefore (key h a) (key h b)) (map place_in ys)
      (ascends_map place_in (λ a b. IsBefore (numbers_of a) (numbers_of b)) (λ a b. IsBefore (key h a) (key h b)) ys (each_before h ys (has_steps h limits) p (each_up_to ys sorted))
      (λ a b m n before. along h a b (listed h ys p a m) (listed h ys p b n) before));
}
  where
    along : (h : Head) (a b : Anchored) → (q : Place) × Has (all_places h) q × (anchored_of h q ≡ a) → (q : Place) × Has (all_places h) q × (anchored_of h q ≡ b) → IsBefore (numbers_of a) (numbers_of b) → IsBefore (key h (place_in a)) (key h (place_in b))
    along h a b q r before =
        subst (λ (w : List ℕ). IsBefore w (key h (place_in b))) (numbers_are h a q.0 q.2)
        (subst (λ (w : List ℕ). IsBefore (numbers_of a) w) (numbers_are h b r.0 r.2) before)
