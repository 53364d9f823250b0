-- The precincts of an image, listed by component, resolution and number.
use Rattle.std.proofs.Common.{◌≡◌, ◌<◌, ◌+◌, ℕ, zero, suc, List, [], ◌∷◌, ◌++◌, map, length, refl, ap, subst, inl, inr, arith}
use Rattle.std.specs.List.{AllByRecursion, flat_map, range_with_len}
use Rattle.codestream_model.specs.Values.{Head, Place}
use Rattle.codestream_model.specs.Precincts.{precinct_count}
use Rattle.codestream_model.specs.PacketOrder.{places_of, all_places}
use Rattle.codestream_model.proofs.Orders.{place_is}
use Rattle.codestream_model.proofs.Members.{Has, map_has, flat_map_has, range_has, each_member, Ascends}

-- lists that ascend, one after the other
ascends_append : {X : Type 0} (R : X → X → Type 0) (xs ys : List X) → Ascends R xs → Ascends R ys → ((x y : X) → Has xs x → Has ys y → R x y) → Ascends R (xs ++ ys)
ascends_append R [] ys up other across = other
ascends_append R (x ∷ xs) ys up other across = (both (R x) xs ys up.0 (each_member (R x) ys (λ y m. across x y (inl refl) m)), ascends_append R xs ys up.1 other (λ z y m n. across z y (inr m) n))
  where
    both : {X : Type 0} (P : X → Type 0) (xs ys : List X) → AllByRecursion P xs → AllByRecursion P ys → AllByRecursion P (xs ++ ys)
    both P [] ys a b = b
    both P (x ∷ xs) ys a b = (a.0, both P xs ys a.1 b)

-- parts that ascend, each after those before it
ascends_parts : {X : Type 0} (R : X → X → Type 0) (f : ℕ → List X) (a n : ℕ) → ((i : ℕ) → Ascends R (f i)) → ((i j : ℕ) (x y : X) → i < j → Has (f i) x → Has (f j) y → R x y) → Ascends R (flat_map f (range_with_len a n))
ascends_parts R f a zero each across = tt
ascends_parts R f a (suc n) each across = ascends_append R (f a) (flat_map f (range_with_len (a + 1) n)) (each a) (ascends_parts R f (a + 1) n each across)
    (λ x y m more. let at = flat_map_has f (range_with_len (a + 1) n) y more in let low = (range_has (a + 1) n at.0 at.1).0 in across a at.0 x y (omega arith) m at.2)

-- what a function gives of numbers that ascend
ascends_numbers : {X : Type 0} (R : X → X → Type 0) (g : ℕ → X) (a n : ℕ) → ((i j : ℕ) → i < j → R (g i) (g j)) → Ascends R (map g (range_with_len a n))
ascends_numbers R g a zero up = tt
ascends_numbers {X} R g a (suc n) up = (
  each_member (R (g a)) (map g (range_with_len (a + 1) n))
      (λ z m. let at = map_has g (range_with_len (a + 1) n) z m in let low = (range_has (a + 1) n at.0 at.1).0 in subst (λ (w : X). R (g a) w) at.2 (up a at.0 (omega arith))),
  ascends_numbers R g (a + 1) n up,
)

-- two precincts are two
abbrev pub Differ : Place → Place → Type 0
Differ p q = p ≡ q → ⊥

-- those of a resolution
resolution_differs : (h : Head) (c r : ℕ) → Ascends Differ (places_of h c r)
resolution_differs h c r = ascends_numbers Differ (λ k. record { c = c; r = r; k = k }) 0 (precinct_count h c r)
    (λ i j lt e. let same : i ≡ j = ap (λ (p : Place). p.k) e in omega arith)

-- those of a component
component_differs : (h : Head) (c n : ℕ) → Ascends Differ (flat_map (λ r. places_of h c r) (range_with_len 0 n))
component_differs h c n = ascends_parts Differ (λ r. places_of h c r) 0 n (resolution_differs h c)
    (λ i j x y lt m k e. let one = (place_is h c i x m).1 in let other = (place_is h c j y k).1 in let same : x.r ≡ y.r = ap (λ (p : Place). p.r) e in omega arith)

-- the component of a precinct
component_is : (h : Head) (c n : ℕ) (z : Place) → Has (flat_map (λ r. places_of h c r) (range_with_len 0 n)) z → z.c ≡ c
component_is h c n z m = let r = flat_map_has (λ r. places_of h c r) (range_with_len 0 n) z m in (place_is h c r.0 z r.2).0

-- no precinct is listed twice
pub all_differ : (h : Head) → Ascends Differ (all_places h)
all_differ h = ascends_parts Differ (λ c. flat_map (λ r. places_of h c r) (range_with_len 0 (h.levels + 1))) 0 (length h.steps)
    (λ c. component_differs h c (h.levels + 1))
    (λ i j x y lt m k e. let one = component_is h i (h.levels + 1) x m in let other = component_is h j (h.levels + 1) y k in let same : x.c ≡ y.c = ap (λ (p : Place). p.c) e in omega arith)
