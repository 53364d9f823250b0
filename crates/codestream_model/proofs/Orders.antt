-- The packet order: there is one, and it is the one that is computed.
use Rattle.std.proofs.Common.{◌≡◌, ◌<◌, ◌≤◌, ◌+◌, ◌⊎◌, ◌&&◌, ℕ, true, false, List, [], ◌∷◌, length, ltb, eqb, refl, sym, ◌∙◌, ap, subst, inl, inr, arith}
use Rattle.std.specs.List.{AllByRecursion, flat_map, range_with_len}
use Rattle.std.proofs.lemmas.Bool.{cases_Bool, ltb-true, ltb-false, eqb-true, eqb-false, or_cases, or_parts, and_parts, and_cases}
use Rattle.codestream_model.specs.Values.{Head, Place}
use Rattle.codestream_model.specs.Precincts.{precinct_count, IsPrecinct}
use Rattle.codestream_model.specs.PacketOrder.{key, IsBefore, is_before, places_of, all_places, placed, sorted}
use Rattle.codestream_model.specs.GeometryLaws.{PacketOrderIsOne, PacketOrderIsComputed}
use Rattle.codestream_model.proofs.Members.{Has, has_contained, contained_has, has_map, map_has, has_flat_map, flat_map_has, has_range, range_has, at_member, each_member, Ascends, all_pairs, ascends, one_ascending}
use Rattle.codestream_model.proofs.Anchors.{keys_are_distinct}

-- of two lists of numbers not both come before the other,
pub before_one_way : (a b : List ℕ) → IsBefore a b → IsBefore b a → ⊥
before_one_way [] b f g = f
before_one_way (x ∷ a) [] f g = f
before_one_way (x ∷ a) (y ∷ b) (inl lt) (inl gt) = omega arith
before_one_way (x ∷ a) (y ∷ b) (inl lt) (inr same) = omega (arith, same.0)
before_one_way (x ∷ a) (y ∷ b) (inr same) (inl gt) = omega (arith, same.0)
before_one_way (x ∷ a) (y ∷ b) (inr f) (inr g) = before_one_way a b f.1 g.1

-- what comes before one that comes before a third comes before that
pub before_along : (a b c : List ℕ) → IsBefore a b → IsBefore b c → IsBefore a c
before_along [] b c f g = absurd f
before_along (x ∷ a) [] c f g = absurd f
before_along (x ∷ a) (y ∷ b) [] f g = absurd g
before_along (x ∷ a) (y ∷ b) (z ∷ c) (inl lt) (inl lt2) = inl (omega arith)
before_along (x ∷ a) (y ∷ b) (z ∷ c) (inl lt) (inr g) = inl (omega (arith, g.0))
before_along (x ∷ a) (y ∷ b) (z ∷ c) (inr f) (inl lt) = inl (omega (arith, f.0))
before_along (x ∷ a) (y ∷ b) (z ∷ c) (inr f) (inr g) = inr (f.0 ∙ g.0, before_along a b c f.1 g.1)

-- the test tells it,
pub before_if_tested : (a b : List ℕ) → is_before a b ≡ true → IsBefore a b
before_if_tested [] b e = absurd (cc)
before_if_tested (x ∷ a) [] e = absurd (cc)
before_if_tested (x ∷ a) (y ∷ b) e = elim (or_cases (ltb x y) (eqb x y && is_before a b) e) [
  | inl less ↦ inl (ltb-true x y less)
  | inr same ↦ let parts = and_parts (eqb x y) (is_before a b) same in inr (eqb-true x y parts.0, before_if_tested a b parts.1)
]

-- and two of a length of which neither comes before the other are one
pub same_if_tested : (a b : List ℕ) → length a ≡ length b → is_before a b ≡ false → is_before b a ≡ false → a ≡ b
same_if_tested [] [] n e f = refl
same_if_tested [] (y ∷ b) n e f = absurd (omega arith)
same_if_tested (x ∷ a) [] n e f = absurd (omega arith)
same_if_tested (x ∷ a) (y ∷ b) n e f =
    let one = or_parts (ltb x y) (eqb x y && is_before a b) e in
    let other = or_parts (ltb y x) (eqb y x && is_before b a) f in
    let low : y ≤ x = ltb-false x y one.0 in
    let high : x ≤ y = ltb-false y x other.0 in
    let same : x ≡ y = omega arith in
    let front : is_before a b ≡ false = elim (and_cases (eqb x y) (is_before a b) one.1) [ inl ne ↦ absurd (eqb-false x y ne same) | inr rest ↦ rest ] in
    let back : is_before b a ≡ false = elim (and_cases (eqb y x) (is_before b a) other.1) [ inl ne ↦ absurd (eqb-false y x ne (sym same)) | inr rest ↦ rest ] in
    let rest : a ≡ b = same_if_tested a b (omega arith) front back in
    cc

-- the order of precincts
abbrev pub Precedes : Head → Place → Place → Type 0
Precedes h p q = IsBefore (key h p) (key h q)

-- how a precinct is placed among others
placed_front : (h : Head) (p q : Place) (qs : List Place) → is_before (key h p) (key h q) ≡ true → placed h p (q ∷ qs) ≡ p ∷ q ∷ qs
unfolding placed
placed_front h p q qs e = rw e refl

-- later
placed_later : (h : Head) (p q : Place) (qs : List Place) → is_before (key h p) (key h q) ≡ false → is_before (key h q) (key h p) ≡ true → placed h p (q ∷ qs) ≡ q ∷ placed h p qs
unfolding placed
placed_later h p q qs e f = rw (e, f) refl

-- not at all, where one with its key is there
placed_there : (h : Head) (p q : Place) (qs : List Place) → is_before (key h p) (key h q) ≡ false → is_before (key h q) (key h p) ≡ false → placed h p (q ∷ qs) ≡ q ∷ qs
unfolding placed
placed_there h p q qs e f = rw (e, f) refl

-- or alone
placed_none : (h : Head) (p : Place) → placed h p [] ≡ p ∷ []
unfolding placed
placed_none h p = refl

-- how one more is sorted in
sorted_more : (h : Head) (p : Place) (ps : List Place) → sorted h (p ∷ ps) ≡ placed h p (sorted h ps)
unfolding sorted
sorted_more h p ps = refl

-- no precincts are in order
sorted_none : (h : Head) → sorted h [] ≡ []
unfolding sorted
sorted_none h = refl

-- where it may go
pub data Goes (h : Head) (p q : Place) (qs : List Place) : Type 0 where
  Front : is_before (key h p) (key h q) ≡ true → placed h p (q ∷ qs) ≡ p ∷ q ∷ qs → Goes h p q qs
  Later : is_before (key h q) (key h p) ≡ true → placed h p (q ∷ qs) ≡ q ∷ placed h p qs → Goes h p q qs
  There : key h p ≡ key h q → placed h p (q ∷ qs) ≡ q ∷ qs → Goes h p q qs

-- it goes to one of these
goes : (h : Head) (p q : Place) (qs : List Place) → Goes h p q qs
goes h p q qs = elim (cases_Bool (is_before (key h p) (key h q))) [
  | inl front ↦ Front front (placed_front h p q qs front)
  | inr not_front ↦ elim (cases_Bool (is_before (key h q) (key h p))) [
    | inl later ↦ Later later (placed_later h p q qs not_front later)
    | inr there ↦ There (same_if_tested (key h p) (key h q) refl not_front there) (placed_there h p q qs not_front there)
  ]
]

-- what is placed, and nothing else, is in the list
placed_has : (h : Head) (p : Place) (qs : List Place) (z : Place) → Has (placed h p qs) z → (p ≡ z) ⊎ Has qs z
placed_has h p [] z m = elim (rw (placed_none h p) at m) [ inl e ↦ inl e | inr none ↦ absurd none ]
placed_has h p (q ∷ qs) z m = elim (goes h p q qs) [
  | Front t e ↦ rw e at m
  | Later t e ↦ elim (rw e at m) [
    | inl same ↦ inr (inl same)
    | inr more ↦ elim (placed_has h p qs z more) [ inl same ↦ inl same | inr there ↦ inr (inr there) ]
  ]
  | There t e ↦ inr (rw e at m)
]

-- what was in the list still is
placed_keeps : (h : Head) (p : Place) (qs : List Place) (z : Place) → Has qs z → Has (placed h p qs) z
placed_keeps h p [] z m = absurd m
placed_keeps h p (q ∷ qs) z m = elim (goes h p q qs) [
  | Front t e ↦ rw e (inr m)
  | Later t e ↦ rw e (elim m [ inl same ↦ inl same | inr more ↦ inr (placed_keeps h p qs z more) ])
  | There t e ↦ rw e m
]

-- and what is placed is there, where keys are distinct
placed_puts : (h : Head) (p : Place) (qs : List Place) → ((q : Place) → Has qs q → key h p ≡ key h q → p ≡ q) → Has (placed h p qs) p
placed_puts h p [] apart = rw (placed_none h p) (inl refl)
placed_puts h p (q ∷ qs) apart = elim (goes h p q qs) [
  | Front t e ↦ rw e (inl refl)
  | Later t e ↦ rw e (inr (placed_puts h p qs (λ z m. apart z (inr m))))
  | There t e ↦ rw e (inl (sym (apart q (inl refl) t)))
]

-- what precedes another precedes what it precedes
all_along : (h : Head) (p q : Place) (qs : List Place) → Precedes h p q → AllByRecursion (Precedes h q) qs → AllByRecursion (Precedes h p) qs
all_along h p q [] f all = tt
all_along h p q (z ∷ qs) f all = (before_along (key h p) (key h q) (key h z) f all.0, all_along h p q qs f all.1)

-- placing keeps the order
placed_ascends : (h : Head) (p : Place) (qs : List Place) → Ascends (Precedes h) qs → Ascends (Precedes h) (placed h p qs)
placed_ascends h p [] up = rw (placed_none h p) (tt, tt)
placed_ascends h p (q ∷ qs) up = elim (goes h p q qs) [
  | Front t e ↦ rw e (let f = before_if_tested (key h p) (key h q) t in ((f, all_along h p q qs f up.0), up))
  | Later t e ↦ rw e (
    each_member (Precedes h q) (placed h p qs)
        (λ z m. elim (placed_has h p qs z m) [
          | inl same ↦ let P : Place → Type 0 = λ w. Precedes h q w in subst P same (before_if_tested (key h q) (key h p) t)
          | inr there ↦ at_member (Precedes h q) qs z up.0 there
        ]),
    placed_ascends h p qs up.1,
  )
  | There t e ↦ rw e up
]

-- so sorting gives an order
sorted_ascends : (h : Head) (ps : List Place) → Ascends (Precedes h) (sorted h ps)
sorted_ascends h [] = rw (sorted_none h) tt
sorted_ascends h (p ∷ ps) = rw (sorted_more h p ps) (placed_ascends h p (sorted h ps) (sorted_ascends h ps))

-- it adds nothing
sorted_has : (h : Head) (ps : List Place) (z : Place) → Has (sorted h ps) z → Has ps z
sorted_has h [] z m = rw (sorted_none h) at m
sorted_has h (p ∷ ps) z m = elim (placed_has h p (sorted h ps) z (rw (sorted_more h p ps) at m)) [
  | inl same ↦ inl same
  | inr more ↦ inr (sorted_has h ps z more)
]

-- and drops nothing, where keys are distinct
has_sorted : (h : Head) (ps : List Place) (z : Place) → ((p q : Place) → Has ps p → Has ps q → key h p ≡ key h q → p ≡ q) → Has ps z → Has (sorted h ps) z
has_sorted h [] z apart m = absurd m
has_sorted h (p ∷ ps) z apart (inl same) = rw (sorted_more h p ps) (let P : Place → Type 0 = λ w. Has (placed h p (sorted h ps)) w in subst P same (placed_puts h p (sorted h ps) (λ q there e. apart p q (inl refl) (inr (sorted_has h ps q there)) e)))
has_sorted h (p ∷ ps) z apart (inr more) = rw (sorted_more h p ps) (placed_keeps h p (sorted h ps) z (has_sorted h ps z (λ a b am bm e. apart a b (inr am) (inr bm) e) more))

-- the precincts, all of them and nothing else
pub place_is : (h : Head) (c r : ℕ) (z : Place) → Has (places_of h c r) z → (z.c ≡ c) × (z.r ≡ r) × (z.k < precinct_count h c r)
place_is h c r z m =
    let found = map_has (λ k. record { c = c; r = r; k = k }) (range_with_len 0 (precinct_count h c r)) z m in
    let inside = range_has 0 (precinct_count h c r) found.0 found.1 in
    (sym (ap (λ (p : Place). p.c) found.2), sym (ap (λ (p : Place). p.r) found.2), let e : found.0 ≡ z.k = ap (λ (p : Place). p.k) found.2 in omega (arith, inside.1))

-- a place with a component and a resolution is a precinct
precinct_from : (h : Head) (z : Place) (c r : ℕ) → z.c ≡ c → z.r ≡ r → z.k < precinct_count h c r → c < 0 + length h.steps → r < 0 + (h.levels + 1) → IsPrecinct h z
precinct_from h z c r cs rs number component resolution = record {
  component = omega arith;
  resolution = omega arith;
  number = rw (cs, rs) number;
}

-- all that are listed are precincts,
pub all_are_precincts : (h : Head) (z : Place) → Has (all_places h) z → IsPrecinct h z
all_are_precincts h z m =
    let c = flat_map_has (λ c. flat_map (λ r. places_of h c r) (range_with_len 0 (h.levels + 1))) (range_with_len 0 (length h.steps)) z m in
    let r = flat_map_has (λ r. places_of h c.0 r) (range_with_len 0 (h.levels + 1)) z c.2 in
    let is = place_is h c.0 r.0 z r.2 in
    precinct_from h z c.0 r.0 is.0 is.1 is.2 (range_has 0 (length h.steps) c.0 c.1).1 (range_has 0 (h.levels + 1) r.0 r.1).1

-- and all precincts are listed
pub precinct_is_there : (h : Head) (z : Place) → IsPrecinct h z → Has (all_places h) z
precinct_is_there h z a =
    let c : z.c < length h.steps = a.component in
    let r : z.r ≤ h.levels = a.resolution in
    let k : z.k < precinct_count h z.c z.r = a.number in
    has_flat_map (λ c. flat_map (λ r. places_of h c r) (range_with_len 0 (h.levels + 1))) (range_with_len 0 (length h.steps)) z.c z
    (has_range 0 (length h.steps) z.c (omega arith) (omega arith))
    (has_flat_map (λ r. places_of h z.c r) (range_with_len 0 (h.levels + 1)) z.r z
    (has_range 0 (h.levels + 1) z.r (omega arith) (omega arith))
    (has_map (λ k. record { c = z.c; r = z.r; k = k }) (range_with_len 0 (precinct_count h z.c z.r)) z.k (has_range 0 (precinct_count h z.c z.r) z.k (omega arith) (omega (arith, k)))))

-- the computed order is the packet order
pub packet_order_is_computed : PacketOrderIsComputed
packet_order_is_computed h steps = record {
  each = λ p. (
    λ c. all_are_precincts h p (sorted_has h (all_places h) p (has_contained (sorted h (all_places h)) p c)),
    λ a. contained_has (sorted h (all_places h)) p (has_sorted h (all_places h) p (λ x y xm ym e. keys_are_distinct h x y steps (all_are_precincts h x xm) (all_are_precincts h y ym) e) (precinct_is_there h p a)),
  );
  ascending = all_pairs (Precedes h) (sorted h (all_places h)) (sorted_ascends h (all_places h));
}

-- there is one packet order
pub packet_order_is_one : PacketOrderIsOne
packet_order_is_one h one other a b = one_ascending (Precedes h) (λ p q. before_one_way (key h p) (key h q)) one other
    (ascends (Precedes h) one a.ascending)
    (ascends (Precedes h) other b.ascending)
    (λ z m. has_contained other z ((b.each z).1 ((a.each z).0 (contained_has one z m))))
    (λ z m. has_contained one z ((a.each z).1 ((b.each z).0 (contained_has other z m))))
