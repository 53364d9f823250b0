-- The precincts after one in the packet order: what makes one the next, the first or the last.
use Rattle.std.proofs.Common.{◌≡◌, ◌&&◌, ◌||◌, ℕ, Bool, true, false, List, [], ◌∷◌, ◌++◌, ltb, eqb, refl, sym, ◌∙◌, ap, subst, inl, inr}
use Rattle.std.specs.List.{filter}
use Rattle.std.proofs.lemmas.Bool.{cases_Bool, ltb-true, eqb-true, or_cases, and_parts, lt-ltb, eq-eqb}
use Rattle.codestream_model.specs.Values.{Head, Place}
use Rattle.codestream_model.specs.Precincts.{IsPrecinct}
use Rattle.codestream_model.specs.PacketOrder.{key, IsBefore, is_before, packet_order}
use Rattle.codestream_model.specs.GeometryLaws.{HasSteps}
use Rattle.codestream_model.proofs.Members.{Has, has_right, has_parts, has_contained, contained_has, at_member, each_member, Ascends, ascends, one_ascending}
use Rattle.codestream_model.proofs.Anchors.{keys_are_distinct}
use Rattle.codestream_model.proofs.Orders.{before_one_way, before_along, packet_order_is_computed, packet_order_is_one}
use Rattle.pcrl_order.specs.Later.{later, LaterIsTheRest, PlacesFromOneOn}
use Rattle.pcrl_order.specs.Least.{IsUpTo}

-- the test tells which of two lists of numbers comes before the other,
before_if_tested : (a b : List ℕ) → is_before a b ≡ true → IsBefore a b
before_if_tested [] b e = absurd (cc)
before_if_tested (x ∷ a) [] e = absurd (cc)
before_if_tested (x ∷ a) (y ∷ b) e = elim (or_cases (ltb x y) (eqb x y && is_before a b) e) [
  | inl less ↦ inl (ltb-true x y less)
  | inr same ↦ let parts = and_parts (eqb x y) (is_before a b) same in inr (eqb-true x y parts.0, before_if_tested a b parts.1)
]

-- and finds it
tested_if_before : (a b : List ℕ) → IsBefore a b → is_before a b ≡ true
tested_if_before [] b f = absurd f
tested_if_before (x ∷ a) [] f = absurd f
tested_if_before (x ∷ a) (y ∷ b) (inl lt) = rw (lt-ltb x y lt) refl
tested_if_before (x ∷ a) (y ∷ b) (inr f) = let t = tested_if_before a b f.1 in or_right (ltb x y) (eqb x y) (is_before a b) (eq-eqb x y f.0) t where
  or_right : (a b c : Bool) → b ≡ true → c ≡ true → (a || (b && c)) ≡ true
  or_right true b c e f = refl
  or_right false b c e f = rw (e, f) refl

-- what is filtered
filter_has : {X : Type 0} (test : X → Bool) (xs : List X) (z : X) → Has (filter test xs) z → Has xs z × (test z ≡ true)
filter_has test [] z m = absurd m
filter_has {X} test (x ∷ xs) z m = elim (cases_Bool (test x)) [
  | inl t ↦ elim (rw t at m) [
    | inl e ↦ (inl e, subst (λ (w : X). test w ≡ true) e t)
    | inr more ↦ let r = filter_has test xs z more in (inr r.0, r.1)
  ]
  | inr f ↦ let n : Has (filter test xs) z = rw f at m in let r = filter_has test xs z n in (inr r.0, r.1)
]

has_filter : {X : Type 0} (test : X → Bool) (xs : List X) (z : X) → Has xs z → test z ≡ true → Has (filter test xs) z
has_filter test [] z m t = absurd m
has_filter {X} test (x ∷ xs) z (inl e) t = let u : test x ≡ true = subst (λ (w : X). test w ≡ true) (sym e) t in rw u (inl e)
has_filter test (x ∷ xs) z (inr m) t = elim (cases_Bool (test x)) [
  | inl u ↦ rw u (inr (has_filter test xs z m t))
  | inr f ↦ rw f (has_filter test xs z m t)
]

filter_ascends : {X : Type 0} (R : X → X → Type 0) (test : X → Bool) (xs : List X) → Ascends R xs → Ascends R (filter test xs)
filter_ascends R test [] up = tt
filter_ascends R test (x ∷ xs) up = elim (cases_Bool (test x)) [
  | inl t ↦ rw t (each_member (R x) (filter test xs) (λ z m. at_member (R x) xs z up.0 (filter_has test xs z m).0), filter_ascends R test xs up.1)
  | inr f ↦ rw f (filter_ascends R test xs up.1)
]

-- one comes before the other in the packet order
abbrev Precedes : Head → Place → Place → Type 0
Precedes h p q = IsBefore (key h p) (key h q)

-- the packet order ascends, and has just the precincts
order_ascends : (h : Head) → HasSteps h → Ascends (Precedes h) (packet_order h)
order_ascends h steps = ascends (Precedes h) (packet_order h) (packet_order_is_computed h steps).ascending

precinct_of : (h : Head) → HasSteps h → (z : Place) → Has (packet_order h) z → IsPrecinct h z
precinct_of h steps z m = ((packet_order_is_computed h steps).each z).0 (contained_has (packet_order h) z m)

precinct_in : (h : Head) → HasSteps h → (z : Place) → IsPrecinct h z → Has (packet_order h) z
precinct_in h steps z is = has_contained (packet_order h) z (((packet_order_is_computed h steps).each z).1 is)

-- what is after one
pub later_has : (h : Head) → HasSteps h → (p z : Place) → Has (later h p) z → IsPrecinct h z × Precedes h p z
later_has h steps p z m =
    let r = filter_has (λ q. is_before (key h p) (key h q)) (packet_order h) z m in
    (precinct_of h steps z r.0, before_if_tested (key h p) (key h z) r.1)

has_later : (h : Head) → HasSteps h → (p z : Place) → IsPrecinct h z → Precedes h p z → Has (later h p) z
has_later h steps p z is before = has_filter (λ q. is_before (key h p) (key h q)) (packet_order h) z (precinct_in h steps z is) (tested_if_before (key h p) (key h z) before)

later_ascends : (h : Head) → HasSteps h → (p : Place) → Ascends (Precedes h) (later h p)
later_ascends h steps p = filter_ascends (Precedes h) (λ q. is_before (key h p) (key h q)) (packet_order h) (order_ascends h steps)

-- one, and what is after it, ascends
one_and_later : (h : Head) → HasSteps h → (q : Place) → Ascends (Precedes h) (q ∷ later h q)
one_and_later h steps q = (each_member (Precedes h q) (later h q) (λ z m. (later_has h steps q z m).1), later_ascends h steps q)

-- a list that ascends, and has just the precincts from one on
from_one : (h : Head) → HasSteps h → (q : Place) (places : List Place) → Ascends (Precedes h) places → IsPrecinct h q
    → Has places q
    → ((z : Place) → Has places z → IsPrecinct h z × IsUpTo (key h q) (key h z))
    → ((z : Place) → IsPrecinct h z → Precedes h q z → Has places z)
    → places ≡ q ∷ later h q
from_one h steps q places up is there each back = one_ascending (Precedes h) (λ a b. before_one_way (key h a) (key h b)) places (q ∷ later h q) up (one_and_later h steps q)
    (λ z m. elim (each z m).1 [
      | inl before ↦ inr (has_later h steps q z (each z m).0 before)
      | inr same ↦ inl (keys_are_distinct h q z steps is (each z m).0 same)
    ])
    (λ z m. elim m [
      | inl e ↦ subst (λ (w : Place). Has places w) e there
      | inr more ↦ let r = later_has h steps q z more in back z r.0 r.1
    ])

-- the least after one is the next,
pub is_next : (h : Head) → HasSteps h → (p q : Place) → IsPrecinct h q → Precedes h p q → ((z : Place) → IsPrecinct h z → Precedes h p z → IsUpTo (key h q) (key h z)) → later h p ≡ q ∷ later h q
is_next h steps p q is before least = from_one h steps q (later h p) (later_ascends h steps p) is (has_later h steps p q is before)
    (λ z m. let r = later_has h steps p z m in (r.0, least z r.0 r.1))
    (λ z iz lt. has_later h steps p z iz (before_along (key h p) (key h q) (key h z) before lt))

-- the least of all is the first,
pub is_first : (h : Head) → HasSteps h → (q : Place) → IsPrecinct h q → ((z : Place) → IsPrecinct h z → IsUpTo (key h q) (key h z)) → packet_order h ≡ q ∷ later h q
is_first h steps q is least = from_one h steps q (packet_order h) (order_ascends h steps) is (precinct_in h steps q is)
    (λ z m. let iz = precinct_of h steps z m in (iz, least z iz))
    (λ z iz lt. precinct_in h steps z iz)

-- and one after which there is none is the last
pub is_last : (h : Head) → HasSteps h → (p : Place) → ((z : Place) → IsPrecinct h z → Precedes h p z → ⊥) → later h p ≡ []
is_last h steps p none = no_member (later h p) (λ z m. let r = later_has h steps p z m in none z r.0 r.1) where
  no_member : (xs : List Place) → ((z : Place) → Has xs z → ⊥) → xs ≡ []
  no_member [] none = refl
  no_member (x ∷ xs) none = absurd (none x (inl refl))

-- a list has a member, something before it and something after it
parts : {X : Type 0} (xs : List X) (z : X) → Has xs z → (before : List X) × (after : List X) × (xs ≡ before ++ z ∷ after)
parts [] z m = absurd m
parts (x ∷ xs) z (inl e) = ([], xs, rw e refl)
parts (x ∷ xs) z (inr m) = let r = parts xs z m in (x ∷ r.0, r.1, ap (λ l. x ∷ l) r.2)

-- where the list ascends, so does what is after, and each before it is related so to the member
behind_ascends : {X : Type 0} (R : X → X → Type 0) (before : List X) (z : X) (after : List X) → Ascends R (before ++ z ∷ after) → Ascends R (z ∷ after)
behind_ascends R [] z after up = up
behind_ascends R (x ∷ before) z after up = behind_ascends R before z after up.1

before_stands : {X : Type 0} (R : X → X → Type 0) (before : List X) (z : X) (after : List X) → Ascends R (before ++ z ∷ after) → (a : X) → Has before a → R a z
before_stands R [] z after up a m = absurd m
before_stands {X} R (x ∷ before) z after up a (inl e) = subst (λ (w : X). R w z) e (at_member (R x) (before ++ z ∷ after) z up.0 (has_right before (z ∷ after) z (inl refl)))
before_stands R (x ∷ before) z after up a (inr m) = before_stands R before z after up.1 a m

-- the packet order has each precinct, and then what is after it
pub splits : (h : Head) → HasSteps h → (p : Place) → IsPrecinct h p → (before : List Place) × (packet_order h ≡ before ++ p ∷ later h p)
splits h steps p is =
    let at = parts (packet_order h) p (precinct_in h steps p is) in
    let up : Ascends (Precedes h) (at.0 ++ p ∷ at.1) = subst (λ (l : List Place). Ascends (Precedes h) l) at.2 (order_ascends h steps) in
    let within : (z : Place) → Has (p ∷ at.1) z → Has (packet_order h) z = λ z m. subst (λ (l : List Place). Has l z) (sym at.2) (has_right at.0 (p ∷ at.1) z m) in
    let behind = behind_ascends (Precedes h) at.0 p at.1 up in
    let same : p ∷ at.1 ≡ p ∷ later h p = from_one h steps p (p ∷ at.1) behind is (inl refl)
    (λ z m. (precinct_of h steps z (within z m), elim m [ inl e ↦ inr (ap (λ (w : Place). key h w) e) | inr more ↦ inl (at_member (Precedes h p) at.1 z behind.0 more) ]))
    (λ z iz lt. elim (has_parts at.0 (p ∷ at.1) z (subst (λ (l : List Place). Has l z) at.2 (precinct_in h steps z iz))) [
      | inl early ↦ absurd (before_one_way (key h p) (key h z) lt (before_stands (Precedes h) at.0 p at.1 up z early))
      | inr there ↦ there
    ]) in
    (at.0, at.2 ∙ ap (λ (l : List Place). at.0 ++ l) same)

-- the same of each list that is the packet order
pub later_is_the_rest : LaterIsTheRest
later_is_the_rest h order p steps is_order is =
    let one : order ≡ packet_order h = packet_order_is_one h order (packet_order h) is_order (packet_order_is_computed h steps) in
    let at = splits h steps p is in
    (at.0, one ∙ at.1)

-- what is after a precinct in it is what comes later
pub places_from_one_on : PlacesFromOneOn
places_from_one_on h before after p steps is_order =
    let list = before ++ p ∷ after in
    let one : list ≡ packet_order h = packet_order_is_one h list (packet_order h) is_order (packet_order_is_computed h steps) in
    let up : Ascends (Precedes h) list = ascends (Precedes h) list is_order.ascending in
    let behind = behind_ascends (Precedes h) before p after up in
    let within : (z : Place) → Has (p ∷ after) z → IsPrecinct h z = λ z m. precinct_of h steps z (subst (λ (l : List Place). Has l z) one (has_right before (p ∷ after) z m)) in
    let same : p ∷ after ≡ p ∷ later h p = from_one h steps p (p ∷ after) behind (within p (inl refl)) (inl refl)
    (λ z m. (within z m, elim m [ inl e ↦ inr (ap (λ (w : Place). key h w) e) | inr more ↦ inl (at_member (Precedes h p) after z behind.0 more) ]))
    (λ z iz lt. elim (has_parts before (p ∷ after) z (subst (λ (l : List Place). Has l z) (sym one) (precinct_in h steps z iz))) [
      | inl early ↦ absurd (before_one_way (key h p) (key h z) lt (before_stands (Precedes h) before p after up z early))
      | inr there ↦ there
    ]) in
    cc
