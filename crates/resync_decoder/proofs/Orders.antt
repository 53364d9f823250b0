-- Precincts in the packet order.
use Rattle.std.proofs.Common.{◌≡◌, ◌<◌, ◌==◌, ◌&&◌, ◌++◌, ℕ, Bool, true, false, List, [], ◌∷◌, Option, Some, None, refl, sym, ◌∙◌, ap, subst, inl, inr, arith, if◌then◌else◌}
use Rattle.std.specs.Prelude.{find, IfSome, IsNone, option_map}
use Rattle.std.specs.List.{Contains}
use Rattle.std.proofs.lemmas.List.Elements.{All-weaker, Contains-append_right, Contains-append_left}
use Rattle.std.proofs.lemmas.Bool.Decides.{eqb_tells}
use Rattle.codestream_model.specs.Values.{Head, Place}
use Rattle.codestream_model.specs.Precincts.{IsPrecinct}
use Rattle.codestream_model.specs.PacketOrder.{IsPacketOrder, packet_order, pid}
use Rattle.codestream_model.specs.GeometryLaws.{HasSteps, PidsAreDistinct, PacketOrderIsComputed}
use Rattle.codestream_model.specs.HeadLimits.{IsWithinLimits, IsStep}
use Rattle.codestream_model.proofs.TreeLemmas.{either, equal_number, same_number}
use Rattle.stream_model.specs.Decoder as rules
use Rattle.stream_model.specs.Decoder.{from_place}
use Rattle.resync_decoder.specs.InForce.{InForce, current_with}
use Rattle.precinct_geometry.specs.Spans.{place_of}
use Rattle.precinct_geometry.specs.declared.place.Place as code
use Rattle.pcrl_order.specs.Later.{later, LaterIsTheRest, PlacesFromOneOn}

-- a header within the limits has steps
pub has_steps : (h : Head) → IsWithinLimits h → HasSteps h
has_steps h limits = All-weaker IsStep (λ step. (0 < step.x) × (0 < step.y)) (λ step s. (s.some_x, s.some_y)) h.steps limits.each_step

-- one precinct
abbrev is_one : Place → Place → Bool
is_one p q = (p.c == q.c) && (p.r == q.r) && (p.k == q.k)

both_hold : (a b : Bool) → (a && b) ≡ true → (a ≡ true) × (b ≡ true)
both_hold true b e = (refl, e)
both_hold false b e = absurd (cc)

one_is : (p q : Place) → is_one p q ≡ true → p ≡ q
one_is p q e =
    let a = both_hold ((p.c == q.c) && (p.r == q.r)) (p.k == q.k) e in
    let b = both_hold (p.c == q.c) (p.r == q.r) a.0 in
    let c : p.c ≡ q.c = equal_number p.c q.c b.0 in
    let r : p.r ≡ q.r = equal_number p.r q.r b.1 in
    let k : p.k ≡ q.k = equal_number p.k q.k a.1 in
    ap (λ n. record p { c = n }) c ∙ (ap (λ n. record { c = q.c; r = n; k = p.k }) r ∙ ap (λ n. record { c = q.c; r = q.r; k = n }) k)

one_self : (p : Place) → is_one p p ≡ true
one_self p = let a = same_number p.c in let b = same_number p.r in let c = same_number p.k in rw (a, b, c) refl

-- a list from the first place on that is this precinct
found_place : (p : Place) (before rest : List Place)
    → (b : List Place) × (a : List Place) × (before ++ p ∷ rest ≡ b ++ p ∷ a) × (from_place p (before ++ p ∷ rest) ≡ p ∷ a)
unfolding from_place
found_place p [] rest = ([], rest, refl, ap (λ (b : Bool). if b then p ∷ rest else from_place p rest) (one_self p))
found_place p (q ∷ before) rest = elim (either (is_one p q)) [
  | inl y ↦ (
      let same : q ≡ p = sym (one_is p q y) in
      let all = before ++ p ∷ rest in
      ([], all, ap (λ x. x ∷ all) same, ap (λ (b : Bool). if b then q ∷ all else from_place p all) y ∙ ap (λ x. x ∷ all) same))
  | inr n ↦ (
      let more = found_place p before rest in
      let all = before ++ p ∷ rest in
      (q ∷ more.0, more.1, ap (λ l. q ∷ l) more.2, ap (λ (b : Bool). if b then q ∷ all else from_place p all) n ∙ more.3))
]

-- the packet order from a precinct on
pub order_from : PacketOrderIsComputed → LaterIsTheRest → PlacesFromOneOn → (h : Head) (p : Place) → IsWithinLimits h → IsPrecinct h p
    → from_place p (packet_order h) ≡ p ∷ later h p
order_from computed splits rest h p limits is =
    let steps = has_steps h limits in
    let order = computed h steps in
    let cut = splits h (packet_order h) p steps order is in
    let found = found_place p cut.0 (later h p) in
    let P : List Place → Type 0 = λ l. IsPacketOrder h l in
    let same : found.1 ≡ later h p = rest h found.0 found.1 p steps (subst P (cut.1 ∙ found.2) order) in
    ap (from_place p) cut.1 ∙ (found.3 ∙ ap (λ l. p ∷ l) same)

-- the first place of a list with this number
abbrev has_number : Head → ℕ → Place → Bool
has_number h n p = pid h p == n

found_number : (h : Head) (n : ℕ) (p : Place) (before rest : List Place) → PidsAreDistinct → IsPrecinct h p → pid h p ≡ n
    → ((q : Place) → Contains before q → IsPrecinct h q) → find (has_number h n) (before ++ p ∷ rest) ≡ Some p
found_number h n p [] rest distinct is number each =
    let t : has_number h n p ≡ true = elim (eqb_tells (pid h p) n) [ inl u ↦ u.0 | inr u ↦ absurd (u.1 number) ] in
    ap (λ (b : Bool). if b then Some p else find (has_number h n) rest) t
found_number h n p (q ∷ before) rest distinct is number each = elim (eqb_tells (pid h q) n) [
  | inl u ↦ (
      let same : q ≡ p = distinct h q p (each q (Contains-append_left (q ∷ []) before q (0, arith_one, refl))) is (u.1 ∙ sym number) in
      ap (λ (b : Bool). if b then Some q else find (has_number h n) (before ++ p ∷ rest)) u.0 ∙ ap (λ x. Some x) same)
  | inr u ↦ ap (λ (b : Bool). if b then Some q else find (has_number h n) (before ++ p ∷ rest)) u.0
      ∙ found_number h n p before rest distinct is number (λ r c. each r (Contains-append_right (q ∷ []) before r c))
] where
  arith_one : 0 < 1
  arith_one = omega arith

pub number_found : PidsAreDistinct → PacketOrderIsComputed → LaterIsTheRest → (h : Head) (n : ℕ) (p : Place) → IsWithinLimits h → IsPrecinct h p → pid h p ≡ n
    → find (has_number h n) (packet_order h) ≡ Some p
number_found distinct computed splits h n p limits is number =
    let steps = has_steps h limits in
    let order = computed h steps in
    let cut = splits h (packet_order h) p steps order is in
    let P : List Place → Type 0 = λ l. IsPacketOrder h l in
    let cut_order : IsPacketOrder h (cut.0 ++ p ∷ later h p) = subst P cut.1 order in
    ap (find (has_number h n)) cut.1
    ∙ found_number h n p cut.0 (later h p) distinct is number (λ q c. (cut_order.each q).0 (Contains-append_left cut.0 (p ∷ later h p) q c))

-- a number that no place has
none_number : (h : Head) (n : ℕ) (places : List Place) → ((q : Place) → Contains places q → pid h q ≡ n → ⊥) → find (has_number h n) places ≡ None
none_number h n [] none = refl
none_number h n (q ∷ places) none = elim (eqb_tells (pid h q) n) [
  | inl u ↦ absurd (none q (Contains-append_left (q ∷ []) places q (0, one, refl)) u.1)
  | inr u ↦ ap (λ (b : Bool). if b then Some q else find (has_number h n) places) u.0
      ∙ none_number h n places (λ r c. none r (Contains-append_right (q ∷ []) places r c))
] where
  one : 0 < 1
  one = omega arith

pub number_missing : PacketOrderIsComputed → (h : Head) (n : ℕ) → IsWithinLimits h → ((q : Place) → IsPrecinct h q → pid h q ≡ n → ⊥)
    → find (has_number h n) (packet_order h) ≡ None
number_missing computed h n limits none =
    let order = computed h (has_steps h limits) in
    none_number h n (packet_order h) (λ q c e. none q ((order.each q).0 c) e)

-- the code's answer
pub found_is : PidsAreDistinct → PacketOrderIsComputed → LaterIsTheRest → (h : Head) (n : ℕ) (o : Option code.Place) → IsWithinLimits h
    → IfSome o (λ p. IsPrecinct h (place_of p) × (pid h (place_of p) ≡ n)) → (IsNone o → (q : Place) → IsPrecinct h q → pid h q ≡ n → ⊥)
    → option_map place_of o ≡ find (has_number h n) (packet_order h)
found_is distinct computed splits h n None limits some none = sym (number_missing computed h n limits (none refl))
found_is distinct computed splits h n (Some p) limits some none = sym (number_found distinct computed splits h n (place_of p) limits some.0 some.1)

-- the same of the main header in force
abbrev pub in_force : ℕ → Head → InForce
in_force stamp h = record { stamp = stamp; head = h }

pub found_in : PidsAreDistinct → PacketOrderIsComputed → LaterIsTheRest → (stamp : ℕ) (h : Head) (c : InForce) (n : ℕ) (o : Option code.Place) → in_force stamp h ≡ c → IsWithinLimits h
    → IfSome o (λ p. IsPrecinct h (place_of p) × (pid h (place_of p) ≡ n)) → (IsNone o → (q : Place) → IsPrecinct h q → pid h q ≡ n → ⊥)
    → option_map place_of o ≡ rules.place_of (current_with [] c) n
found_in distinct computed splits stamp h c n o view limits some none =
    found_is distinct computed splits h n o limits some none ∙ ap (λ (x : InForce). find (has_number x.head n) (packet_order x.head)) view

pub order_from_in : PacketOrderIsComputed → LaterIsTheRest → PlacesFromOneOn → (stamp : ℕ) (h : Head) (c : InForce) (p : Place) → in_force stamp h ≡ c → IsWithinLimits h → IsPrecinct c.head p
    → from_place p (packet_order c.head) ≡ p ∷ later c.head p
order_from_in computed splits rest stamp h c p view limits =
    let P : InForce → Type 0 = λ x. IsPrecinct x.head p → from_place p (packet_order x.head) ≡ p ∷ later x.head p in
    subst P view (order_from computed splits rest h p limits)
