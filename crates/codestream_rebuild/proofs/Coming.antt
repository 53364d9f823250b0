-- Whether the packet of a precinct is still to come.
use Rattle.std.proofs.Common.{rules, ◌≡◌, ◌<◌, ◌==◌, ◌&&◌, ◌||◌, ℕ, Bool, true, false, List, [], ◌∷◌, refl, sym, ◌∙◌, ap, subst, inl, inr}
use Rattle.std.specs.Prelude.{◌↔◌, IsTrue}
use Rattle.std.specs.List.{list_any}
use Rattle.std.proofs.lemmas.Bool.{cases_Bool, eqb-true, eq-eqb, or_left, or_right}
use Rattle.std.proofs.lemmas.List.Elements.{All-weaker}
use Rattle.std.proofs.lemmas.Map.Views.{any-filter_same}
use Rattle.codestream_model.specs.Values.{Head, Place}
use Rattle.codestream_model.specs.HeadLimits.{IsWithinLimits, IsStep}
use Rattle.codestream_model.specs.GeometryLaws.{HasSteps}
use Rattle.codestream_model.specs.Precincts.{IsPrecinct}
use Rattle.codestream_model.specs.PacketOrder.{key, IsBefore, is_before, packet_order}
use Rattle.codestream_model.proofs.Members.{Has, has_contained}
use Rattle.codestream_model.proofs.Orders.{before_if_tested, packet_order_is_computed}
use Rattle.stream_model.specs.Decoder.{is_place}
use Rattle.pcrl_order.specs.Later.{later}
use Rattle.codestream_rebuild.specs.Opening.{places_from}

-- a header within the limits has steps
has_steps : (h : Head) → IsWithinLimits h → HasSteps h
has_steps h limits = All-weaker IsStep (λ step. (0 < step.x) × (0 < step.y)) (λ step s. (s.some_x, s.some_y)) h.steps limits.each_step

-- a precinct is itself
same_place : (p : Place) → is_place p p ≡ true
same_place p = rw (eq-eqb p.c p.c refl, eq-eqb p.r p.r refl, eq-eqb p.k p.k refl) refl

-- the precincts are one that the test says are
is_one : (p q : Place) → is_place p q ≡ true → p ≡ q
is_one p q e = elim (cases_Bool (p.c == q.c)) [
  | inr other ↦ let f : is_place p q ≡ false = rw other refl in absurd (cc)
  | inl c ↦ elim (cases_Bool (p.r == q.r)) [
    | inr other ↦ let f : is_place p q ≡ false = rw (c, other) refl in absurd (cc)
    | inl r ↦ elim (cases_Bool (p.k == q.k)) [
      | inr other ↦ let f : is_place p q ≡ false = rw (c, r, other) refl in absurd (cc)
      | inl k ↦
          let a : p.c ≡ q.c = eqb-true p.c q.c c in
          let b : p.r ≡ q.r = eqb-true p.r q.r r in
          let d : p.k ≡ q.k = eqb-true p.k q.k k in
          let same : record { c = p.c; r = p.r; k = p.k } ≡ record { c = q.c; r = q.r; k = q.k } = cc in
          same
    ]
  ]
]

-- a member is found
is_found : (p : Place) (places : List Place) → Has places p → list_any (is_place p) places ≡ true
is_found p [] there = absurd there
is_found p (q ∷ places) (inl e) = or_left (is_place p q) (list_any (is_place p) places) (ap (is_place p) e ∙ same_place p)
is_found p (q ∷ places) (inr more) = or_right (is_place p q) (list_any (is_place p) places) (is_found p places more)

-- the test says what comes before
tested_if_before : (a b : List ℕ) → IsBefore a b → is_before a b ≡ true
tested_if_before [] b e = absurd e
tested_if_before (x ∷ a) [] e = absurd e
tested_if_before (x ∷ a) (y ∷ b) (inl less) = let t : (x < y) = less in search rules
tested_if_before (x ∷ a) (y ∷ b) (inr same) = let t = tested_if_before a b same.1 in let e = eq-eqb x y same.0 in search rules

-- an answer that says so is the test
is_test : (b : Bool) (a k : List ℕ) → (IsTrue b ↔ IsBefore a k) → b ≡ is_before a k
is_test true a k iff = sym (tested_if_before a k (iff.0 refl))
is_test false a k iff = elim (cases_Bool (is_before a k)) [
  | inl before ↦ let not : false ≡ true = iff.1 (before_if_tested a k before) in absurd (cc)
  | inr other ↦ sym other
]

-- a precinct of the image is after one if its key is
is_later : (h : Head) (p q : Place) → IsWithinLimits h → IsPrecinct h p → list_any (is_place p) (later h q) ≡ is_before (key h q) (key h p)
is_later h p q limits is =
    let order = packet_order_is_computed h (has_steps h limits) in
    let there = is_found p (packet_order h) (has_contained (packet_order h) p ((order.each p).1 is)) in
    let test = is_before (key h q) (key h p) in
    let same : (z : Place) → is_place p z ≡ true → is_before (key h q) (key h z) ≡ test = λ z e. ap (λ x. is_before (key h q) (key h x)) (sym (is_one p z e)) in
    any-filter_same (is_place p) (λ z. is_before (key h q) (key h z)) test same (packet_order h) ∙ (ap (λ b. test && b) there ∙ elim (cases_Bool test) [
      | inl t ↦ rw t refl
      | inr f ↦ rw f refl
    ])

-- the packet of a precinct is still to come where it is the next one, or after it
comes_at : (h g : Head) (p q n : Place) (a k : List ℕ) (same past : Bool) → IsWithinLimits g → g ≡ h → IsPrecinct h p → n ≡ q → a ≡ key g n → k ≡ key g p
    → same ≡ is_place p n → (IsTrue past ↔ IsBefore a k) → (same || past) ≡ list_any (is_place p) (q ∷ later h q)
comes_at h g p q n a k same past limits head is next from to one iff =
    let G : Head → Type 0 = λ x. IsWithinLimits x in
    let inside : IsWithinLimits h = subst G head limits in
    let tested : past ≡ is_before (key h q) (key h p) =
    is_test past a k iff ∙ (ap (λ l. is_before l k) from ∙ (ap (λ l. is_before (key g n) l) to ∙ (ap (λ x. is_before (key x n) (key x p)) head ∙ ap (λ x. is_before (key h x) (key h p)) next))) in
    ap (λ b. same || b) (tested ∙ sym (is_later h p q inside is)) ∙ ap (λ b. b || list_any (is_place p) (later h q)) (one ∙ ap (is_place p) next)

-- one that isn't the next has to be after it
pub comes_after : (h g : Head) (p q n : Place) (a k : List ℕ) (more same past : Bool) → IsWithinLimits g → g ≡ h → IsPrecinct h p → n ≡ q → a ≡ key g n → k ≡ key g p
    → same ≡ is_place p n → (IsTrue past ↔ IsBefore a k) → same ≡ false → more ≡ true → past ≡ list_any (is_place p) (places_from more h q)
comes_after h g p q n a k more same past limits head is next from to one iff other some =
    sym (ap (λ b. b || past) other)
    ∙ (comes_at h g p q n a k same past limits head is next from to one iff
    ∙ ap (λ m. list_any (is_place p) (places_from m h q)) (sym some))
