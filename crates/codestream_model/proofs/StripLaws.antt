-- Strips of precincts: those in which a stretch has a place, so no component that isn't empty is without precincts.
use Rattle.std.proofs.Common.{◌≡◌, ◌<◌, ◌≤◌, ◌+◌, ◌-◌, ◌*◌, ◌/◌, ◌^◌, ℕ, zero, suc, refl, ◌∙◌, ap, inl, inr, arith, mul-le-mul_right}
use Rattle.std.proofs.lemmas.Bool.{cases_lt, ne_eqb, eq-eqb}
use Rattle.std.proofs.lemmas.Nat.{pow_pos}
use Rattle.std.proofs.Math.Nat.{div-mul-le_self, lt_of_mul-lt-mul_right, mul-le-mul, le-div_iff_mul-le, div-lt_iff_lt-mul}
use Rattle.codestream_model.specs.Areas.{ceil_div, Span, component_area, resolution_area}
use Rattle.codestream_model.specs.Precincts.{precinct_exponents, strips, precinct_columns, precinct_rows}
use Rattle.codestream_model.specs.GeometryLaws.{StripsAreReached, EachComponentHasPrecincts}
use Rattle.codestream_model.proofs.Anchors.{ceil_covers, ceil_least}

-- the strips of a stretch that isn't empty, and of one that is
strips_some : (e : ℕ) (s : Span) → s.from < s.to → strips e s ≡ ceil_div s.to (2 ^ e) - s.from / 2 ^ e
strips_some e s some = rw (ne_eqb s.to s.from (λ same. omega arith)) refl

-- and of one that is
strips_none : (e : ℕ) (s : Span) → s.to ≡ s.from → strips e s ≡ 0
strips_none e s none = rw (eq-eqb s.to s.from none) refl

-- a place before an end lies in a strip before the end's cover,
below_cover : (t to p : ℕ) → 0 < p → t < to → t / p < ceil_div to p
below_cover t to p pos lt = lt_of_mul-lt-mul_right p (omega (arith, div-mul-le_self t p, ceil_covers to p pos))

-- and a strip before that cover begins before the end
begins_below : (i to p : ℕ) → 0 < p → i < ceil_div to p → i * p < to
begins_below i to p pos lt = elim (cases_lt (i * p) to) [
  | inl below ↦ below
  | inr above ↦ absurd (omega (arith, ceil_least to p i pos above))
]

-- a quotient from its bounds
pub quotient_is : (t q p : ℕ) → 0 < p → q * p ≤ t → t < (q + 1) * p → t / p ≡ q
quotient_is t q p pos low high =
    let at_least : q ≤ t / p = (le-div_iff_mul-le {k = p} {x = q} {y = t} pos).1 low in
    let below : t / p < q + 1 = (div-lt_iff_lt-mul {k = p} {x = t} {y = q + 1} pos).1 high in
    omega arith

-- where the next strip begins
pub next_begins : (q p : ℕ) → (q + 1) * p ≡ q * p + p
next_begins q p = omega arith

-- a place of a stretch in its i-th strip
place_in_strip : (from to p i : ℕ) → 0 < p → from < to → from / p + i < ceil_div to p → (t : ℕ) × (from ≤ t) × (t < to) × (t / p ≡ from / p + i)
place_in_strip from to p zero pos some lt = (from, omega arith, some, omega arith)
place_in_strip from to p (suc i) pos some lt =
    let q = from / p + suc i in
    let low : (from / p + 1) * p ≤ q * p = mul-le-mul_right p (omega arith) in
    let first : from < (from / p + 1) * p = (div-lt_iff_lt-mul {k = p} {x = from} {y = from / p + 1} pos).0 (omega arith) in
    (q * p, omega arith, begins_below q to p pos lt, quotient_is (q * p) q p pos (omega arith) (rw (next_begins q p) (omega arith)))

-- the strips of a stretch are those in which it has a place
pub strips_are_reached : StripsAreReached
strips_are_reached e s i ordered = (
  λ lt. elim (cases_lt s.from s.to) [
    | inl some ↦ place_in_strip s.from s.to (2 ^ e) i (pow_pos e) some (let l : i < ceil_div s.to (2 ^ e) - s.from / 2 ^ e = rw (strips_some e s some) at lt in omega arith)
    | inr none ↦ absurd (let l : i < 0 = rw (strips_none e s (omega arith)) at lt in omega arith)
  ],
  λ (t, low, high, at).
      let below : t / 2 ^ e < ceil_div s.to (2 ^ e) = below_cover t s.to (2 ^ e) (pow_pos e) high in
      rw (strips_some e s (omega arith)) (omega arith),
)

-- a stretch that isn't empty reaches into a strip
some_strip : (e : ℕ) (s : Span) → s.from < s.to → 1 ≤ strips e s
some_strip e s some = rw (strips_some e s some) (omega (arith, below_cover s.from s.to (2 ^ e) (pow_pos e) some))

-- a quotient by one
by_one : (t : ℕ) → ceil_div t 1 ≡ t
by_one t = omega arith

-- the highest resolution is the component
by_none : (t n : ℕ) → ceil_div t (2 ^ (n - n)) ≡ t
by_none t n = let none : n - n ≡ 0 = omega arith in ap (λ (k : ℕ). ceil_div t (2 ^ k)) none ∙ by_one t

-- a product of what is not 0
product_some : (a b : ℕ) → 1 ≤ a → 1 ≤ b → 1 ≤ a * b
product_some a b p q = omega (arith, mul-le-mul p q)

-- a component that is not empty has a precinct
pub each_component_has_precincts : EachComponentHasPrecincts
each_component_has_precincts h c some =
    let wide : (resolution_area h c h.levels).x.from < (resolution_area h c h.levels).x.to = rw (by_none (component_area h c).x.from h.levels, by_none (component_area h c).x.to h.levels) some.wide in
    let high : (resolution_area h c h.levels).y.from < (resolution_area h c h.levels).y.to = rw (by_none (component_area h c).y.from h.levels, by_none (component_area h c).y.to h.levels) some.high in
    product_some (precinct_columns h c h.levels) (precinct_rows h c h.levels)
    (some_strip (precinct_exponents h h.levels).x (resolution_area h c h.levels).x wide)
    (some_strip (precinct_exponents h h.levels).y (resolution_area h c h.levels).y high)
