-- The coordinates of a band are those of its component's samples.
use Rattle.std.proofs.Common.{◌≡◌, ◌<◌, ◌≤◌, ◌↔◌, ◌+◌, ◌-◌, ◌*◌, ◌^◌, ℕ, arith, inl, inr}
use Rattle.std.proofs.lemmas.Bool.{cases_lt}
use Rattle.std.proofs.lemmas.Nat.{pow_pos}
use Rattle.codestream_model.specs.Areas.{Span, ceil_div}
use Rattle.codestream_model.specs.BandLaws.{BandSpansAreSampled}
use Rattle.codestream_model.proofs.Anchors.{quotient_is_rounded_up}

-- over plain numbers: w is 2^n × u and h the half step
below_end : (to h w : ℕ) → (to - h ≤ w → ⊥) → w + h < to
below_end to h w f = elim (cases_lt (w + h) to) [ inl t ↦ t | inr t ↦ absurd (f (omega arith)) ]

not_past : (to h w : ℕ) → w + h < to → to - h ≤ w → ⊥
not_past to h w a b = omega arith

above_or : (b u : ℕ) → (b ≤ u → ⊥) → u < b
above_or b u f = elim (cases_lt u b) [ inl t ↦ t | inr t ↦ absurd (f t) ]

not_above : (b u : ℕ) → u < b → b ≤ u → ⊥
not_above b u p q = omega arith

start_up : (from h w : ℕ) → from - h ≤ w → from ≤ w + h
start_up from h w p = omega arith

start_down : (from h w : ℕ) → from ≤ w + h → from - h ≤ w
start_down from h w p = omega arith

sampled : (from to h w a b u : ℕ) → (a ≤ u) ↔ (from - h ≤ w) → (b ≤ u) ↔ (to - h ≤ w) → ((a ≤ u) × (u < b)) ↔ ((from ≤ w + h) × (w + h < to))
sampled from to h w a b u f t = (
  λ p. (start_up from h w (f.0 p.0), below_end to h w (λ q. not_above b u p.1 (t.1 q))),
  λ p. (f.1 (start_down from h w p.0), above_or b u (λ q. not_past to h w p.1 (t.0 q))),
)

turned : (d u : ℕ) → u * d ≡ d * u
turned d u = omega arith

quotient : (a d u : ℕ) → 0 < d → (ceil_div a d ≤ u) ↔ (a ≤ d * u)
quotient a d u pos = rw (← turned d u) (quotient_is_rounded_up a d u pos)

pub band_spans_are_sampled : BandSpansAreSampled
band_spans_are_sampled n odd u s =
    let h = 2 ^ (n - 1) * odd in
    sampled s.from s.to h (2 ^ n * u) (ceil_div (s.from - h) (2 ^ n)) (ceil_div (s.to - h) (2 ^ n)) u
    (quotient (s.from - h) (2 ^ n) u (pow_pos n)) (quotient (s.to - h) (2 ^ n) u (pow_pos n))
