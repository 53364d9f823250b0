-- Quotients that are rounded up, and the anchors of precincts, which no two of a resolution share.
use Rattle.std.proofs.Common.{◌≡◌, ◌<◌, ◌≤◌, ◌+◌, ◌-◌, ◌*◌, ◌/◌, ◌%◌, ◌^◌, ℕ, zero, suc, max, [], ◌∷◌, refl, sym, ◌∙◌, ap, inl, inr, arith, mul-le-mul_right}
use Rattle.std.proofs.lemmas.Bool.{cases_order}
use Rattle.std.proofs.lemmas.Nat.{pow_pos, pow-add, div-add-mod'}
use Rattle.std.proofs.Math.Nat.{lt-div-mul-add, div-lt_iff_lt-mul}
use Rattle.codestream_model.specs.Values.{Head, Place}
use Rattle.codestream_model.specs.Areas.{ceil_div, step_of}
use Rattle.codestream_model.specs.Precincts.{precinct_exponents, precinct_columns}
use Rattle.codestream_model.specs.PacketOrder.{anchor, rank}
use Rattle.codestream_model.specs.GeometryLaws.{QuotientIsRoundedUp, KeysAreDistinct}
use Rattle.codestream_model.proofs.Numbers.{same_place}

-- a quotient rounded up covers the dividend,
pub ceil_covers : (a b : ℕ) → 0 < b → a ≤ ceil_div a b * b
ceil_covers a b pos = omega (arith, lt-div-mul-add {a = a + (b - 1)} pos)

-- and is the least number that does
pub ceil_least : (a b q : ℕ) → 0 < b → a ≤ q * b → ceil_div a b ≤ q
ceil_least a b q pos le =
    let below : a + (b - 1) < (q + 1) * b = omega arith in
    let less : ceil_div a b < q + 1 = (div-lt_iff_lt-mul {x = a + (b - 1)} {y = q + 1} pos).1 below in
    omega arith

-- so it is a quotient rounded up
pub quotient_is_rounded_up : QuotientIsRoundedUp
quotient_is_rounded_up a b q pos = (λ le. omega (arith, ceil_covers a b pos, mul-le-mul_right b le), λ le. ceil_least a b q pos le)

-- one past a covered number is covered by one past its cover
one_past : (a b c k : ℕ) → 0 < k → a ≤ b * k → b + 1 ≤ c → a + 1 ≤ c * k
one_past a b c k pos le more = omega (arith, mul-le-mul_right k more)

-- the same product in another order
four_factors : (a p d x : ℕ) → a * p * d * x ≡ a * (x * (p * d))
four_factors a p d x = omega arith

-- the image begins before the second strip of precincts does
begins_before : (x0 x d p : ℕ) → 0 < x → 0 < d → 0 < p → x0 < (ceil_div (ceil_div x0 x) d / p + 1) * (x * (p * d))
begins_before x0 x d p xp dp pp =
    let strip = ceil_div (ceil_div x0 x) d / p + 1 in
    let covered : ceil_div (ceil_div x0 x) d + 1 ≤ strip * p = omega (arith, lt-div-mul-add {a = ceil_div (ceil_div x0 x) d} pp) in
    let resolution : ceil_div x0 x + 1 ≤ strip * p * d = one_past (ceil_div x0 x) (ceil_div (ceil_div x0 x) d) (strip * p) d dp (ceil_covers (ceil_div x0 x) d dp) covered in
    let component : x0 + 1 ≤ strip * p * d * x = one_past x0 (ceil_div x0 x) (strip * p * d) x xp (ceil_covers x0 x xp) resolution in
    omega (arith, four_factors strip p d x)

-- a number below a product has a factor that isn't 0
positive_factor : (x n s : ℕ) → x < n * s → 0 < s
positive_factor x n zero lt = absurd (omega arith)
positive_factor x n (suc s) lt = omega arith

-- a product with one more
one_more : (n s : ℕ) → (n + 1) * s ≡ n * s + s
one_more n s = omega arith

-- a greater one of two that are not below a start
less_than_max : (x0 one i j s : ℕ) → x0 < one → one ≤ j → i + s ≤ j → 0 < s → max x0 i < max x0 j
less_than_max x0 one i j s begins second after pos = omega arith

-- of two strips the later one has the greater anchor
later_strip : (x0 a s i j : ℕ) → x0 < (a + 1) * s → i < j → max x0 ((a + i) * s) < max x0 ((a + j) * s)
later_strip x0 a s i j begins lt =
    let second : a + 1 ≤ a + j = omega arith in
    let after : a + i + 1 ≤ a + j = omega arith in
    let step : (a + i) * s + s ≤ (a + j) * s = rw (← one_more (a + i) s) (mul-le-mul_right s after) in
    less_than_max x0 ((a + 1) * s) ((a + i) * s) ((a + j) * s) s begins (mul-le-mul_right s second) step (positive_factor x0 (a + 1) s begins)

-- so strips with one anchor are one
same_strip : (x0 a s i j : ℕ) → x0 < (a + 1) * s → max x0 ((a + i) * s) ≡ max x0 ((a + j) * s) → i ≡ j
same_strip x0 a s i j begins e = elim (cases_order i j) [
  | inl same ↦ same
  | inr (inl lt) ↦ absurd (omega (arith, later_strip x0 a s i j begins lt))
  | inr (inr gt) ↦ absurd (omega (arith, later_strip x0 a s j i begins gt))
]

-- the same with the exponents of a precinct and of a resolution
same_strip_at : (x0 x d p i j : ℕ) → 0 < x → max x0 ((ceil_div (ceil_div x0 x) (2 ^ d) / 2 ^ p + i) * (x * 2 ^ (p + d))) ≡ max x0 ((ceil_div (ceil_div x0 x) (2 ^ d) / 2 ^ p + j) * (x * 2 ^ (p + d))) → i ≡ j
same_strip_at x0 x d p i j pos e =
    let power : 2 ^ (p + d) ≡ 2 ^ p * 2 ^ d = pow-add 2 p d in
    let begins : x0 < (ceil_div (ceil_div x0 x) (2 ^ d) / 2 ^ p + 1) * (x * 2 ^ (p + d)) = rw power (begins_before x0 x (2 ^ d) (2 ^ p) pos (pow_pos d) (pow_pos p)) in
    same_strip x0 (ceil_div (ceil_div x0 x) (2 ^ d) / 2 ^ p) (x * 2 ^ (p + d)) i j begins e

-- numbers with one quotient and one remainder are one
pub same_quotient : (k j n : ℕ) → k / n ≡ j / n → k % n ≡ j % n → k ≡ j
same_quotient k j n a b = sym (div-add-mod' k n) ∙ (ap (λ (t : ℕ). t * n + k % n) a ∙ (ap (λ (t : ℕ). j / n * n + t) b ∙ div-add-mod' j n))

-- two precincts of a resolution with one anchor are one
same_number : (h : Head) (c r k j : ℕ) → (0 < (step_of h c).x) × (0 < (step_of h c).y) → (anchor h (record { c = c; r = r; k = k })).y ≡ (anchor h (record { c = c; r = r; k = j })).y → (anchor h (record { c = c; r = r; k = k })).x ≡ (anchor h (record { c = c; r = r; k = j })).x → k ≡ j
same_number h c r k j pos ys xs =
    let n = precinct_columns h c r in
    same_quotient k j n
    (same_strip_at h.y0 (step_of h c).y (h.levels - r) (precinct_exponents h r).y (k / n) (j / n) pos.1 ys)
    (same_strip_at h.x0 (step_of h c).x (h.levels - r) (precinct_exponents h r).x (k % n) (j % n) pos.0 xs)

-- lists of five that are one have the same items
same_five : (r a b c d q s t u v : ℕ) → r ∷ a ∷ b ∷ c ∷ d ∷ [] ≡ q ∷ s ∷ t ∷ u ∷ v ∷ [] → (a ≡ s) × (b ≡ t) × (c ≡ u) × (d ≡ v)
same_five r a b c d q s t u v e = (cc, cc, cc, cc)

-- two precincts have two keys
pub keys_are_distinct : KeysAreDistinct
keys_are_distinct h p q steps a b e =
    let four = same_five (rank h p.r) (anchor h p).y (anchor h p).x p.c p.r (rank h q.r) (anchor h q).y (anchor h q).x q.c q.r e in
    let moved : q ≡ record { c = p.c; r = p.r; k = q.k } = same_place q (record { c = p.c; r = p.r; k = q.k }) (sym four.2) (sym four.3) refl in
    let ys : (anchor h p).y ≡ (anchor h (record { c = p.c; r = p.r; k = q.k })).y = four.0 ∙ ap (λ (w : Place). (anchor h w).y) moved in
    let xs : (anchor h p).x ≡ (anchor h (record { c = p.c; r = p.r; k = q.k })).x = four.1 ∙ ap (λ (w : Place). (anchor h w).x) moved in
    same_place p q four.2 four.3 (same_number h p.c p.r p.k q.k (steps p.c (record { x = 1; y = 1 }) a.component) ys xs)
