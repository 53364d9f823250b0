-- The first strip from a place on, and the numbers of strips.
use Rattle.std.proofs.Common.{◌≡◌, ◌<◌, ◌≤◌, ◌↔◌, ◌+◌, ◌-◌, ◌*◌, ◌/◌, ◌^◌, ℕ, max, arith}
use Rattle.std.proofs.Math.Nat.{mul-le-mul}
use Rattle.codestream_model.specs.Areas.{ceil_div}
use Rattle.codestream_model.specs.Precincts.{strips}
use Rattle.codestream_model.proofs.Anchors.{quotient_is_rounded_up}
use Rattle.precinct_geometry.proofs.Corners.{inside}

-- strips from a quotient rounded up on are those that don't begin before the dividend
pub first_from_later : (start first width place : ℕ) → 1 ≤ width → start < place → (i : ℕ) → (place ≤ max start ((first + i) * width)) ↔ (ceil_div place width - first ≤ i)
first_from_later start first width place some later i =
    let law = quotient_is_rounded_up place width (first + i) some in (
      λ le. let below : place ≤ (first + i) * width = omega arith in let q : ceil_div place width ≤ first + i = law.1 below in omega arith,
      λ le. let q : ceil_div place width ≤ first + i = omega arith in let below : place ≤ (first + i) * width = law.0 q in omega arith,
    )

-- and none begins before the image
pub first_from_start : (start first width place : ℕ) → place ≤ start → (i : ℕ) → (place ≤ max start ((first + i) * width)) ↔ (0 ≤ i)
first_from_start start first width place early i = (λ le. omega arith, λ le. omega arith)

-- each strip begins within 2^54
pub begins_within : (from to e step deep i : ℕ) → i < strips e (record { from = from; to = to }) → to < 2 ^ 31 → step * deep < 2 ^ 23 → (from / 2 ^ e + i) * (step * (2 ^ e * deep)) < 2 ^ 54
begins_within from to e step deep i few small narrow =
    let begins : (from / 2 ^ e + i) * 2 ^ e ≤ 2 ^ 31 = omega (arith, inside from to e i few) in
    let product : (from / 2 ^ e + i) * 2 ^ e * (step * deep) ≤ 2 ^ 31 * (2 ^ 23 - 1) = mul-le-mul {n₁ = (from / 2 ^ e + i) * 2 ^ e} {m₁ = step * deep} {n₂ = 2 ^ 31} {m₂ = 2 ^ 23 - 1} begins (omega arith) in
    let same : (from / 2 ^ e + i) * (step * (2 ^ e * deep)) ≡ (from / 2 ^ e + i) * 2 ^ e * (step * deep) = omega arith in
    omega arith

-- the bounds of a width
pub width_bounds : (step e deeper : ℕ) → 1 ≤ step → step < 256 → 1 ≤ e → e ≤ 2 ^ 16 → 1 ≤ deeper → deeper ≤ 2 ^ 15 → (1 ≤ step * (e * deeper)) × (step * (e * deeper) < 2 ^ 62) × (step * deeper < 2 ^ 23)
width_bounds step e deeper s1 s2 e1 e2 d1 d2 =
    let low : 1 * 1 ≤ e * deeper = mul-le-mul {n₁ = 1} {m₁ = 1} {n₂ = e} {m₂ = deeper} e1 d1 in
    let lower : 1 * 1 ≤ step * (e * deeper) = mul-le-mul {n₁ = 1} {m₁ = 1} {n₂ = step} {m₂ = e * deeper} s1 (omega arith) in
    let high : e * deeper ≤ 2 ^ 16 * 2 ^ 15 = mul-le-mul {n₁ = e} {m₁ = deeper} {n₂ = 2 ^ 16} {m₂ = 2 ^ 15} e2 d2 in
    let higher : step * (e * deeper) ≤ 255 * (2 ^ 16 * 2 ^ 15) = mul-le-mul {n₁ = step} {m₁ = e * deeper} {n₂ = 255} {m₂ = 2 ^ 16 * 2 ^ 15} (omega arith) high in
    let other : step * deeper ≤ 255 * 2 ^ 15 = mul-le-mul {n₁ = step} {m₁ = deeper} {n₂ = 255} {m₂ = 2 ^ 15} (omega arith) d2 in
    (omega arith, omega arith, omega arith)
