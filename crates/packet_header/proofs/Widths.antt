-- How many bits the lengths of a code-block take.
use Rattle.std.proofs.Common.{◌≡◌, ◌≢◌, ◌≤◌, ◌+◌, ◌*◌, ◌/◌, ◌^◌, ℕ, zero, suc, subst, arith}
use Rattle.std.proofs.Math.Nat.{pow-suc}
use Rattle.codestream_model.specs.TagTrees.{exponent}
use Rattle.codestream_model.proofs.ExponentLemmas.{exponent_is_least}

-- half a number has one bit less
half_fits : (n e : ℕ) → n ≢ 0 → n + 1 ≤ 2 ^ e → exponent (n / 2 + 1) + 1 ≤ e
half_fits n zero ne h = absurd (omega arith)
half_fits n (suc e) ne h =
    let double : 2 ^ suc e ≡ 2 * 2 ^ e = omega (arith, pow-suc 2 e) in
    let half : n / 2 + 1 ≤ 2 ^ e = omega arith in
    let l = (exponent_is_least (n / 2 + 1)).1 e half in
    omega arith

pub bits_of_half : (n : ℕ) → n ≢ 0 → exponent (n / 2 + 1) + 1 ≡ exponent (n + 1)
bits_of_half n ne =
    let here = exponent_is_least (n + 1) in
    let low : exponent (n / 2 + 1) + 1 ≤ exponent (n + 1) = half_fits n (exponent (n + 1)) ne here.0 in
    let e = exponent (n / 2 + 1) in
    let half : n / 2 + 1 ≤ 2 ^ e = (exponent_is_least (n / 2 + 1)).0 in
    let double : 2 ^ suc e ≡ 2 * 2 ^ e = omega (arith, pow-suc 2 e) in
    let more : suc e ≡ e + 1 = omega arith in
    let P : ℕ → Type 0 = λ k. n + 1 ≤ 2 ^ k in
    let fits : n + 1 ≤ 2 ^ (e + 1) = subst P more (omega arith) in
    let high : exponent (n + 1) ≤ e + 1 = here.1 (e + 1) fits in
    omega arith

-- 0 has none
pub bits_of_none : exponent (0 + 1) ≡ 0
bits_of_none = let l = (exponent_is_least 1).1 0 (omega arith) in omega arith

-- a number below a power of two has no more bits
pub bits_within : (n e : ℕ) → n + 1 ≤ 2 ^ e → exponent (n + 1) ≤ e
bits_within n e h = (exponent_is_least (n + 1)).1 e h
