-- A quotient rounded up, in the two ways in which it is said.
use Rattle.std.proofs.Common.{◌≡◌, ◌<◌, ◌≤◌, ◌+◌, ◌-◌, ◌*◌, ◌/◌, ◌%◌, ℕ, min, sym, ◌∙◌, ap, arith}
use Rattle.std.proofs.lemmas.Grind.{div_ceil_times}
use Rattle.std.proofs.lemmas.Nat.{div-mul-add}
use Rattle.codestream_model.specs.Areas.{ceil_div}

pub rounded_up : (a b : ℕ) → 1 ≤ b → a / b + min 1 (a % b) ≡ ceil_div a b
rounded_up a b some =
    let q = a / b + min 1 (a % b) in
    let bounds = div_ceil_times a b some in
    let low : a ≤ q * b = bounds.0 in
    let high : q * b < a + b = bounds.1 in
    let rest = a + (b - 1) - q * b in
    let small : rest < b = omega arith in
    let whole : q * b + rest ≡ a + (b - 1) = omega arith in
    sym (div-mul-add q b rest small) ∙ ap (λ t. t / b) whole
