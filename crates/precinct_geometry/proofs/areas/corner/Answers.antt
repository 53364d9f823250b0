use Rattle.std.proofs.Common.{◌≤◌, ◌<◌, ◌*◌, ◌-◌, ◌^◌, arith}
use Rattle.std.proofs.lemmas.Nat.{pow-add}
use Rattle.std.proofs.Math.Nat.{mul-le-mul}
use Rattle.precinct_geometry.proofs.areas.corner.Goals as goal

pub returns-clause-value : goal.returns-clause-value
returns-clause-value c = rw (c.power.ensures.value, c.power-2.ensures.value, c.from.ensures, pow-add) (omega arith)

pub returns-clause-few : goal.returns-clause-few
returns-clause-few c =
    let place : c.args.strip * c.power.result < 2 ^ 31 = rw c.power.ensures.value c.requires.place in
    let step : c.from.result < 2 ^ 8 = rw c.from.ensures c.ranges.step.fits in
    let width : c.from.result * c.power-2.result ≤ 2 ^ 8 * 2 ^ 16 = mul-le-mul {n₁ = c.from.result} {m₁ = c.power-2.result} {n₂ = 2 ^ 8} {m₂ = 2 ^ 16} (omega arith) c.power-2.ensures.most in
    let whole : c.args.strip * c.power.result * (c.from.result * c.power-2.result) ≤ (2 ^ 31 - 1) * (2 ^ 8 * 2 ^ 16) = mul-le-mul {n₁ = c.args.strip * c.power.result} {m₁ = c.from.result * c.power-2.result} {n₂ = 2 ^ 31 - 1} {m₂ = 2 ^ 8 * 2 ^ 16} (omega arith) width in
    omega arith
