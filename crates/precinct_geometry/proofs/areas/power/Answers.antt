use Rattle.std.proofs.Common.{◌≤◌, ◌^◌, arith}
use Rattle.std.proofs.Math.Pow.{pow_mono}
use Rattle.precinct_geometry.proofs.areas.power.Goals as goal

pub returns-clause-most : goal.returns-clause-most
returns-clause-most c = let small : 2 ^ c.args.e ≤ 2 ^ 16 = pow_mono c.requires in omega arith
