-- The first power of two that isn't below the number.
use Rattle.std.proofs.Common.{◌≡◌, ◌≤◌, ◌^◌, arith}
use Rattle.tag_tree.proofs.PlaceLemmas.{exponent_reached}
use Rattle.tag_tree.proofs.layout.exponent_of.Goals as goal

pub returns-else-level-most-clause-least : goal.returns-else-level-most-clause-least
returns-else-level-most-clause-least c =
    let enough : c.args.most ≤ 2 ^ c.loop-level.level = omega (arith, c.if-level-most.false) in
    exponent_reached c.args.most c.loop-level.level c.loop-level.invariant.1 enough

pub returns-after-loop-level-clause-least : goal.returns-after-loop-level-clause-least
returns-after-loop-level-clause-least c =
    let end : c.loop-level.level ≡ 16 = omega (arith, c.loop-level.invariant.0, c.loop-level-test.false) in
    let enough : c.args.most ≤ 2 ^ c.loop-level.level = rw end (omega (arith, c.requires)) in
    exponent_reached c.args.most c.loop-level.level c.loop-level.invariant.1 enough
