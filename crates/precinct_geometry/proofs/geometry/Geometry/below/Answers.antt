use Rattle.std.proofs.Common.{◌≡◌, ◌+◌, subst, arith}
use Rattle.codestream_model.specs.HeadLimits.{IsWithinLimits}
use Rattle.codestream_model.specs.PacketOrder.{precincts_below}
use Rattle.precinct_geometry.proofs.Counting.{below_none, below_next, few_below}
use Rattle.precinct_geometry.proofs.geometry.Geometry.below.Goals as goal

pub loop-lower-init : goal.loop-lower-init
loop-lower-init c = (subst IsWithinLimits c.self.view_is c.self.invariant.limits, omega (arith, below_none c.args.self.now c.args.c))

-- the total with the next resolution is that below the one after it
pub loop-lower-preserved : goal.loop-lower-preserved
loop-lower-preserved c = (c.loop-lower.invariant.0, below_next c.args.self.now c.args.c c.loop-lower.lower c.loop-lower.total c.count.result c.loop-lower.invariant.1 c.count.ensures.count)

pub overflow_add-total : goal.overflow_add-total
overflow_add-total c =
    let few = few_below c.args.self.now c.args.c (c.loop-lower.lower + 1) c.loop-lower.invariant.0 c.requires.component (omega arith) in
    let next : c.loop-lower.total + c.count.result ≡ precincts_below c.args.self.now c.args.c (c.loop-lower.lower + 1) = below_next c.args.self.now c.args.c c.loop-lower.lower c.loop-lower.total c.count.result c.loop-lower.invariant.1 c.count.ensures.count in
    omega arith

pub overflow_cast-total : goal.overflow_cast-total
overflow_cast-total c =
    let few = few_below c.args.self.now c.args.c (c.loop-lower.lower + 1) c.loop-lower.invariant.0 c.requires.component (omega arith) in
    let next : c.loop-lower.total + c.count.result ≡ precincts_below c.args.self.now c.args.c (c.loop-lower.lower + 1) = below_next c.args.self.now c.args.c c.loop-lower.lower c.loop-lower.total c.count.result c.loop-lower.invariant.1 c.count.ensures.count in
    omega arith

pub returns-clause-few : goal.returns-clause-few
returns-clause-few c =
    let few = few_below c.args.self.now c.args.c c.loop-lower.lower c.loop-lower.invariant.0 c.requires.component (omega arith) in
    omega (arith, few, c.loop-lower.invariant.1)
