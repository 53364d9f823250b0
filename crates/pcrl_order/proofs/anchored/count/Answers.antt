use Rattle.std.proofs.Common.{◌≡◌, ◌*◌, suc, refl, subst, arith}
use Rattle.codestream_model.specs.HeadLimits.{IsWithinLimits}
use Rattle.codestream_model.specs.Precincts.{precinct_count}
use Rattle.precinct_geometry.proofs.Counting.{few_below, below_more}
use Rattle.pcrl_order.proofs.anchored.count.Goals as goal

pub overflow_mul-result : goal.overflow_mul-result
overflow_mul-result c =
    let limits = subst IsWithinLimits c.head.ensures c.is_within_limits.ensures in
    let few = few_below c.args.geometry.now c.args.c (suc c.args.r) limits c.requires.component (omega arith) in
    let more = below_more c.args.geometry.now c.args.c c.args.r in
    let count : c.counts-columns.result.0 * c.counts-columns.result.1 ≡ precinct_count c.args.geometry.now c.args.c c.args.r = rw (c.counts-columns.ensures.columns, c.counts-columns.ensures.rows) refl in
    omega arith
