use Rattle.std.proofs.Common.{◌<◌, ◌^◌, arith, sym}
use Rattle.codestream_model.specs.Precincts.{precinct_count}
use Rattle.j2k_markers.specs.Fields.{fields_head}
use Rattle.j2k_markers.proofs.Sums.{sum_none, sum_next}
use Rattle.j2k_markers.proofs.identifiers.count_all.Goals as goal

pub loop-r-init : goal.loop-r-init
loop-r-init c = record { sum = sym (sum_none (precinct_count (fields_head c.args.fields.now 0 0 0) c.args.c)); few = omega arith }

pub loop-r-preserved : goal.loop-r-preserved
loop-r-preserved c =
    let next = sum_next (precinct_count (fields_head c.args.fields.now 0 0 0) c.args.c) c.loop-r.r in
    let small : c.count.result < 2 ^ 64 = c.count.type_inv in
    record { sum = omega (arith, next, c.loop-r.invariant.sum, c.count.ensures, c.from-total.ensures); few = omega (arith, c.from-total.ensures) }
