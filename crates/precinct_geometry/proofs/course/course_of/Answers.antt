use Rattle.std.proofs.Common.{◌≤◌, ◌^◌, arith, sym}
use Rattle.std.proofs.lemmas.Nat.{pow-add}
use Rattle.std.proofs.Math.Pow.{pow_mono}
use Rattle.precinct_geometry.proofs.Courses.{begins_within, width_bounds}
use Rattle.precinct_geometry.proofs.course.course_of.Goals as goal

pub returns-clause-width : goal.returns-clause-width
returns-clause-width c = rw (c.power.ensures.value, c.power-2.ensures.value, c.from-2.ensures, pow-add) (omega arith)

pub returns-clause-course : goal.returns-clause-course
returns-clause-course c =
    let deep : c.power-2.result ≤ 2 ^ 15 = rw c.power-2.ensures.value (pow_mono {i = c.args.deeper} {j = 15} c.requires.deeper) in
    let bounds = width_bounds c.from-2.result c.power.result c.power-2.result (rw c.from-2.ensures c.requires.step) (rw c.from-2.ensures c.ranges.step.fits) c.power.ensures.some c.power.ensures.most c.power-2.ensures.some deep in
    record {
      some = bounds.0;
      narrow = bounds.1;
      early = rw c.from.ensures c.requires.start;
      few = omega (arith, c.strips.ensures.less);
      near = omega (arith, c.over_power.ensures.less);
      within = λ i lt.
          rw (c.over_power.ensures.value, c.power.ensures.value)
          (begins_within c.args.stretch.from c.args.stretch.to c.args.e c.from-2.result c.power-2.result i (rw (sym c.strips.ensures.value) lt) c.requires.to bounds.2);
    }
