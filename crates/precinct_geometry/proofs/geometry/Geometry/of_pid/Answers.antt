use Rattle.std.proofs.Common.{◌%◌, length, ap, ◌∙◌, refl, arith}
use Rattle.codestream_model.specs.Values.{Head}
use Rattle.precinct_geometry.proofs.Counting.{below_none, below_next, found, missing}
use Rattle.precinct_geometry.proofs.geometry.Geometry.of_pid.Goals as goal

pub loop-r-init : goal.loop-r-init
loop-r-init c = omega (arith, below_none c.args.self.now (c.args.pid % c.from-components.result), c.from-left.ensures)

pub loop-r-preserved : goal.loop-r-preserved
loop-r-preserved c =
    let next = below_next c.args.self.now (c.args.pid % c.from-components.result) c.loop-r.r _ c.count-count.result refl c.count-count.ensures.count in
    omega (arith, next, c.loop-r.invariant)

pub returns-then-left-count-clause-some : goal.returns-then-left-count-clause-some
returns-then-left-count-clause-some c =
    let same = c.from-components.ensures ∙ (c.components.ensures.count ∙ ap (λ (h : Head). length h.steps) c.self.view_is) in
    let levels = c.levels-r-end.ensures.levels ∙ ap (λ (h : Head). h.levels) c.self.view_is in
    found c.args.self.now c.from-components.result c.args.pid c.loop-r.r c.loop-r.left same (omega arith) (omega arith) c.loop-r.invariant (omega (arith, c.if-left-count.true, c.count-count.ensures.count))

pub returns-clause-none : goal.returns-clause-none
returns-clause-none c none =
    let same = c.from-components.ensures ∙ (c.components.ensures.count ∙ ap (λ (h : Head). length h.steps) c.self.view_is) in
    let levels = c.levels-r-end.ensures.levels ∙ ap (λ (h : Head). h.levels) c.self.view_is in
    missing c.args.self.now c.from-components.result c.args.pid c.loop-r.r c.loop-r.left same (omega arith) c.loop-r.invariant
