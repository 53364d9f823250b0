use Rattle.std.proofs.Common.{◌∙◌, arith}
use Rattle.precinct_geometry.specs.Spans.{place_of}
use Rattle.precinct_geometry.proofs.Counting.{small_parts}
use Rattle.precinct_geometry.proofs.geometry.Geometry.pid.Goals as goal

pub overflow_add-s : goal.overflow_add-s
overflow_add-s c =
    let parts = small_parts c.args.self.now c.self.inside.head (place_of c.args.p) c.below.result c.from-components.result c.self.view_is c.self.invariant.limits c.requires c.below.ensures.count (c.from-components.ensures ∙ c.components.ensures.count) in
    omega (arith, parts)

pub overflow_mul-result : goal.overflow_mul-result
overflow_mul-result c =
    let parts = small_parts c.args.self.now c.self.inside.head (place_of c.args.p) c.below.result c.from-components.result c.self.view_is c.self.invariant.limits c.requires c.below.ensures.count (c.from-components.ensures ∙ c.components.ensures.count) in
    omega (arith, parts, c.from.ensures)

pub overflow_add-result : goal.overflow_add-result
overflow_add-result c =
    let parts = small_parts c.args.self.now c.self.inside.head (place_of c.args.p) c.below.result c.from-components.result c.self.view_is c.self.invariant.limits c.requires c.below.ensures.count (c.from-components.ensures ∙ c.components.ensures.count) in
    omega (arith, parts, c.from.ensures)

pub returns-clause-few : goal.returns-clause-few
returns-clause-few c =
    let parts = small_parts c.args.self.now c.self.inside.head (place_of c.args.p) c.below.result c.from-components.result c.self.view_is c.self.invariant.limits c.requires c.below.ensures.count (c.from-components.ensures ∙ c.components.ensures.count) in
    omega (arith, parts, c.from.ensures)
