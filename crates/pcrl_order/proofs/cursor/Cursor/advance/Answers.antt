use Rattle.std.proofs.Common.{◌≡◌, [], ◌∷◌, subst, refl, ap, arith}
use Rattle.codestream_model.specs.Values.{Place}
use Rattle.codestream_model.specs.HeadLimits.{IsWithinLimits}
use Rattle.precinct_geometry.specs.Spans.{place_of}
use Rattle.pcrl_order.specs.Anchors.{place_in}
use Rattle.pcrl_order.specs.Later.{later}
use Rattle.pcrl_order.proofs.Steps.{next_is, last_is}
use Rattle.pcrl_order.proofs.cursor.Cursor.advance.Goals as goal

pub overflow_add-self-inside : goal.overflow_add-self-inside
overflow_add-self-inside c =
    let limits = subst IsWithinLimits c.head.ensures c.is_within_limits.ensures in
    omega (arith, limits.few_levels, c.requires.resolution, ap (λ (w : Place). w.r) c.self.view_is)

pub returns-in_default-clause-last : goal.returns-in_default-clause-last
returns-in_default-clause-last c =
    let limits = subst IsWithinLimits c.head.ensures c.is_within_limits.ensures in
    let P : Place → Type 0 = λ w. later c.args.geometry.now w ≡ [] in
    λ said. (subst P c.self.view_is (last_is c.args.geometry.now (place_of c.self.inside.place) c.rank.result c.anchor-y.result.0 c.anchor-y.result.1 limits (record { rank_is = c.rank.ensures; y_is = c.anchor-y.ensures.y; x_is = c.anchor-y.ensures.x }) (rw c.in_default.is at c.least_from.ensures)), refl)

pub returns-clause-next : goal.returns-clause-next
returns-clause-next c =
    let limits = subst IsWithinLimits c.head.ensures c.is_within_limits.ensures in
    let P : Place → Type 0 = λ w. later c.args.geometry.now w ≡ place_in c.in-Some.next ∷ later c.args.geometry.now (place_in c.in-Some.next) in
    λ said. subst P c.self.view_is (next_is c.args.geometry.now (place_of c.self.inside.place) c.rank.result c.anchor-y.result.0 c.anchor-y.result.1 c.in-Some.next limits (record { rank_is = c.rank.ensures; y_is = c.anchor-y.ensures.y; x_is = c.anchor-y.ensures.x }) (rw c.in-Some.is at c.least_from.ensures))
