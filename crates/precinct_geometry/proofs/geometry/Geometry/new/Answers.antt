use Rattle.std.proofs.Common.{◌≡◌, ◌<◌, ◌+◌, ℕ, List, length, sym, subst}
use Rattle.precinct_geometry.specs.declared.geometry.Area.{Area}
use Rattle.precinct_geometry.specs.Components.{IsComponentAt}
use Rattle.precinct_geometry.proofs.Components.{one_more_area, one_more_count}
use Rattle.precinct_geometry.proofs.geometry.Geometry.new.Goals as goal

pub loop-c-preserved : goal.loop-c-preserved
loop-c-preserved c =
    let P : List Area → Type 0 = λ areas. (length areas ≡ c.loop-c.c + 1) × ((i : ℕ) (d : Area) → i < length areas → IsComponentAt c.args.head areas i d) in
    let invariant = c.loop-c.invariant in
    let one = c.area_of_component in
    let more = subst P (sym c.push.ensures.items) (
      one_more_count c.loop-c.components.items c.loop-c.c one.result invariant.1,
      one_more_area c.args.head c.loop-c.components.items c.loop-c.c one.result invariant.1 invariant.2 one.ensures.area one.ensures.within,
    ) in
    (invariant.0, more.0, more.1)
