use Rattle.std.proofs.Common.{◌≡◌, map, ◌||◌, drop}
use Rattle.std.specs.Prelude.{◌==◌}
use Rattle.std.specs.List.{list_any}
use Rattle.j2k_markers.specs.Fields.{pair}
use Rattle.j2k_markers.proofs.components.any_is_zero.Given as goal

abbrev pub invariant-loop-step : goal.invariant-loop-step
invariant-loop-step l = list_any (λ step. step.x == 0 || step.y == 0) (map pair l.steps) ≡ list_any (λ step. step.x == 0 || step.y == 0) (map pair (drop l.step-index l.steps))
