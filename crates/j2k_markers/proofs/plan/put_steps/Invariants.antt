use Rattle.std.proofs.Common.{◌≡◌, ◌++◌, drop}
use Rattle.std.specs.List.{flat_map}
use Rattle.j2k_markers.specs.Layout.{step_bytes}
use Rattle.j2k_markers.proofs.plan.put_steps.Given as goal

abbrev pub invariant-loop-step : goal.invariant-loop-step
invariant-loop-step l = l.initial.bytes.items ++ flat_map step_bytes l.steps ≡ l.bytes.items ++ flat_map step_bytes (drop l.step-index l.steps)
