use Rattle.std.proofs.Common.{◌≡◌, map, drop}
use Rattle.std.specs.List.{list_any}
use Rattle.codestream_model.specs.SegmentTests.{is_empty}
use Rattle.j2k_markers.specs.Fields.{pair}
use Rattle.j2k_markers.proofs.components.any_is_empty.Given as goal

abbrev pub invariant-loop-step : goal.invariant-loop-step
invariant-loop-step l = list_any (is_empty l.content) (map pair l.steps) ≡ list_any (is_empty l.content) (map pair (drop l.step-index l.steps))
