use Rattle.std.proofs.Common.{◌≡◌, ◌+◌, ◌/◌}
use Rattle.codestream_model.specs.PacketOrder as order
use Rattle.precinct_geometry.proofs.geometry.Geometry.of_pid.Given as goal

-- what is left is the place among the component's precincts, without those of the resolutions that are behind
abbrev pub invariant-loop-r : goal.invariant-loop-r
invariant-loop-r l = order.precincts_below l.self l.c l.r + l.left ≡ l.pid / l.components
