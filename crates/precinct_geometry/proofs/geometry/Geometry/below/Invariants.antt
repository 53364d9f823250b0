use Rattle.std.proofs.Common.{◌≡◌}
use Rattle.codestream_model.specs.HeadLimits.{IsWithinLimits}
use Rattle.codestream_model.specs.PacketOrder as order
use Rattle.precinct_geometry.proofs.geometry.Geometry.below.Given as goal

-- the total is of the resolutions that are behind
abbrev pub invariant-loop-lower : goal.invariant-loop-lower
invariant-loop-lower l = IsWithinLimits l.self × (l.total ≡ order.precincts_below l.self l.c l.lower)
