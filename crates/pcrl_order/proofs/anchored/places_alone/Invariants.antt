use Rattle.std.proofs.Common.{◌≡◌, map, take}
use Rattle.precinct_geometry.specs.Spans.{place_of}
use Rattle.pcrl_order.specs.Anchors.{place_in}
use Rattle.pcrl_order.proofs.anchored.places_alone.Given as goal

-- the precincts of those that are behind
abbrev pub invariant-loop-one : goal.invariant-loop-one
invariant-loop-one l = map place_of l.places.items ≡ map place_in (take l.one-index l.found)
