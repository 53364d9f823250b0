use Rattle.std.proofs.Common.{◌≡◌, ◌++◌, map}
use Rattle.pcrl_order.specs.Anchors.{anchored_of, component_places}
use Rattle.pcrl_order.proofs.anchored.add_component.Given as goal

-- the precincts of the resolutions that are behind stand at the end
abbrev pub invariant-loop-r : goal.invariant-loop-r
invariant-loop-r l = l.found.items ≡ l.initial.found.items ++ map (anchored_of l.geometry) (component_places l.geometry l.c l.r)
