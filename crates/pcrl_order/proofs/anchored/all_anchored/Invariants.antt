use Rattle.std.proofs.Common.{◌≡◌, ◌+◌, map}
use Rattle.std.specs.List.{flat_map, range_with_len}
use Rattle.pcrl_order.specs.Anchors.{anchored_of, component_places}
use Rattle.pcrl_order.proofs.anchored.all_anchored.Given as goal

-- the precincts of the components that are behind
abbrev pub invariant-loop-c : goal.invariant-loop-c
invariant-loop-c l = l.found.items ≡ map (anchored_of l.geometry) (flat_map (λ c. component_places l.geometry c (l.geometry.levels + 1)) (range_with_len 0 l.c))
