use Rattle.std.proofs.Common.{◌≡◌, ◌++◌, map}
use Rattle.std.specs.List.{range_with_len}
use Rattle.pcrl_order.specs.Anchors.{anchored_of}
use Rattle.pcrl_order.proofs.anchored.add_resolution.Given as goal

-- the precincts with numbers that are behind stand at the end
abbrev pub invariant-loop-k : goal.invariant-loop-k
invariant-loop-k l = l.found.items ≡ l.initial.found.items ++ map (anchored_of l.geometry) (map (λ k. record { c = l.c; r = l.r; k = k }) (range_with_len 0 l.k))
