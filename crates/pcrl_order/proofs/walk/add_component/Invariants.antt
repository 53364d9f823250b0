use Rattle.std.proofs.Common.{◌≤◌, ◌+◌, ◌*◌, length}
use Rattle.pcrl_order.specs.Ahead.{IsAheadIn, least_numbers}
use Rattle.pcrl_order.specs.Least.{IsOfEarlier}
use Rattle.pcrl_order.proofs.walk.add_component.Given as goal

-- a candidate of each resolution so far
abbrev pub invariant-loop-r : goal.invariant-loop-r
invariant-loop-r l = (length l.nexts.items ≤ 16 * l.c + l.r) × IsAheadIn l.geometry (IsOfEarlier l.c l.r) least_numbers l.nexts.items
