use Rattle.std.proofs.Common.{◌≤◌, ◌*◌, length}
use Rattle.pcrl_order.specs.Ahead.{IsAheadIn, least_numbers}
use Rattle.pcrl_order.specs.Least.{IsOfEarlier}
use Rattle.pcrl_order.proofs.walk.all_first.Given as goal

-- a candidate of each resolution of the components so far
abbrev pub invariant-loop-c : goal.invariant-loop-c
invariant-loop-c l = (length l.nexts.items ≤ 16 * l.c) × IsAheadIn l.geometry (IsOfEarlier l.c 0) least_numbers l.nexts.items
