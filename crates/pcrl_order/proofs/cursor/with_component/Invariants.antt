use Rattle.pcrl_order.specs.Least.{numbers_in, IsLeastOf, IsOfEarlier}
use Rattle.pcrl_order.proofs.cursor.with_component.Given as goal

-- the least of the precincts of the resolutions that are behind
abbrev pub invariant-loop-r : goal.invariant-loop-r
invariant-loop-r l = IsLeastOf l.geometry (numbers_in l.from) (IsOfEarlier l.c l.r) l.best
