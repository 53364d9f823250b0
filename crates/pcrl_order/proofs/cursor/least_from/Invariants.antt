use Rattle.pcrl_order.specs.Least.{numbers_in, IsLeastOf, IsOfEarlier}
use Rattle.pcrl_order.proofs.cursor.least_from.Given as goal

-- the least of the precincts of the components that are behind
abbrev pub invariant-loop-c : goal.invariant-loop-c
invariant-loop-c l = IsLeastOf l.geometry (numbers_in l.from) (IsOfEarlier l.c 0) l.best
