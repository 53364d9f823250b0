use Rattle.pcrl_order.specs.Ahead.{IsLeastAt}
use Rattle.pcrl_order.specs.Least.{numbers_in}
use Rattle.pcrl_order.proofs.walk.least_index.Given as goal

-- the least of the candidates so far
abbrev pub invariant-loop-index : goal.invariant-loop-index
invariant-loop-index l = IsLeastAt l.nexts (numbers_in l.from) l.index l.best
