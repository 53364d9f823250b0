-- The labels are the least of the leaves so far.
use Rattle.std.proofs.Common.{◌≡◌}
use Rattle.tag_tree.specs.LeafReading.{IsSameShape}
use Rattle.tag_tree.proofs.FillLemmas.{LeastOf}
use Rattle.tag_tree.proofs.tree.Tree.fill.Given as goal

abbrev pub invariant-loop-at : goal.invariant-loop-at
invariant-loop-at l = record { same : IsSameShape l.fn.self l.self; met : l.self.met ≡ l.fn.self.met; least : LeastOf l.self l.leaves l.at }
