-- No level above the root's is looked at.
use Rattle.std.proofs.Common.{◌≤◌, ◌-◌}
use Rattle.tag_tree.proofs.tree.Tree.lowest_met.Given as goal

abbrev pub invariant-loop-level : goal.invariant-loop-level
invariant-loop-level l = l.level ≤ l.self-inside.root

abbrev pub decreases-loop-level : goal.decreases-loop-level
decreases-loop-level l = l.self-inside.root - l.level
