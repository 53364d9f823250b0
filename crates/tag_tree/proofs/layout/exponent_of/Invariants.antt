-- The powers of two so far are below the number.
use Rattle.std.proofs.Common.{◌-◌, ◌^◌, ◌<◌, ◌≤◌, ℕ}
use Rattle.tag_tree.proofs.layout.exponent_of.Given as goal

abbrev pub decreases-loop-level : goal.decreases-loop-level
decreases-loop-level l = 16 - l.level

abbrev pub invariant-loop-level : goal.invariant-loop-level
invariant-loop-level l = (l.level ≤ 16) × ((k : ℕ) → k < l.level → 2 ^ k < l.most)
