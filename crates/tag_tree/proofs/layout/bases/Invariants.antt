-- The levels before this one have their bases.
use Rattle.std.proofs.Common.{◌≡◌, ◌≤◌, ◌<◌, ℕ, length, get_or}
use Rattle.tag_tree.specs.Places.{base_of}
use Rattle.tag_tree.proofs.layout.bases.Given as goal

abbrev pub invariant-loop-level : goal.invariant-loop-level
invariant-loop-level l = record { low : 1 ≤ l.level; size : length l.bases ≡ 17; each : (k : ℕ) → k < l.level → get_or l.bases k 0 ≡ base_of l.cols l.rows k }
