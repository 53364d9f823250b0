use Rattle.std.proofs.Common.{◌≤◌, ◌-◌, length}
use Rattle.deliver_job.proofs.BoundsLaws.{BoundsSoFar}
use Rattle.deliver_job.proofs.bounds.bounds_of.Given as goal

abbrev pub invariant-loop-len : goal.invariant-loop-len
invariant-loop-len l = record {
  within : l.at ≤ length l.capture;
  so_far : BoundsSoFar l.capture l.at l.starts.items;
}

abbrev pub decreases-loop-len : goal.decreases-loop-len
decreases-loop-len l = length l.capture - l.at
