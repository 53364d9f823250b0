use Rattle.std.proofs.Common.{◌+◌, ◌-◌, ◌≤◌, length}
use Rattle.trial_job.proofs.DeliverySteps.{PairsLeft}
use Rattle.trial_job.proofs.delivering.exchange.Given as goal

abbrev pub invariant-loop-at : goal.invariant-loop-at
invariant-loop-at l = record {
  left : PairsLeft l.fn.positions l.fn.draws.state l.at l.positions l.draws.state;
  within : l.at ≤ length l.positions + 1;
}

abbrev pub decreases-loop-at : goal.decreases-loop-at
decreases-loop-at l = length l.initial.positions - l.at
