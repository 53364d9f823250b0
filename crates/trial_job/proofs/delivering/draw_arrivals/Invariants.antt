use Rattle.trial_job.specs.Delivering.{AreDrawn}
use Rattle.trial_job.proofs.delivering.draw_arrivals.Given as goal

abbrev pub invariant-loop-position : goal.invariant-loop-position
invariant-loop-position l = AreDrawn l.loss l.position l.seed l.arrivals
