use Rattle.thinning_relay.specs.Relaying.{receivers_of}
use Rattle.relay_job.proofs.Flushed.{EmptyTo}
use Rattle.relay_job.proofs.draining.are_empty.Given as goal

abbrev pub invariant-loop-j : goal.invariant-loop-j
invariant-loop-j l = EmptyTo l.j (receivers_of l.relay)
