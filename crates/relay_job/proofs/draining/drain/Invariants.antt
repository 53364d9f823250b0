use Rattle.thinning_relay.specs.Relaying.{receivers_of}
use Rattle.relay_job.proofs.Flushed.{Waning}
use Rattle.relay_job.proofs.Working.{work, total}
use Rattle.relay_job.proofs.draining.drain.Given as goal

abbrev pub invariant-loop-idle : goal.invariant-loop-idle
invariant-loop-idle g l = Waning l.limit l.fn.relay l.relay (g.O.Duct.meaning l.fn.out) (g.O.Duct.meaning l.out) l.idle

abbrev pub decreases-loop-idle : goal.decreases-loop-idle
decreases-loop-idle g l = work l.limit 0 0 (total (receivers_of l.relay)) l.idle
