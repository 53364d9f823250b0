use Rattle.std.proofs.Common.{◌-◌, length}
use Rattle.thinning_relay.specs.Relaying.{receivers_of}
use Rattle.relay_job.proofs.Served.{Going}
use Rattle.relay_job.proofs.Working.{work, total}
use Rattle.relay_job.proofs.serving.serve.Given as goal

abbrev pub invariant-loop-count : goal.invariant-loop-count
invariant-loop-count g l = Going l.settings l.fn.relay l.relay (g.O.Duct.meaning l.fn.out) (g.O.Duct.meaning l.out) l.idle

abbrev pub decreases-loop-count : goal.decreases-loop-count
decreases-loop-count g l = work l.settings.idle (length (receivers_of l.relay)) (l.settings.max - l.relay.received) (total (receivers_of l.relay)) l.idle
