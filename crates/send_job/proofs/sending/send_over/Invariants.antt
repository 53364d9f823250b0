use Rattle.std.proofs.Common.{◌-◌, List}
use Rattle.scl_outside.specs.Events.{Event}
use Rattle.send_job.specs.Linked.{settings_with}
use Rattle.send_job.specs.Sending.{Sent}
use Rattle.send_job.proofs.sending.send_over.Given as goal

abbrev pub invariant-loop-sender : goal.invariant-loop-sender
invariant-loop-sender g l = (es : List Event) × Sent (settings_with l.fn.sender.plan l.link) (g.O.Duct.meaning l.fn.out) (g.O.Duct.meaning l.out) l.sender l.counts es

abbrev pub decreases-loop-sender : goal.decreases-loop-sender
decreases-loop-sender g l = 8388607 - l.sender.given
