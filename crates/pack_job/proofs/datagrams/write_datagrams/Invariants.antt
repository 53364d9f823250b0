use Rattle.std.proofs.Common.{◌-◌, List}
use Rattle.scl_outside.specs.Events.{Event}
use Rattle.pack_job.proofs.Turns.{SoFar}
use Rattle.pack_job.proofs.datagrams.write_datagrams.Given as goal

abbrev pub invariant-loop-out : goal.invariant-loop-out
invariant-loop-out g l = (es : List Event) × SoFar l.fn.sender.plan (g.D.Duct.meaning l.fn.out) (g.D.Duct.meaning l.out) l.sender es

abbrev pub decreases-loop-out : goal.decreases-loop-out
decreases-loop-out g l = 8388607 - l.sender.given
