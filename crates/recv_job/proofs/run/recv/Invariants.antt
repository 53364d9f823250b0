use Rattle.std.proofs.Common.{List}
use Rattle.scl_outside.specs.Events.{Event}
use Rattle.recv_job.specs.Turns.{progress_of}
use Rattle.recv_job.proofs.SoFar.{SoFar, left_of}
use Rattle.recv_job.proofs.run.recv.Given as goal

-- datagrams were asked for, and the lines of what was due were written
abbrev pub invariant-loop-why : goal.invariant-loop-why
invariant-loop-why g l = (es : List Event) × SoFar l.settings (progress_of l.link) (g.O.Duct.meaning l.fn.out) (g.O.Duct.meaning l.out) es

abbrev pub decreases-loop-why : goal.decreases-loop-why
decreases-loop-why g l = left_of l.settings (progress_of l.link)
