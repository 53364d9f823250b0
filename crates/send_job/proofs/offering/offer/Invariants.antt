use Rattle.std.proofs.Common.{◌-◌}
use Rattle.send_job.proofs.Offered.{Waited}
use Rattle.send_job.proofs.offering.offer.Given as goal

abbrev pub invariant-loop-waited : goal.invariant-loop-waited
invariant-loop-waited g l = Waited l.idle l.datagram l.waited (g.O.Duct.meaning l.fn.out) (g.O.Duct.meaning l.out)

abbrev pub decreases-loop-waited : goal.decreases-loop-waited
decreases-loop-waited g l = l.idle - l.waited
