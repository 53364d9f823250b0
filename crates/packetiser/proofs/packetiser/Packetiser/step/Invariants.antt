use Rattle.std.proofs.Common.{List}
use Rattle.scl_outside.specs.Events.{Event}
use Rattle.packetiser.specs.Sending.{IsSender}
use Rattle.packetiser.proofs.Stepping.{Going, rank}
use Rattle.packetiser.proofs.packetiser.Packetiser.step.Given as goal

abbrev pub invariant-loop-out : goal.invariant-loop-out
invariant-loop-out g l = record {
  sender : IsSender l.fn.self;
  going : (es : List Event) × Going l.fn.self (g.D.Duct.meaning l.fn.duct) (g.D.Duct.meaning l.duct) l.self es;
}

abbrev pub decreases-loop-out : goal.decreases-loop-out
decreases-loop-out g l = rank l.self
