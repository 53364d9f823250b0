use Rattle.std.proofs.Common.{◌-◌, List, length}
use Rattle.scl_outside.specs.Events.{Event}
use Rattle.codestream_walk.proofs.Stepping.{Stepping}
use Rattle.codestream_walk.proofs.pieces.Pieces.step.Given as goal

abbrev pub invariant-loop-out : goal.invariant-loop-out
invariant-loop-out g l = (es : List Event) × Stepping (g.D.Duct.meaning l.fn.duct) (g.D.Duct.meaning l.duct) l.fn.self l.self es

abbrev pub decreases-loop-out : goal.decreases-loop-out
decreases-loop-out g l = 65538 - length l.self.walk.hand
