use Rattle.std.proofs.Common.{length, ◌-◌, List}
use Rattle.scl_outside.specs.Events.{Event}
use Rattle.capture_frames.proofs.Buffers.{Filling}
use Rattle.capture_frames.proofs.filling.fill.Given as goal

abbrev pub invariant-loop-at : goal.invariant-loop-at
invariant-loop-at g l = (es : List Event) × Filling (g.D.Duct.meaning l.fn.duct) (g.D.Duct.meaning l.duct) l.at l.buf es

abbrev pub decreases-loop-at : goal.decreases-loop-at
decreases-loop-at g l = length l.initial.buf - l.at
