use Rattle.std.proofs.Common.{◌-◌, List}
use Rattle.scl_outside.specs.Events.{Event}
use Rattle.capture_frames.proofs.Buffers.{Skipping}
use Rattle.capture_frames.proofs.filling.skip.Given as goal

abbrev pub invariant-loop-done : goal.invariant-loop-done
invariant-loop-done g l = (es : List Event) × Skipping (g.D.Duct.meaning l.fn.duct) (g.D.Duct.meaning l.duct) l.done l.len es

abbrev pub decreases-loop-done : goal.decreases-loop-done
decreases-loop-done g l = l.len - l.done
