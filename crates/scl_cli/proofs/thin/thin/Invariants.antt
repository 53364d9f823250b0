use Rattle.std.proofs.Common.{◌≡◌, ◌-◌, true, List}
use Rattle.scl_outside.specs.Events.{Event}
use Rattle.capture_frames.specs.Reading.{input_limit}
use Rattle.scl_cli.proofs.SoFar.{SoFar}
use Rattle.scl_cli.proofs.thin.thin.Given as goal

abbrev pub invariant-loop-ending : goal.invariant-loop-ending
invariant-loop-ending g l = record {
  live : l.frames.live ≡ true;
  so_far : (es : List Event) × SoFar l.limit (g.D.Duct.meaning l.fn.out) (g.D.Duct.meaning l.out) l.frames.offset es;
}

abbrev pub decreases-loop-ending : goal.decreases-loop-ending
decreases-loop-ending g l = input_limit - l.frames.offset
