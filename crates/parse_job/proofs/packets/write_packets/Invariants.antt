use Rattle.std.proofs.Common.{◌≡◌, ◌-◌, true, List}
use Rattle.scl_outside.specs.Events.{Event}
use Rattle.codestream_walk.specs.InHand.{input_limit}
use Rattle.codestream_walk.specs.Walking.{is_live}
use Rattle.parse_job.proofs.Turns.{SoFar}
use Rattle.parse_job.proofs.packets.write_packets.Given as goal

abbrev pub invariant-loop-walk : goal.invariant-loop-walk
invariant-loop-walk g l = record {
  live : is_live l.walk.walk.stage ≡ true;
  so_far : (es : List Event) × SoFar l.stamp l.step (g.D.Duct.meaning l.fn.out) (g.D.Duct.meaning l.out) l.walk.walk l.stamp_now es;
}

abbrev pub decreases-loop-walk : goal.decreases-loop-walk
decreases-loop-walk g l = input_limit - l.walk.walk.offset
