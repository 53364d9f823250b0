use Rattle.std.proofs.Common.{length}
use Rattle.j2k_markers.specs.Walking.{ReadsMain}
use Rattle.j2k_markers.proofs.walk.walk_main.Given as goal

abbrev pub invariant-segments : goal.invariant-segments
invariant-segments l = ReadsMain l.bytes l.before l.rest

abbrev pub decreases-segments : goal.decreases-segments
decreases-segments l = length l.rest
