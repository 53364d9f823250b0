use Rattle.std.proofs.Common.{length}
use Rattle.j2k_markers.specs.Walking.{ReadsTile}
use Rattle.j2k_markers.proofs.walk.walk_tile.Given as goal

abbrev pub invariant-segments : goal.invariant-segments
invariant-segments l = ReadsTile l.bytes l.before l.tile l.sot l.rest

abbrev pub decreases-segments : goal.decreases-segments
decreases-segments l = length l.rest
