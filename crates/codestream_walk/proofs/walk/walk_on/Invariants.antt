use Rattle.std.proofs.Common.{◌≤◌, List, vec_capacity}
use Rattle.scl_outside.specs.Events.{Event}
use Rattle.codestream_walk.proofs.Inside.{SoFar}
use Rattle.codestream_walk.proofs.Ranks.{rank}
use Rattle.codestream_walk.proofs.walk.walk_on.Given as goal

abbrev pub invariant-loop-body : goal.invariant-loop-body
invariant-loop-body g l = ((es : List Event) × SoFar (g.D.Duct.meaning l.fn.duct) (g.D.Duct.meaning l.duct) l.fn.pieces.walk l.pieces.walk l.body.items es) × (16777216 ≤ vec_capacity l.body)

abbrev pub decreases-loop-body : goal.decreases-loop-body
decreases-loop-body g l = rank l.pieces.walk.stage
