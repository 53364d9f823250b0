use Rattle.std.proofs.Common.{◌≡◌, List, length}
use Rattle.pcrl_order.specs.Later.{later}
use Rattle.scl_outside.specs.Events.{Event}
use Rattle.scl_cli.proofs.Ordered.{OrderSoFar}
use Rattle.scl_cli.proofs.order.write_order.Given as goal

-- the walk is over the image of the header, and the lines of the precincts before it were written
abbrev pub invariant-loop-walk : goal.invariant-loop-walk
invariant-loop-walk g l = (l.walk.head ≡ l.fn.head) × ((es : List Event) × OrderSoFar l.walk.head (g.D.Duct.meaning l.fn.out) (g.D.Duct.meaning l.out) l.walk.place es)

abbrev pub decreases-loop-walk : goal.decreases-loop-walk
decreases-loop-walk g l = length (later l.walk.head l.walk.place)
