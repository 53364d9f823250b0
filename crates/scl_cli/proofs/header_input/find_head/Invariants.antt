use Rattle.std.proofs.Common.{◌-◌, List}
use Rattle.scl_outside.specs.Events.{Event}
use Rattle.scl_cli.proofs.Looking.{Looking}
use Rattle.scl_cli.proofs.header_input.find_head.Given as goal

abbrev pub invariant-loop-head : goal.invariant-loop-head
invariant-loop-head g l = (es : List Event) × Looking (g.D.Duct.meaning l.fn.out) (g.D.Duct.meaning l.out) l.len l.bytes es

abbrev pub decreases-loop-head : goal.decreases-loop-head
decreases-loop-head g l = 8192 - l.len
