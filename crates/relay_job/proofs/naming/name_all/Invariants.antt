use Rattle.std.proofs.Common.{List}
use Rattle.scl_outside.specs.Events.{WireEvent}
use Rattle.relay_job.proofs.Named.{NamedTo}
use Rattle.relay_job.proofs.naming.name_all.Given as goal

abbrev pub invariant-loop-j : goal.invariant-loop-j
invariant-loop-j g l = (wire : List WireEvent) × NamedTo l.j l.settings (g.O.Duct.meaning l.fn.out) (g.O.Duct.meaning l.out) wire
