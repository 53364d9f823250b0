use Rattle.std.proofs.Common.{ℕ, List, length}
use Rattle.scl_outside.specs.Events.{Event}
use Rattle.scl_outside.specs.declared.duct.PutOut.TheVariants.{Done}
use Rattle.scl_outside.specs.Writing.{Puts}
use Rattle.codestream_rebuild.proofs.Filling.{IsClosing}
use Rattle.codestream_rebuild.proofs.codestream.Codestream.close.Given as goal

-- the empty packets of the precincts that aren't to come any more are written
abbrev pub invariant-loop-self : goal.invariant-loop-self
invariant-loop-self g l =
    (front : List ℕ) × IsClosing l.fn.self l.self front
    × ((es : List Event) × Puts front (g.D.Duct.meaning l.fn.duct) (g.D.Duct.meaning l.duct) Done es)

abbrev pub decreases-loop-self : goal.decreases-loop-self
decreases-loop-self g l = length l.self.later
