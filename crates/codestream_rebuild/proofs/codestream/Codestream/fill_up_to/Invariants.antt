use Rattle.std.proofs.Common.{ℕ, List, length}
use Rattle.scl_outside.specs.Events.{Event}
use Rattle.scl_outside.specs.declared.duct.PutOut.TheVariants.{Done}
use Rattle.scl_outside.specs.Writing.{Puts}
use Rattle.precinct_geometry.specs.Spans.{place_of}
use Rattle.codestream_rebuild.proofs.Filling.{IsFilled}
use Rattle.codestream_rebuild.proofs.codestream.Codestream.fill_up_to.Given as goal

-- the empty packets of the precincts that aren't to come any more are written
abbrev pub invariant-loop-next : goal.invariant-loop-next
invariant-loop-next g l =
    (front : List ℕ) × IsFilled (place_of l.fn.place) l.fn.self l.self front
    × ((es : List Event) × Puts front (g.D.Duct.meaning l.fn.duct) (g.D.Duct.meaning l.duct) Done es)

abbrev pub decreases-loop-next : goal.decreases-loop-next
decreases-loop-next g l = length l.self.later
