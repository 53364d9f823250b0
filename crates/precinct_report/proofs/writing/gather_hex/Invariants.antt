use Rattle.std.proofs.Common.{◌≡◌, ◌++◌, ℕ, List, length}
use Rattle.stream_model.specs.Report.{hex}
use Rattle.scl_outside.specs.Events.{Event}
use Rattle.scl_outside.specs.declared.duct.PutOut.TheVariants.{Done}
use Rattle.precinct_report.specs.Gathering.{Gathers}
use Rattle.precinct_report.proofs.writing.gather_hex.Given as goal

-- what was read is gathered
abbrev pub invariant-loop-rest : goal.invariant-loop-rest
invariant-loop-rest g l = (front : List ℕ) × (l.bytes ≡ front ++ l.rest) × ((es : List Event) × Gathers (hex front) (g.D.Duct.meaning l.fn.duct) (g.D.Duct.meaning l.duct) l.fn.page l.page Done es)

abbrev pub decreases-loop-rest : goal.decreases-loop-rest
decreases-loop-rest g l = length l.rest
