-- The page has room, or is written.
use Rattle.std.proofs.Common.{[]}
use Rattle.scl_outside.proofs.Putting.{puts_same}
use Rattle.precinct_report.proofs.Gathered.{gathers_nothing, gathers_written, gathers_unwritten}
use Rattle.precinct_report.proofs.writing.make_room.Goals as goal

pub returns-then-has_room-clause-gathers : goal.returns-then-has_room-clause-gathers
returns-then-has_room-clause-gathers g c = ([], gathers_nothing _ _)

pub returns-in-WriteFault-clause-gathers : goal.returns-in-WriteFault-clause-gathers
returns-in-WriteFault-clause-gathers g c = (c.in-WriteFault.ensures.0, gathers_unwritten _ c.args.page.now _ _ _ (puts_same _ _ _ _ _ _ c.text.ensures c.in-WriteFault.ensures.1))

pub returns-clause-gathers : goal.returns-clause-gathers
returns-clause-gathers g c = (c.in-Done.ensures.0, gathers_written _ _ _ _ _ (puts_same _ _ _ _ _ _ c.text.ensures c.in-Done.ensures.1) c.clear.ensures)
