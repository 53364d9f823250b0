use Rattle.std.proofs.Common.{[], ◌∷◌}
use Rattle.scl_outside.specs.Events.{Wrote, WriteFailed}
use Rattle.scl_outside.proofs.Putting.{puts_wrote, puts_not}
use Rattle.precinct_report.proofs.writing.put.Goals as goal

pub returns-in-Done : goal.returns-in-Done
returns-in-Done g c = (Wrote c.args.bytes.now ∷ [], puts_wrote c.args.bytes.now _ _ c.in-Done.ensures.step)

pub returns-in-Failed : goal.returns-in-Failed
returns-in-Failed g c = let step = c.in-Failed.ensures.step in (WriteFailed step.0 ∷ [], puts_not c.args.bytes.now step.0 step.1 _ _ step.2 step.3)
