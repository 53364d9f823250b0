use Rattle.std.proofs.Common.{[], ◌∷◌, ◌∙◌}
use Rattle.scl_outside.specs.Events.{Wrote, WriteFailed}
use Rattle.scl_cli.proofs.Shown.{shows, shows_front}
use Rattle.scl_cli.proofs.head.write_values.Goals as goal

pub returns-in-Done : goal.returns-in-Done
returns-in-Done g c = (Wrote c.as_bytes.result.now ∷ [], shows _ c.as_bytes.result.now _ _ (c.as_bytes.ensures.value ∙ (c.deref.ensures.0 ∙ c.lines_of.ensures)) c.in-Done.ensures.step)

pub returns-in-Failed : goal.returns-in-Failed
returns-in-Failed g c = let step = c.in-Failed.ensures.step in (WriteFailed step.0 ∷ [], shows_front _ c.as_bytes.result.now step.0 step.1 _ _ (c.as_bytes.ensures.value ∙ (c.deref.ensures.0 ∙ c.lines_of.ensures)) step.2 step.3)
