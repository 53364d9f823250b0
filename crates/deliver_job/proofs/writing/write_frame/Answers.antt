use Rattle.std.proofs.Common.{[], ◌∷◌}
use Rattle.scl_outside.specs.Events.{Wrote, WriteFailed}
use Rattle.deliver_job.proofs.Putting.{put_one, put_none}
use Rattle.deliver_job.proofs.writing.write_frame.Goals as goal

pub returns-in-Done : goal.returns-in-Done
returns-in-Done g c = (Wrote c.frame_at.result.now ∷ [], put_one c.frame_at.result.now _ _ _ c.frame_at.ensures c.in-Done.ensures.step)

pub returns-in-Failed : goal.returns-in-Failed
returns-in-Failed g c = let step = c.in-Failed.ensures.step in (WriteFailed step.0 ∷ [], put_none c.frame_at.result.now _ step.0 step.1 _ _ c.frame_at.ensures step.2 step.3)
