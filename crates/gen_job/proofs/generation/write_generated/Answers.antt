use Rattle.std.proofs.Common.{[], ◌∷◌, ◌∙◌}
use Rattle.scl_outside.specs.Events.{Wrote, WriteFailed}
use Rattle.trial_model.specs.Generator.{generated}
use Rattle.gen_job.specs.GenJob.{shape_of}
use Rattle.scl_run.proofs.Written.{no_memory, written, broken}
use Rattle.gen_job.proofs.generation.write_generated.Goals as goal

pub returns-in_default : goal.returns-in_default
returns-in_default g c = ([], no_memory (generated (shape_of c.args.asked) c.args.asked.seed) _)

pub returns-in-Done : goal.returns-in-Done
returns-in-Done g c =
    (Wrote c.deref.result.now ∷ [], written (generated (shape_of c.args.asked) c.args.asked.seed) c.deref.result.now _ _ (c.deref.ensures.value ∙ c.in-Ok.ensures.generated) c.in-Done.ensures.step)

pub returns : goal.returns
returns g c =
    let step = c.in-Failed.ensures.step in
    (WriteFailed step.0 ∷ [], broken (generated (shape_of c.args.asked) c.args.asked.seed) c.deref.result.now step.0 step.1 _ _ (c.deref.ensures.value ∙ c.in-Ok.ensures.generated) step.2 step.3)
