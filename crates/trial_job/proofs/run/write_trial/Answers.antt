use Rattle.std.proofs.Common.{[], ◌∷◌, ◌∙◌, ap}
use Rattle.scl_outside.specs.Events.{Wrote, WriteFailed}
use Rattle.trial_model.specs.Trial.{trial_line, TrialCounts}
use Rattle.scl_run.proofs.Written.{no_memory, written, broken}
use Rattle.trial_job.specs.Job.{line_for}
use Rattle.trial_job.proofs.run.write_trial.Goals as goal

pub returns-in_default : goal.returns-in_default
returns-in_default g c = ([], no_memory (line_for c.args.asked) _)

pub returns-in-Done : goal.returns-in-Done
returns-in-Done g c =
    let is = c.as_bytes.ensures.value ∙ (c.deref.ensures.0 ∙ (c.line_of.ensures ∙ ap (λ (t : TrialCounts). trial_line t) c.in-Ok.ensures)) in
    (Wrote c.as_bytes.result.now ∷ [], written (line_for c.args.asked) c.as_bytes.result.now _ _ is c.in-Done.ensures.step)

pub returns-in-Failed : goal.returns-in-Failed
returns-in-Failed g c =
    let is = c.as_bytes.ensures.value ∙ (c.deref.ensures.0 ∙ (c.line_of.ensures ∙ ap (λ (t : TrialCounts). trial_line t) c.in-Ok.ensures)) in
    let step = c.in-Failed.ensures.step in
    (WriteFailed step.0 ∷ [], broken (line_for c.args.asked) c.as_bytes.result.now step.0 step.1 _ _ is step.2 step.3)
