use Rattle.std.proofs.Common.{◌∙◌}
use Rattle.relay_job.proofs.Finished.{ready, finishes, finishes_not}
use Rattle.relay_job.proofs.run.finish.Goals as goal

pub returns-in-Done : goal.returns-in-Done
returns-in-Done g c = λ first es wire turned passed ended word.
    let r = ready _ _ _ c.args.end _ _ _ es wire turned passed ended word (rw c.idle.ensures at c.drain.ensures) in
    finishes _ _ c.args.end _ _ _ r.0 r.1 _ r.2 (c.as_bytes.ensures.value ∙ (c.deref.ensures.0 ∙ c.lines_of.ensures)) c.in-Done.ensures.step

pub returns-in-Failed : goal.returns-in-Failed
returns-in-Failed g c = λ first es wire turned passed ended word.
    let r = ready _ _ _ c.args.end _ _ _ es wire turned passed ended word (rw c.idle.ensures at c.drain.ensures) in
    let w = c.in-Failed.ensures.step in
    finishes_not _ _ c.args.end _ _ _ r.0 r.1 _ w.0 w.1 r.2 (c.as_bytes.ensures.value ∙ (c.deref.ensures.0 ∙ c.lines_of.ensures)) w.2 w.3
