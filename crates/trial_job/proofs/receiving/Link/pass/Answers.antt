use Rattle.trial_job.proofs.Taken.{at_limit, kept_one}
use Rattle.trial_job.proofs.receiving.Link.pass.Goals as goal

pub returns-in-Some-clause-taken : goal.returns-in-Some-clause-taken
returns-in-Some-clause-taken c = λ window frames t.
    kept_one window c.args.limit frames c.args.frame.now c.take.new.self
    (at_limit c.args.limit c.in-Some.level c.args.frame.now (c.in-Some.ensures.level c.args.limit) c.if-level-limit.true)
    (c.take.ensures.taken window frames t)
