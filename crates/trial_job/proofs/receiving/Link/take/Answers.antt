use Rattle.std.proofs.Common.{refl}
use Rattle.trial_job.proofs.Taken.{stands_of, taken_more}
use Rattle.trial_job.proofs.receiving.Link.take.Goals as goal

pub returns-clause-taken : goal.returns-clause-taken
returns-clause-taken c = λ window frames t.
    let g = c.take.ensures.takes t.packets (stands_of window frames c.args.self.now t) in
    taken_more window frames c.args.frame.now c.args.self.now _ c.take.result g.0 t c.are_bytes.ensures refl c.take.ensures.pick g.1
