use Rattle.polled_datagrams.specs.Offers.{on_wire}
use Rattle.relay_job.specs.Job.{naming}
use Rattle.relay_job.proofs.Finished.{begins}
use Rattle.relay_job.proofs.run.relay.Goals as goal

pub returns-in-Ok-serve : goal.returns-in-Ok-serve
returns-in-Ok-serve g c =
    let b = begins c.args.settings.now _ (g.O.Duct.meaning c.args.out.now) _ c.requires.settings c.in-Ok.ensures c.in-Bound.ensures.0 in
    let (fs, ws, (turned, passed, ended, word)) = c.in-Ok-serve.ensures.serves (g.O.Duct.meaning c.args.out.now) (on_wire (naming c.args.settings.now)) (naming c.args.settings.now) b.0 b.1 in
    c.finish.ensures (g.O.Duct.meaning c.args.out.now) fs ws turned passed ended word

pub returns : goal.returns
returns g c =
    let b = begins c.args.settings.now _ (g.O.Duct.meaning c.args.out.now) _ c.requires.settings c.in-Ok.ensures c.in-Bound.ensures.0 in
    let (fs, ws, done) = c.in-Err.ensures.serves (g.O.Duct.meaning c.args.out.now) (on_wire (naming c.args.settings.now)) (naming c.args.settings.now) b.0 b.1 in
    (fs, done)
