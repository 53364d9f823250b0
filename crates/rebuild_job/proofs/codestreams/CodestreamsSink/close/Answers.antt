use Rattle.std.proofs.Common.{None, Option, subst}
use Rattle.scl_outside.specs.Writing.{Puts}
use Rattle.rebuild_model.specs.Rebuilding.{Open, closing, open_at_end}
use Rattle.stream_model.specs.Receiver.{flushed}
use Rattle.rebuild_job.specs.Growing.{rebuilt_closes}
use Rattle.rebuild_job.proofs.codestreams.CodestreamsSink.close.Goals as goal

pub returns : goal.returns
returns g c = λ r put counts.
    let w = c.close.ensures.writes in
    let P : Option Open → Type 0 = λ o. Puts (closing o) (g.D.Duct.meaning c.args.out.now) (g.D.Duct.meaning c.close.new.duct) c.close.result w.0 in
    (w.0, record { text = closing (open_at_end None (flushed r).releases); adds = rebuilt_closes (flushed r).releases; puts = subst P put w.1 })
