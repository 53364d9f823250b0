use Rattle.scl_outside.specs.Memory.{outside_meaning}
use Rattle.scl_outside.specs.WireAnswers.{parcel}
use Rattle.scl_outside.proofs.SureSteps.{sure_step, send_passes}
use Rattle.scl_outside.proofs.never_fails.NeverFailsOutside.send.Goals as goal

pub returns-clause-step : goal.returns-clause-step
returns-clause-step c =
    sure_step (outside_meaning c.args.self.now.inner) (outside_meaning c.send.new.self) _
    (send_passes c.send.result _ c.args.self.now.inner.wire.links.never_fails (parcel c.args.peer c.args.bytes.now) c.args.self.now.links_pass c.send.ensures.memory.sends.gives) c.send.ensures.step
