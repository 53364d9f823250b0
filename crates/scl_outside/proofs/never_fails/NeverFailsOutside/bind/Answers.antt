use Rattle.scl_outside.specs.Memory.{outside_meaning}
use Rattle.scl_outside.proofs.SureSteps.{sure_step, bind_passes, none_listed}
use Rattle.scl_outside.proofs.never_fails.NeverFailsOutside.bind.Goals as goal

pub returns-clause-step : goal.returns-clause-step
returns-clause-step c =
    sure_step (outside_meaning c.args.self.now.inner) (outside_meaning c.bind.new.self) _
    (bind_passes c.bind.result c.args.local.now (λ h. none_listed _ _ c.args.self.now.binds_pass (c.bind.ensures.memory.binds.numbered.fails.0 h))) c.bind.ensures.step
