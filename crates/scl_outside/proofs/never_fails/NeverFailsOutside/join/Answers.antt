use Rattle.scl_outside.specs.Memory.{outside_meaning}
use Rattle.scl_outside.proofs.SureSteps.{sure_step, join_passes, none_listed}
use Rattle.scl_outside.proofs.never_fails.NeverFailsOutside.join.Goals as goal

pub returns-clause-step : goal.returns-clause-step
returns-clause-step c =
    sure_step (outside_meaning c.args.self.now.inner) (outside_meaning c.join.new.self) _
    (join_passes c.join.result c.args.peer.now (λ h. none_listed _ _ c.args.self.now.binds_pass (c.join.ensures.memory.joins.numbered.fails.0 h))) c.join.ensures.step
