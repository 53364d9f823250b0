use Rattle.scl_outside.specs.Memory.{outside_meaning}
use Rattle.scl_outside.proofs.SureSteps.{sure_step, read_passes, none_listed}
use Rattle.scl_outside.proofs.never_fails.NeverFailsDuct.read.Goals as goal

pub returns-clause-step : goal.returns-clause-step
returns-clause-step c =
    sure_step (outside_meaning c.args.self.now.inner) (outside_meaning c.read.new.self) _
    (read_passes c.read.result c.read.new.buf (λ h. none_listed _ _ c.args.self.now.reads_pass (c.read.ensures.memory.fails.0 h))) c.read.ensures.step
