use Rattle.scl_outside.specs.Memory.{outside_meaning}
use Rattle.scl_outside.specs.Inbox.{entries_left}
use Rattle.scl_outside.proofs.SureSteps.{sure_recv}
use Rattle.scl_outside.proofs.never_fails.NeverFailsOutside.recv.Goals as goal

pub returns-clause-step : goal.returns-clause-step
returns-clause-step c =
    let i = c.args.self.now.inner.wire.inbox in
    sure_recv (outside_meaning c.args.self.now.inner) (outside_meaning c.recv.new.self) c.recv.result c.recv.new.buf i.never_fails (entries_left i)
    c.args.self.now.inbox_passes c.recv.ensures.memory.takes.gives c.recv.ensures.step
