use Rattle.std.proofs.Common.{rules}
use Rattle.scl_outside.proofs.WireSteps.{bind_step}
use Rattle.scl_outside.proofs.wire_mem.WireMem.bind.Goals as goal

pub returns-clause-step : goal.returns-clause-step
returns-clause-step c = bind_step c.args.self.now c.count.new.self c.args.local.now c.bind-out.result (search rules) (rw c.is_bound.ensures at c.count.ensures.counts)
