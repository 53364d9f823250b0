use Rattle.std.proofs.Common.{rules}
use Rattle.scl_outside.proofs.WireSteps.{join_step}
use Rattle.scl_outside.proofs.wire_mem.WireMem.join.Goals as goal

pub returns-clause-step : goal.returns-clause-step
returns-clause-step c = join_step c.args.self.now c.count.new.self c.args.peer.now c.join-out.result (search rules) (rw c.is_bound.ensures at c.count.ensures.counts)
