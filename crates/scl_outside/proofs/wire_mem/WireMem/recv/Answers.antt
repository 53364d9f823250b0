use Rattle.std.proofs.Common.{rules}
use Rattle.scl_outside.proofs.WireSteps.{recv_step}
use Rattle.scl_outside.proofs.wire_mem.WireMem.recv.Goals as goal

pub returns-clause-step : goal.returns-clause-step
returns-clause-step c = recv_step c.args.self.now c.count.new.self c.recv-out.result c.recv-out.new.buf (search rules) (rw c.recv_fails.ensures at c.count.ensures.counts)
