use Rattle.std.proofs.Common.{refl}
use Rattle.scl_outside.proofs.WireSteps.{send_step}
use Rattle.scl_outside.proofs.wire_mem.WireMem.send.Goals as goal

pub returns-clause-step : goal.returns-clause-step
returns-clause-step c = send_step c.args.self.now (record c.args.self.now { links = c.send.new.self }) c.args.peer c.args.bytes.now c.send.result
    (record { sends = c.send.ensures; inbox = refl; addresses = refl }) refl
