use Rattle.std.proofs.Common.{subst}
use Rattle.scl_outside.specs.Events.{Received}
use Rattle.scl_outside.specs.Inbox.{IsReception, next_reception}
use Rattle.scl_outside.specs.Steps.{WireStep}
use Rattle.scl_outside.specs.WireMemory.{wire_of}
use Rattle.scl_outside.specs.declared.wire_mem.WireMem.{WireMem}
use Rattle.scl_outside.proofs.MemorySteps.{receives}
use Rattle.scl_outside.proofs.outside_mem.OutsideMemOutside.recv.Goals as goal

pub returns-clause-step : goal.returns-clause-step
returns-clause-step c =
    let m = c.mark.ensures in
    let P : WireMem → Type 0 = λ w. WireStep (wire_of w) (Received (next_reception w.inbox)) (wire_of c.recv.new.self) in
    let Q : WireMem → Type 0 = λ w. IsReception c.recv.result c.recv.new.buf (next_reception w.inbox) in
    receives c.args.self.now c.mark.new.self c.recv.new.self c.recv.result c.recv.new.buf (next_reception c.args.self.now.wire.inbox) m
    (subst Q m.wire c.recv.ensures.memory.takes.gives) (subst P m.wire c.recv.ensures.step)
