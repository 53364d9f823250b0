use Rattle.std.proofs.Common.{sym, subst, length}
use Rattle.scl_outside.specs.WireMemory.{wire_of}
use Rattle.scl_outside.specs.Answers.{read_event}
use Rattle.scl_outside.specs.Steps.{Step}
use Rattle.scl_outside.specs.Memory.{outside_meaning}
use Rattle.scl_outside.specs.declared.wire_mem.WireMem.{WireMem}
use Rattle.scl_outside.proofs.MemorySteps.{took, is_call}
use Rattle.scl_outside.proofs.outside_mem.OutsideMemDuct.read.Goals as goal

pub returns-clause-step : goal.returns-clause-step
returns-clause-step c =
    let o = c.args.self.now in
    let m = c.mark.ensures in
    let P : WireMem → Type 0 = λ w. Step (outside_meaning o) (read_event c.take-out.result c.take-out.new.buf) (outside_meaning (record { duct = c.take-out.new.self; wire = w })) in
    subst P (sym m.wire) (took o.duct c.mark.new.self.duct c.take-out.new.self (wire_of o.wire) c.take-out.result c.take-out.new.buf m.mark
    (is_call c.take-out.result c.take-out.new.buf (length c.args.buf.now) c.take-out.auto.buf c.take-out.ensures.fits c.are_bytes.ensures) m.is m.marks m.same c.take-out.ensures.takes)
