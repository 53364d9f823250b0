use Rattle.std.proofs.Common.{rules, length}
use Rattle.scl_outside.specs.Meaning.{no_wire}
use Rattle.scl_outside.proofs.MemorySteps.{took, is_call}
use Rattle.scl_outside.proofs.memory.DuctMemDuct.read.Goals as goal

pub returns-clause-step : goal.returns-clause-step
returns-clause-step c =
    let m = c.mark.ensures in
    took c.args.self.now c.mark.new.self c.take-out.new.self no_wire c.take-out.result c.take-out.new.buf m.mark
    (is_call c.take-out.result c.take-out.new.buf (length c.args.buf.now) c.take-out.auto.buf c.take-out.ensures.fits c.are_bytes.ensures) (search rules) m.marks m.same c.take-out.ensures.takes
