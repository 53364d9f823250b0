use Rattle.std.proofs.Common.{◌+◌, ◌∙◌, ap, min, take, arith}
use Rattle.wire_model.specs.Receptions.{Arrived, NotReady, Failed}
use Rattle.scl_cli.proofs.MachineSteps.{received, at_front, risen}
use Rattle.scl_cli.proofs.machine.MachineOutside.recv.Goals as goal

pub returns-in-Ok-clause-step : goal.returns-in-Ok-clause-step
returns-in-Ok-clause-step g c = let e = c.flush.ensures in (
  take c.in-Ok.count c.receive.new.buf,
  at_front c.in-Ok.count c.receive.new.buf c.in-Ok.ensures,
  received _ _ _ _ _ _ _ _ (Arrived (take c.in-Ok.count c.receive.new.buf)) e.read_faults e.write_faults e.peers (omega (arith, e.wire_faults)),
)

pub returns-in-Err-clause-step : goal.returns-in-Err-clause-step
returns-in-Err-clause-step g c = let e = c.flush.ensures in received _ _ _ _ _ _ _ _ NotReady e.read_faults e.write_faults e.peers (omega (arith, e.wire_faults))

pub returns-in-Err-2-clause-step : goal.returns-in-Err-2-clause-step
returns-in-Err-2-clause-step g c = let e = c.flush.ensures in received _ _ _ _ _ _ _ _ Failed e.read_faults e.write_faults e.peers (risen _ _ (omega (arith, e.wire_faults)) (c.saturating_add-self.ensures ∙ ap (λ n. min (n + 1) 18446744073709551615) e.wire_faults))
