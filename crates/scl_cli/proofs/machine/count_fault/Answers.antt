use Rattle.std.proofs.Common.{arith}
use Rattle.scl_cli.proofs.MachineSteps.{one_fault}
use Rattle.scl_cli.proofs.machine.count_fault.Goals as goal

pub returns-clause-faults : goal.returns-clause-faults
returns-clause-faults c = one_fault _ _ c.index.result.now _ c.requires c.index.ensures (omega arith) c.saturating_add.ensures
