use Rattle.std.proofs.Common.{refl, arith}
use Rattle.scl_cli.proofs.MachineSteps.{bound, refused}
use Rattle.scl_cli.proofs.machine.MachineOutside.bind.Goals as goal

pub returns-in-Ok : goal.returns-in-Ok
returns-in-Ok g c = record { step = bound _ _ _ _ _ c.args.local.now _ (omega arith) }

pub returns-in-Err : goal.returns-in-Err
returns-in-Err g c = let e = c.fail_bind.ensures in record { step = rw e.failed (refused _ _ _ _ _ _ _ _ c.args.local.now _ refl e.read_faults e.write_faults e.peers e.wire_faults) }
