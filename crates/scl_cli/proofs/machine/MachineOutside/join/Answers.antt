use Rattle.std.proofs.Common.{refl, ◌∙◌}
use Rattle.scl_cli.proofs.MachineSteps.{joined, not_joined}
use Rattle.scl_cli.proofs.machine.MachineOutside.join.Goals as goal

pub returns-in_default : goal.returns-in_default
returns-in_default g c = let e = c.fail_bind.ensures in record { step = rw e.failed (not_joined _ _ _ _ _ _ _ _ c.args.peer.now _ refl e.read_faults e.write_faults e.peers e.wire_faults) }

pub returns-in-Ok : goal.returns-in-Ok
returns-in-Ok g c = record { step = joined _ _ _ _ _ _ c.args.peer.now c.in-Ok.ensures.items }

pub returns-in-Err : goal.returns-in-Err
returns-in-Err g c = let e = c.fail_bind-in-Err.ensures in record { step = rw e.failed (not_joined _ _ _ _ _ _ _ _ c.args.peer.now _ refl e.read_faults e.write_faults (e.peers ∙ c.in-Err.ensures.items) e.wire_faults) }
