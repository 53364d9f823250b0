use Rattle.scl_cli.proofs.MachineSteps.{offered, delayed, broken}
use Rattle.scl_cli.proofs.machine.MachineOutside.send.Goals as goal

pub returns-in-Ok : goal.returns-in-Ok
returns-in-Ok g c = record { step = offered _ _ _ _ _ }

pub returns-in-Err : goal.returns-in-Err
returns-in-Err g c = record { step = delayed _ _ _ _ _ }

pub returns-in-Err-2 : goal.returns-in-Err-2
returns-in-Err-2 g c = record { step = broken _ _ _ _ _ _ c.count_fault.ensures.count c.count_fault.ensures.faults }
