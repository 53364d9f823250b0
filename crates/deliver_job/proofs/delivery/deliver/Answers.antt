use Rattle.std.proofs.Common.{◌++◌, length, ap, arith}
use Rattle.deliver_job.specs.Items.{ranges_of}
use Rattle.deliver_job.proofs.Delivered.{answered, stopped}
use Rattle.deliver_job.proofs.delivery.deliver.Goals as goal

pub deliver_frames-requires : goal.deliver_frames-requires
deliver_frames-requires g c = omega (arith, c.in-Ok.ensures.2.0, ap length c.deref.ensures.value)

pub returns-in-Ok : goal.returns-in-Ok
returns-in-Ok g c =
    let read = c.in-Ok.ensures in
    let answer = c.deliver_frames.ensures in
    (read.0 ++ answer.0, answered (ranges_of c.args.list.now) _ _ _ _ _ _ read.0 answer.0 read.1 read.2 c.deref.ensures.value answer.1)

pub returns-in-Err : goal.returns-in-Err
returns-in-Err g c = let read = c.in-Err.ensures in (read.0, stopped (ranges_of c.args.list.now) _ _ _ read.0 read.1 read.2)
