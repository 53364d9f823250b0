use Rattle.std.proofs.Common.{[], ◌++◌, arith}
use Rattle.deliver_job.specs.Items.{range_of}
use Rattle.deliver_job.proofs.BoundsLaws.{count_bounds}
use Rattle.deliver_job.proofs.Missing.{last_is_there}
use Rattle.deliver_job.proofs.Listed.{item_left, one_position, no_position}
use Rattle.deliver_job.proofs.Putting.{put_more, put_broken, put_all}
use Rattle.deliver_job.proofs.writing.write_item.Goals as goal

pub loop-position-init : goal.loop-position-init
loop-position-init g c = record { low = omega arith; put = ([], item_left (range_of c.args.item) _ _ _ _ c.first_of-position.ensures c.last_of-last.ensures) }

pub write_frame-requires-clause-there : goal.write_frame-requires-clause-there
write_frame-requires-clause-there g c = omega (arith, last_is_there (range_of c.args.item) _ c.requires.there (omega arith), count_bounds c.args.capture.now c.args.bounds.now c.requires.bounds)

pub loop-position-preserved : goal.loop-position-preserved
loop-position-preserved g c =
    let now = c.loop-position.invariant in
    let more = c.in-Done.ensures in
    record {
      low = omega arith;
      put = (now.put.0 ++ more.0, put_more _ _ _ _ _ _ _ now.put.0 more.0 now.put.1 (one_position c.loop-position.position _ _ c.loop-position-test.true) more.1);
    }

pub returns-in-WriteFault : goal.returns-in-WriteFault
returns-in-WriteFault g c =
    let now = c.loop-position.invariant in
    let more = c.in-WriteFault.ensures in
    (now.put.0 ++ more.0, put_broken _ _ _ _ _ _ _ now.put.0 more.0 now.put.1 (one_position c.loop-position.position _ _ c.loop-position-test.true) more.1)

pub returns : goal.returns
returns g c =
    let now = c.loop-position.invariant in
    (now.put.0, put_all _ _ _ _ now.put.0 now.put.1 (no_position _ _ _ c.loop-position-test.false))
