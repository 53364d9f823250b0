use Rattle.std.proofs.Common.{◌<◌, ◌+◌, ◌^◌, ◌%◌, [], ◌++◌, ap, arith}
use Rattle.codestream_walk.specs.Walking.{Walking, is_live}
use Rattle.parse_job.proofs.Turns.{none_yet, packet_read, packet_written, packet_broken, packet_further, eoc_read, end_met, read_failed, refused_met}
use Rattle.parse_job.proofs.packets.write_packets.Goals as goal

pub loop-walk-init : goal.loop-walk-init
loop-walk-init g c = record {
  live = ap (λ (w : Walking). is_live w.stage) c.requires;
  so_far = ([], none_yet _ _ _ _ (omega (arith, c.ranges.stamp.fits)) c.requires);
}

pub loop-walk-smaller-in-Done : goal.loop-walk-smaller-in-Done
loop-walk-smaller-in-Done g c =
    let now = c.loop-walk.invariant.so_far in
    let k = c.in-Packet.ensures.walks in
    let r = packet_read _ _ _ _ _ _ _ c.step.new.self _ _ (omega (arith, c.ranges.stamp.fits)) now.1 k.1 in
    packet_further _ _ _ c.step.new.self _ r.within k.1

pub loop-walk-preserved-in-Done : goal.loop-walk-preserved-in-Done
loop-walk-preserved-in-Done g c =
    let now = c.loop-walk.invariant.so_far in
    let k = c.in-Packet.ensures.walks in
    let p = c.in-Done.ensures in
    let r = packet_read _ _ _ _ _ _ _ c.step.new.self _ _ (omega (arith, c.ranges.stamp.fits)) now.1 k.1 in
    record { live = r.live; so_far = ((now.0 ++ k.0) ++ p.0, packet_written _ _ _ _ _ _ _ _ _ r p.1) }

pub returns-in-WriteFault : goal.returns-in-WriteFault
returns-in-WriteFault g c =
    let now = c.loop-walk.invariant.so_far in
    let k = c.in-Packet.ensures.walks in
    let p = c.in-WriteFault.ensures in
    let low : c.args.stamp < 2 ^ 32 = omega (arith, c.ranges.stamp.fits) in
    let r = packet_read _ _ _ _ _ _ _ c.step.new.self _ _ low now.1 k.1 in
    ((now.0 ++ k.0) ++ p.0, packet_broken _ _ _ _ _ _ _ _ _ low r p.1)

pub loop-walk-preserved : goal.loop-walk-preserved
loop-walk-preserved g c =
    let now = c.loop-walk.invariant.so_far in
    let k = c.in-FrameEnd.ensures.walks in
    let e = eoc_read _ _ _ _ _ _ _ _ c.step.new.self _ _ (omega (arith, c.ranges.stamp.fits)) now.1 k.1 (ap (λ n. (c.loop-walk.stamp_now + n) % 2 ^ 32) c.from-stamp_now.ensures) in
    record { live = e.1; so_far = (now.0 ++ k.0, e.0) }

pub returns-in-End : goal.returns-in-End
returns-in-End g c =
    let now = c.loop-walk.invariant.so_far in
    let k = c.in-End.ensures.walks in
    (now.0 ++ k.0, end_met _ _ _ _ _ _ _ c.step.new.self _ _ (omega (arith, c.ranges.stamp.fits)) now.1 k.1)

pub returns-in-Refused : goal.returns-in-Refused
returns-in-Refused g c =
    let now = c.loop-walk.invariant.so_far in
    let k = c.in-Refused.ensures.walks in
    (now.0 ++ k.0, refused_met _ _ _ _ _ _ _ c.step.new.self _ _ c.in-Refused.fault c.refusal_of.result (omega (arith, c.ranges.stamp.fits)) now.1 k.1 c.refusal_of.ensures.at c.refusal_of.ensures.reason)

pub returns-in-ReadFault : goal.returns-in-ReadFault
returns-in-ReadFault g c =
    let now = c.loop-walk.invariant.so_far in
    let k = c.in-ReadFault.ensures.walks in
    (now.0 ++ k.0, read_failed _ _ _ _ _ _ _ c.step.new.self _ _ (omega (arith, c.ranges.stamp.fits)) now.1 k.1)
