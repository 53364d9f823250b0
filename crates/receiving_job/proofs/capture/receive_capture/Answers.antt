use Rattle.std.proofs.Common.{◌++◌}
use Rattle.stream_receiver.specs.States.{pick_of}
use Rattle.receiving_job.proofs.SoFar.{begun, counts_few, one_more, moved, released_of, ended}
use Rattle.receiving_job.proofs.capture.receive_capture.Goals as goal

pub loop-ending-init : goal.loop-ending-init
loop-ending-init g c =
    let start = begun g.S.Sink.so_far g.S.Sink.made (g.S.Sink.HasPut c.args.sink.now) (pick_of c.args.pick) c.in-Ok.receiver c.new-frames.result _ g.met.S.Sink.starts c.requires.none c.in-Ok.ensures c.new-frames.ensures in
    record { live = start.0; so_far = start.1 }

pub take_turn-requires-clause-few : goal.take_turn-requires-clause-few
take_turn-requires-clause-few g c = counts_few _ _ _ _ _ _ _ _ _ c.loop-ending.invariant.so_far.1

pub take_turn-requires-clause-ready : goal.take_turn-requires-clause-ready
take_turn-requires-clause-ready g c = c.loop-ending.invariant.so_far.1.ready

pub take_turn-requires-clause-stands : goal.take_turn-requires-clause-stands
take_turn-requires-clause-stands g c = let so = c.loop-ending.invariant.so_far.1 in (released_of (pick_of c.args.pick) so.frames, so.stands)

pub loop-ending-preserved : goal.loop-ending-preserved
loop-ending-preserved g c =
    let now = c.loop-ending.invariant.so_far in
    let more = c.in-Frame.ensures.turns (released_of (pick_of c.args.pick) now.1.frames) now.1.stands in
    record {
      live = (moved _ _ _ _ _ _ _ _ _ _ _ more.1).1;
      so_far = (now.0 ++ more.0, one_more _ _ _ _ _ _ _ _ _ _ _ _ now.0 more.0 g.met.S.Sink.before_end now.1 c.take_turn.ensures.pick more.1);
    }

pub loop-ending-smaller : goal.loop-ending-smaller
loop-ending-smaller g c =
    let now = c.loop-ending.invariant.so_far in
    (moved _ _ _ _ _ _ _ _ _ _ _ (c.in-Frame.ensures.turns (released_of (pick_of c.args.pick) now.1.frames) now.1.stands).1).0

pub returns-in-Stop : goal.returns-in-Stop
returns-in-Stop g c =
    let now = c.loop-ending.invariant.so_far in
    let more = c.in-Stop.ensures.turns (released_of (pick_of c.args.pick) now.1.frames) now.1.stands in
    (now.0 ++ more.0, ended _ _ _ _ _ _ _ _ _ _ _ _ _ now.0 more.0 g.met.S.Sink.before_end now.1 more.1)
