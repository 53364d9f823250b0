use Rattle.std.proofs.Common.{◌≡◌, ◌-◌, true, List}
use Rattle.scl_outside.specs.Events.{Event}
use Rattle.capture_frames.specs.Reading.{input_limit}
use Rattle.stream_receiver.specs.States.{pick_of}
use Rattle.receiving_job.proofs.SoFar.{SoFar}
use Rattle.receiving_job.proofs.capture.receive_capture.Given as goal

-- whole frames were read, and what was due was put out
abbrev pub invariant-loop-ending : goal.invariant-loop-ending
invariant-loop-ending g l = record {
  live : l.capture.frames.live ≡ true;
  so_far : (es : List Event)
      × SoFar g.S.Sink.so_far g.S.Sink.made (g.S.Sink.HasPut l.sink) (pick_of l.fn.pick) l.capture.receiver (g.D.Duct.meaning l.fn.out) (g.D.Duct.meaning l.out) l.capture.frames.offset es;
}

abbrev pub decreases-loop-ending : goal.decreases-loop-ending
decreases-loop-ending g l = input_limit - l.capture.frames.offset
