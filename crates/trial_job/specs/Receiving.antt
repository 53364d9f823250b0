-- What is counted of a stream that is thinned and received.
use Rattle.std.specs.Prelude.{◌≡◌, ◌-◌, ◌^◌, ℕ, List, min, length}
use Rattle.std.specs.List.{AllByRecursion}
use Rattle.wire_model.specs.Bytes.{IsBytes}
use Rattle.stream_model.specs.Decoder.{Release}
use Rattle.stream_model.specs.Receiver as rules
use Rattle.stream_model.specs.Receiver.{received, flushed}
use Rattle.stream_model.specs.ReceiverJoins.{having_given}
use Rattle.trial_model.specs.TrialLaws.{trial_pick}
use Rattle.stream_receiver.specs.States.{counted}
use Rattle.receiving_job.specs.Giving.{IsReady}
use Rattle.trial_job.specs.declared.receiving.Link.{Link}
use Rattle.trial_job.specs.declared.receiving.Received.{Received}

-- A link of a trial has given these frames to its receiver, which has released these packets so
-- far, and all of them were counted.
pub record HasReleased (frames : List (List ℕ)) (link : Link) (packets : List Release) : Type 0 where
  pub are_bytes : AllByRecursion IsBytes frames
  pub count : length frames ≡ counted link.receiver.rules
  pub is : received link.receiver.pick frames ≡ having_given packets link.receiver.rules
  pub released : link.counter.released ≡ min (length packets) (2 ^ 64 - 1)

-- A link with this window has given these frames to its receiver, and is ready for another.
pub record HasTaken (window : ℕ) (frames : List (List ℕ)) (link : Link) : Type 0 where
  pub pick : link.receiver.pick ≡ trial_pick window
  pub ready : IsReady link.receiver
  pub packets : List Release
  pub released : HasReleased frames link packets
  pub thinned : link.thinned ≡ length frames

-- The receiver of a trial at its end, after these frames.
abbrev pub end_after : ℕ → List (List ℕ) → rules.Receiver
end_after window frames = flushed (received (trial_pick window) frames)

-- The numbers of a receiver of these frames at its end. The count of packets stays at 2^64 - 1.
pub record HasCounted (window : ℕ) (frames : List (List ℕ)) (r : Received) : Type 0 where
  pub thinned : r.thinned ≡ length frames
  pub kept : r.kept ≡ (end_after window frames).kept
  pub released : r.released ≡ min (length (end_after window frames).releases) (2 ^ 64 - 1)
