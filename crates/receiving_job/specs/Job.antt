-- The job of a receiver of captures.
use Rattle.std.specs.Prelude.{ℕ, Bool, List}
use Rattle.wire_model.specs.Framing.{whole_frames}
use Rattle.stream_model.specs.Commands.{counted}
use Rattle.stream_model.specs.Receiver.{Pick, Receiver, received}
use Rattle.scl_run.specs.CaptureInput.{capture_input}
use Rattle.scl_run.specs.Job.{Job, plain, BeforeInput}

-- A capture is read, and what is made of the packets that a receiver of its frames releases is
-- written; it may find no memory before it asks for input.
abbrev pub receiving_job : (Receiver → Bool → List ℕ) → Pick → Job
receiving_job made pick =
    plain capture_input (λ read ended. made (received pick (whole_frames (counted read))) ended) BeforeInput
