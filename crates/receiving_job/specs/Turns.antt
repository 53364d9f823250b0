-- What taking one frame of a capture does.
use Rattle.std.specs.Prelude.{◌≡◌, ◌≢◌, ◌≤◌, ◌+◌, ◌++◌, ◌⊎◌, ℕ, Bool, true, List, [], length, take}
use Rattle.wire_model.specs.Bytes.{IsBytes}
use Rattle.wire_model.specs.Framing.{frame, IsFramed, IsPartial}
use Rattle.stream_model.specs.Decoder.{Release}
use Rattle.stream_model.specs.Receiver as rules
use Rattle.stream_model.specs.Receiver.{take_frame}
use Rattle.stream_model.specs.ReceiverJoins.{forgetful, having_given}
use Rattle.scl_outside.specs.Meaning.{Meaning}
use Rattle.scl_outside.specs.Events.{Event}
use Rattle.scl_outside.specs.Effects.{Effects, nothing, only_read, read_to_end, read_until_failed, effects}
use Rattle.scl_outside.specs.Traces.{Trace, AtReads}
use Rattle.capture_frames.specs.FramesState.{FramesState}
use Rattle.capture_frames.specs.Reading.{InsideFrame, input_limit, left_at}
use Rattle.scl_run.specs.Performing.{passed}
use Rattle.scl_run.specs.declared.ending.Reason.{Reason}
use Rattle.scl_run.specs.declared.ending.Reason.TheVariants.{CutFrame, InputTooLong}
use Rattle.scl_run.specs.declared.ending.Ending.TheVariants.{Done, ReadFault, WriteFault, Refused}
use Rattle.stream_receiver.specs.States.{ReceiverState}
use Rattle.receiving_job.specs.declared.capture.Turn.{Turn}
use Rattle.receiving_job.specs.declared.capture.Turn.TheVariants.{Frame, Stop}
use Rattle.receiving_job.specs.Giving.{IsReady}

-- The packets that a frame makes due.
abbrev pub due_by : ReceiverState → List ℕ → List Release
due_by s d = (take_frame s.pick s.rules d).releases

-- Bytes make of a receiver what a frame makes of it.
pub record IsLike (s : ReceiverState) (d bytes : List ℕ) : Type 0 where
  pub are_bytes : IsBytes bytes
  pub same : take_frame s.pick s.rules bytes ≡ take_frame s.pick s.rules d

-- What was read before the input was refused: part of a frame up to the input's end, or one byte
-- past the limit.
abbrev pub RefusedGives : Reason → ℕ → ℕ → Effects → Type 0
RefusedGives CutFrame at offset f =
    (bytes : List ℕ) × (at ≡ offset) × (bytes ≢ []) × IsPartial bytes × (length bytes ≤ left_at offset) × (f ≡ read_to_end bytes)
RefusedGives InputTooLong at offset f =
    (bytes : List ℕ) × (at ≡ input_limit) × (length bytes ≡ left_at offset + 1) × IsPartial (take (left_at offset) bytes) × (f ≡ only_read bytes)
RefusedGives reason at offset f = ⊥

-- A frame was taken, and what was due was put out.
pub record TakesFrame
    (so_far : List Release → List ℕ) (HasPut : List Release → Type 0) (xs : List Release)
    (r s : ReceiverState) (before after : FramesState) (f : Effects)
    : Type 0 where
  pub d : List ℕ
  pub framed : IsFramed d
  pub like : List ℕ
  pub is_like : IsLike r d like
  pub far : after.offset ≡ before.offset + length (frame d)
  pub within : after.offset ≤ input_limit
  pub live : after.live ≡ true
  pub left : s.rules ≡ forgetful (take_frame r.pick r.rules d)
  pub ready : IsReady s
  pub put : HasPut (xs ++ due_by r d)
  pub text : List ℕ
  pub adds : so_far (xs ++ due_by r d) ≡ so_far xs ++ text
  pub is : f ≡ passed (frame d) text

-- A write failed after what was due of a frame was put out in part.
pub record BreaksAtFrame (so_far : List Release → List ℕ) (xs : List Release) (r : ReceiverState) (offset : ℕ) (f : Effects) : Type 0 where
  pub d : List ℕ
  pub framed : IsFramed d
  pub room : length (frame d) ≤ left_at offset
  pub front : List ℕ
  pub rest : List ℕ
  pub adds : so_far (xs ++ due_by r d) ≡ so_far xs ++ (front ++ rest)
  pub is : f ≡ record (passed (frame d) front) { write_failed = true }

-- A write failed after what was put out at the end was written in part.
pub record BreaksAtEnd
    (so_far : List Release → List ℕ) (made : rules.Receiver → Bool → List ℕ) (xs : List Release) (r : ReceiverState) (f : Effects)
    : Type 0 where
  pub front : List ℕ
  pub rest : List ℕ
  pub adds : made (having_given xs r.rules) true ≡ so_far xs ++ (front ++ rest)
  pub is : f ≡ record (read_to_end []) { written = front; write_failed = true }

-- All was put out at the end.
pub record Finishes
    (so_far : List Release → List ℕ) (made : rules.Receiver → Bool → List ℕ) (xs : List Release) (r : ReceiverState) (f : Effects)
    : Type 0 where
  pub text : List ℕ
  pub adds : made (having_given xs r.rules) true ≡ so_far xs ++ text
  pub is : f ≡ record (read_to_end []) { written = text }

-- What one frame came to: it was taken, and what was due was put out; or it ended the run so.
abbrev pub TurnGives :
    (so_far : List Release → List ℕ) (made : rules.Receiver → Bool → List ℕ) (HasPut : List Release → Type 0)
    → List Release → ReceiverState → ReceiverState → FramesState → FramesState → Turn → Effects → Type 0
TurnGives so_far made HasPut xs r s before after Frame f = TakesFrame so_far HasPut xs r s before after f
TurnGives so_far made HasPut xs r s before after (Stop Done) f = Finishes so_far made xs r f
TurnGives so_far made HasPut xs r s before after (Stop ReadFault) f =
    (bytes : List ℕ) × IsPartial bytes × (length bytes ≤ left_at before.offset) × (f ≡ read_until_failed bytes)
TurnGives so_far made HasPut xs r s before after (Stop WriteFault) f =
    BreaksAtFrame so_far xs r before.offset f ⊎ BreaksAtEnd so_far made xs r f
TurnGives so_far made HasPut xs r s before after (Stop (Refused x)) f = RefusedGives x.reason x.at before.offset f
TurnGives so_far made HasPut xs r s before after (Stop ending) f = ⊥

-- One frame was read and taken, by these calls.
pub record Turns
    (so_far : List Release → List ℕ) (made : rules.Receiver → Bool → List ℕ) (HasPut : List Release → Type 0)
    (xs : List Release) (r s : ReceiverState) (before after : FramesState) (m n : Meaning) (result : Turn) (es : List Event)
    : Type 0 where
  pub trace : Trace m es n
  pub within : AtReads (InsideFrame (left_at before.offset)) nothing es
  pub gives : TurnGives so_far made HasPut xs r s before after result (effects es)
