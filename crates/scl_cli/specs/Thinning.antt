-- What thinning does, frame by frame.
use Rattle.std.specs.Prelude.{◌≡◌, ◌≢◌, ◌≤◌, ◌+◌, ◌++◌, ℕ, true, List, [], ◌∷◌, length, take}
use Rattle.wire_model.specs.Framing.{frame, framing, IsFramed, IsPartial}
use Rattle.wire_model.specs.Thinning.{kept}
use Rattle.scl_outside.specs.Meaning.{Meaning}
use Rattle.scl_outside.specs.Events.{Event}
use Rattle.scl_outside.specs.Effects.{Effects, nothing, only_read, read_to_end, read_until_failed, only_written, written_until_failed, effects}
use Rattle.scl_outside.specs.Traces.{Trace, AtReads}
use Rattle.scl_outside.specs.declared.duct.PutOut.{PutOut}
use Rattle.scl_outside.specs.declared.duct.PutOut.TheVariants.{Done as Put, WriteFault as NotPut}
use Rattle.capture_frames.specs.FramesState.{FramesState}
use Rattle.capture_frames.specs.Reading.{InsideFrame, input_limit, left_at}
use Rattle.scl_outside.specs.Writing.{Never}
use Rattle.scl_run.specs.declared.ending.Reason.{Reason}
use Rattle.scl_run.specs.declared.ending.Reason.TheVariants.{CutFrame, InputTooLong}
use Rattle.scl_run.specs.declared.ending.Ending.TheVariants.{Done, ReadFault, WriteFault, Refused}
use Rattle.scl_cli.specs.declared.thin.Turn.{Turn}
use Rattle.scl_cli.specs.declared.thin.Turn.TheVariants.{Frame, Stop}
use Rattle.scl_run.specs.Performing.{passed}

-- what is written of one frame
abbrev pub passed_of : ℕ → List ℕ → List ℕ
passed_of limit d = framing (kept limit (d ∷ []))

-- what was written of a frame, by the answer
abbrev pub PassGives : ℕ → PutOut → List ℕ → Effects → Type 0
PassGives limit Put d f = f ≡ only_written (passed_of limit d)
PassGives limit NotPut d f = (front : List ℕ) × (rest : List ℕ) × (passed_of limit d ≡ front ++ rest) × (f ≡ written_until_failed front)

-- a frame is written or not: no reads
pub record Passes (limit : ℕ) (s t : Meaning) (result : PutOut) (d : List ℕ) (es : List Event) : Type 0 where
  pub trace : Trace s es t
  pub within : AtReads Never nothing es
  pub gives : PassGives limit result d (effects es)

-- what was read before an input was refused
abbrev pub RefusedGives : Reason → ℕ → ℕ → Effects → Type 0
RefusedGives CutFrame at offset f =
    (bytes : List ℕ) × (at ≡ offset) × (bytes ≢ []) × IsPartial bytes × (length bytes ≤ left_at offset) × (f ≡ read_to_end bytes)
RefusedGives InputTooLong at offset f =
    (bytes : List ℕ) × (at ≡ input_limit) × (length bytes ≡ left_at offset + 1) × IsPartial (take (left_at offset) bytes) × (f ≡ only_read bytes)
RefusedGives reason at offset f = ⊥

-- what was done with one frame, by the answer
abbrev pub TurnGives : ℕ → FramesState → FramesState → Turn → Effects → Type 0
TurnGives limit before after Frame f =
    (d : List ℕ) × IsFramed d × (after.offset ≡ before.offset + length (frame d)) × (after.offset ≤ input_limit) × (after.live ≡ true)
    × (f ≡ passed (frame d) (passed_of limit d))
TurnGives limit before after (Stop Done) f = f ≡ read_to_end []
TurnGives limit before after (Stop ReadFault) f =
    (bytes : List ℕ) × IsPartial bytes × (length bytes ≤ left_at before.offset) × (f ≡ read_until_failed bytes)
TurnGives limit before after (Stop WriteFault) f =
    (d : List ℕ) × (front : List ℕ) × (rest : List ℕ) × IsFramed d × (length (frame d) ≤ left_at before.offset) × (passed_of limit d ≡ front ++ rest)
    × (f ≡ record (passed (frame d) front) { write_failed = true })
TurnGives limit before after (Stop (Refused r)) f = RefusedGives r.reason r.at before.offset f
TurnGives limit before after (Stop ending) f = ⊥

-- one frame, read and passed on
pub record Turns (limit : ℕ) (before after : FramesState) (s t : Meaning) (result : Turn) (es : List Event) : Type 0 where
  pub trace : Trace s es t
  pub within : AtReads (InsideFrame (left_at before.offset)) nothing es
  pub gives : TurnGives limit before after result (effects es)
