-- What `report` writes of any capture, be its datagrams forged or not.
use Rattle.std.specs.Prelude.{◌≡◌, ◌≢◌, ◌++◌, ℕ, List}
use Rattle.std.specs.List.{AllByRecursion}
use Rattle.wire_model.specs.Bytes.{IsBytes}
use Rattle.wire_model.specs.Framing.{whole_frames}
use Rattle.stream_model.specs.Report.{Precinct, lines, end_line}
use Rattle.stream_model.specs.ReadingLaws.{IsRead, kept_of}
use Rattle.stream_model.specs.Receiver.{Pick, new_receiver, received, flushed, counts_of}
use Rattle.stream_model.specs.Commands.{counted}
use Rattle.scl_outside.specs.Effects.{Effects}
use Rattle.scl_run.specs.declared.ending.Ending.{Ending}
use Rattle.scl_run.specs.Endings.{status_of}
use Rattle.scl_run.specs.Performing.{HasPrefix, IsSoFar, EndsAs}
use Rattle.report_job.specs.Job.{report_job}

-- The whole frames of what was read that the receiver keeps.
abbrev pub kept_frames : Pick → List ℕ → List (List ℕ)
kept_frames pick read = kept_of pick (new_receiver pick) (whole_frames (counted read))

-- Each precinct is a reading of the frames that are kept of what was read, and has the PID of that
-- reading.
abbrev pub AreReadings : Pick → List ℕ → List Precinct → Type 0
AreReadings pick read precincts = AllByRecursion (IsRead (kept_frames pick read)) precincts

-- The END line with the counts of what was read.
abbrev pub counts_line : Pick → List ℕ → List ℕ
counts_line pick read = end_line (counts_of (flushed (received pick (whole_frames (counted read)))))

-- What was written are the lines of readings of what was read.
abbrev pub WritesReadings : Pick → Effects → Type 0
WritesReadings pick f =
    (precincts : List Precinct) × AreReadings pick f.read precincts × (f.written ≡ lines precincts)

-- What was written by the end, with this status, are the lines of readings of what was read: with 0
-- the END line after them, with 4 a prefix of that.
pub record EndsWithReadings (pick : Pick) (status : ℕ) (f : Effects) : Type 0 where
  pub precincts : List Precinct
  pub are_readings : AreReadings pick f.read precincts
  pub finished : status ≡ 0 → f.written ≡ lines precincts ++ counts_line pick f.read
  pub broken_off : status ≡ 4 → HasPrefix (lines precincts ++ counts_line pick f.read) f.written
  pub stopped : status ≢ 0 → status ≢ 4 → f.written ≡ lines precincts

-- So it is before each call that asks for input, whatever bytes were read.
abbrev pub ReadingsSoFar : Type 0
ReadingsSoFar =
    (pick : Pick) (f : Effects) → IsBytes f.read → IsSoFar (report_job pick) f → WritesReadings pick f

-- So it is at the end, whatever bytes were read and however the run ended.
abbrev pub ReadingsAtEnd : Type 0
ReadingsAtEnd =
    (pick : Pick) (ending : Ending) (f : Effects) → IsBytes f.read → EndsAs (report_job pick) ending f
    → EndsWithReadings pick (status_of ending) f
