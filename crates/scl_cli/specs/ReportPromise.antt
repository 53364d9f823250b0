-- What a run of `report` promises of a stream.
use Rattle.std.specs.Prelude.{◌≡◌, ◌⊎◌, ℕ, List, [], Some, length}
use Rattle.std.specs.List.{range_with_len}
use Rattle.wire_model.specs.Causes.{Grew}
use Rattle.wire_model.specs.Framing.{Splits}
use Rattle.stream_model.specs.Stream.{Sent, Carry}
use Rattle.stream_model.specs.Arrivals.{picked, Arrive}
use Rattle.stream_model.specs.Receiver.{Pick}
use Rattle.scl_outside.specs.Meaning.{Meaning}
use Rattle.scl_outside.specs.Effects.{Effects}
use Rattle.scl_outside.specs.Traces.{Affects}
use Rattle.scl_outside.specs.Prompt.{Prompt}
use Rattle.stream_receiver.specs.declared.pick.Pick.{Pick as Picked}
use Rattle.stream_receiver.specs.States.{pick_of}
use Rattle.report_job.specs.Headlines.{Headline, IsDueSoFar, all_lines, ThinnedStream}
use Rattle.report_job.specs.Readings.{WritesReadings, EndsWithReadings}
use Rattle.scl_cli.specs.declared.command.Command.TheVariants.{Report}
use Rattle.scl_cli.specs.Commands.{Spells}

-- Where a whole stream arrived in order, every precinct of it was written, whatever the window.
abbrev pub WholeStream : Pick → Meaning → Meaning → Type 0
WholeStream pick s t =
    (sent : List Sent) (codestreams datagrams frames : List (List ℕ)) (input rest : List ℕ)
    → Carry sent codestreams datagrams
    → Arrive datagrams (picked pick.kind pick.source frames) (range_with_len 0 (length datagrams))
    → Splits input frames [] → s.left ≡ Some input → t.left ≡ Some rest
    → Grew s.written t.written (all_lines sent frames (range_with_len 0 (length datagrams)) pick.window)

-- What was written before a read that failed, or before the input was refused, is what was due by then.
abbrev pub DueAtFault : Pick → Meaning → Meaning → Type 0
DueAtFault pick s t = (f : Effects) × Affects s f t × IsDueSoFar pick f

-- Whatever was read and whatever the status, what was written by each mark and by the end are lines of readings of what was read by
-- then.
abbrev pub WritesReadingsAlone : Pick → Meaning → Meaning → ℕ → Type 0
WritesReadingsAlone pick s t status =
    Prompt (WritesReadings pick) s t × ((f : Effects) × Affects s f t × EndsWithReadings pick status f)

-- A run of `report` with this status: with 0 the headline holds, and so does the law of thinned streams; at each mark what was written by then is what was due by then, and
-- so with 3 and 6; and of any input whatsoever only readings are written.
pub record Reports (pick : Pick) (s t : Meaning) (status : ℕ) : Type 0 where
  pub headline : status ≡ 0 → Headline pick s t
  pub whole : status ≡ 0 → WholeStream pick s t
  pub thinned : status ≡ 0 → ThinnedStream pick s t
  pub prompt : Prompt (IsDueSoFar pick) s t
  pub at_fault : (status ≡ 3) ⊎ (status ≡ 6) → DueAtFault pick s t
  pub readings : WritesReadingsAlone pick s t status

-- Where the words spell `report`, the run keeps the promise of the stream that they pick.
abbrev pub ReportsStreams : List (List ℕ) → Meaning → Meaning → ℕ → Type 0
ReportsStreams words s t status = (pick : Picked) → Spells (Report pick) words → Reports (pick_of pick) s t status
