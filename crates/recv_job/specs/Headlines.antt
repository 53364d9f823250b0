-- What `recv` writes of a stream.
use Rattle.std.specs.Prelude.{◌≡◌, ◌++◌, ℕ, List}
use Rattle.relay_model.specs.Lines.{came}
use Rattle.stream_model.specs.Arrivals.{picked, Arrive}
use Rattle.stream_model.specs.Stream.{Sent, Carry}
use Rattle.stream_model.specs.ReportLaws.{due_lines, end_lines}
use Rattle.delivery_model.specs.Receiving.{recv_line}
use Rattle.scl_outside.specs.Effects.{Effects, receptions}
use Rattle.scl_run.specs.declared.ending.Ending.{Ending}
use Rattle.scl_run.specs.Endings.{status_of}
use Rattle.scl_run.specs.Performing.{IsSoFar, EndsAs}
use Rattle.recv_job.specs.Settings.{Settings, AreSettings}
use Rattle.recv_job.specs.Job.{recv_job}

-- For accepted codestreams and a stream of datagrams that carries them, whatever datagrams are lost,
-- thinned away, repeated or reordered and whatever other datagrams are among them: of the datagrams
-- that came, the lines of what is due were written.
abbrev pub WritesDue : Settings → Effects → Type 0
WritesDue s f =
    (sent : List Sent) (codestreams datagrams : List (List ℕ)) (events : List ℕ) → Carry sent codestreams datagrams
    → Arrive datagrams (picked s.pick.kind s.pick.source (came (receptions f.wire))) events
    → f.written ≡ due_lines sent events s.pick.window

-- The lines of what is due at the end were written, the END line, and the line of `recv`.
abbrev pub WritesAllDue : Settings → Effects → Type 0
WritesAllDue s f =
    (sent : List Sent) (codestreams datagrams : List (List ℕ)) (events : List ℕ) → Carry sent codestreams datagrams
    → Arrive datagrams (picked s.pick.kind s.pick.source (came (receptions f.wire))) events
    → f.written
    ≡ end_lines sent (came (receptions f.wire)) events s.pick.window ++ recv_line s.max (receptions f.wire)

-- So it is before each call for a datagram.
abbrev pub DueSoFar : Type 0
DueSoFar = (s : Settings) (f : Effects) → AreSettings s → IsSoFar (recv_job s) f → WritesDue s f

-- What was written by the end with this status: with 0 all that is due, with 5 what was due by then.
pub record EndsWithDue (s : Settings) (status : ℕ) (f : Effects) : Type 0 where
  pub finished : status ≡ 0 → WritesAllDue s f
  pub at_fault : status ≡ 5 → WritesDue s f

-- So it is at the end.
abbrev pub DueAtEnd : Type 0
DueAtEnd =
    (s : Settings) (ending : Ending) (f : Effects) → AreSettings s → EndsAs (recv_job s) ending f
    → EndsWithDue s (status_of ending) f
