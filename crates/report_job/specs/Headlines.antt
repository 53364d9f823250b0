-- The headline: what `report` writes of a stream.
use Rattle.std.specs.Prelude.{◌≡◌, ◌≤◌, ◌+◌, ◌++◌, ℕ, List, [], length, slice_get, Some}
use Rattle.std.specs.List.{Contains, flat_map, range_with_len}
use Rattle.wire_model.specs.Causes.{Grew}
use Rattle.wire_model.specs.Framing.{Splits, framing}
use Rattle.wire_model.specs.Thinning.{kept}
use Rattle.stream_model.specs.Stream.{Parts, Sent, Carry, carried}
use Rattle.stream_model.specs.Cut.{Plan, sent_by}
use Rattle.stream_model.specs.ThinnedLaws.{CanBeSent, Picks, cut_of, reached_through, all_kept}
use Rattle.stream_model.specs.RunLaws.{precincts_in}
use Rattle.stream_model.specs.Arrivals.{picked, Arrive}
use Rattle.stream_model.specs.EndCounts.{end_counts}
use Rattle.stream_model.specs.Laws.{all_precincts}
use Rattle.stream_model.specs.StreamLaws.{said_by}
use Rattle.stream_model.specs.Report.{Precinct, lines, end_line}
use Rattle.stream_model.specs.Receiver.{Pick}
use Rattle.stream_model.specs.Commands.{counted}
use Rattle.stream_model.specs.ReportLaws.{due_lines, end_lines}
use Rattle.scl_outside.specs.Meaning.{Meaning}
use Rattle.scl_outside.specs.Effects.{Effects}
use Rattle.scl_run.specs.declared.ending.Ending.{Ending}
use Rattle.scl_run.specs.declared.ending.Ending.TheVariants.{Done, ReadFault, Refused}
use Rattle.scl_run.specs.Performing.{IsSoFar, EndsAs}
use Rattle.scl_run.specs.Runs.{RunsAs}
use Rattle.report_job.specs.Job.{report_job}

-- For accepted codestreams and a stream of datagrams that carries them, whatever datagrams are
-- lost, thinned away, repeated or reordered and whatever other frames are among them: of a capture
-- of these frames the lines of what is due at its end are written, and then the END line.
abbrev pub Headline : Pick → Meaning → Meaning → Type 0
Headline pick s t =
    (sent : List Sent) (codestreams datagrams frames : List (List ℕ)) (events input rest : List ℕ)
    → Carry sent codestreams datagrams → Arrive datagrams (picked pick.kind pick.source frames) events → Splits input frames []
    → s.left ≡ Some input → t.left ≡ Some rest
    → Grew s.written t.written (end_lines sent frames events pick.window)

-- A finished run of the report has the headline.
abbrev pub HeadlineFollows : Type 0
HeadlineFollows = (pick : Pick) (s t : Meaning) → 1 ≤ pick.window → RunsAs (report_job pick) s t Done → Headline pick s t

-- What was written, of the frames at the front of a stream's capture, is what is due of the
-- datagrams that arrived by then.
abbrev pub IsDueSoFar : Pick → Effects → Type 0
IsDueSoFar pick f =
    (sent : List Sent) (codestreams datagrams front back : List (List ℕ)) (events rest : List ℕ)
    → Carry sent codestreams datagrams → Arrive datagrams (picked pick.kind pick.source (front ++ back)) events
    → Splits (counted f.read) front rest
    → (early : List ℕ) × (late : List ℕ) × (events ≡ early ++ late) × (f.written ≡ due_lines sent early pick.window)

-- So it is before each call that asks for input.
abbrev pub HeadlineSoFar : Type 0
HeadlineSoFar = (pick : Pick) (f : Effects) → 1 ≤ pick.window → IsSoFar (report_job pick) f → IsDueSoFar pick f

-- A run ends so before its capture's end.
abbrev pub IsEarly : Ending → Type 0
IsEarly ReadFault = Unit {0}
IsEarly (Refused r) = Unit {0}
IsEarly ending = ⊥

-- So it is where a read failed, or where the input was refused.
abbrev pub HeadlineAtFault : Type 0
HeadlineAtFault =
    (pick : Pick) (ending : Ending) (f : Effects) → 1 ≤ pick.window → IsEarly ending → EndsAs (report_job pick) ending f → IsDueSoFar pick f

-- The lines of every precinct of a stream, and the END line.
abbrev pub all_lines : List Sent → List (List ℕ) → List ℕ → ℕ → List ℕ
all_lines sent frames events window =
    lines (flat_map (said_by sent) (all_precincts (carried sent))) ++ end_line (end_counts frames events window)

-- A finished run over the capture of a whole stream in order has written every precinct, whatever
-- the window.
abbrev pub WholeStreamIsReported : Type 0
WholeStreamIsReported =
    (pick : Pick) (s t : Meaning) → 1 ≤ pick.window → RunsAs (report_job pick) s t Done
    → (sent : List Sent) (codestreams datagrams frames : List (List ℕ)) (input rest : List ℕ)
    → Carry sent codestreams datagrams
    → Arrive datagrams (picked pick.kind pick.source frames) (range_with_len 0 (length datagrams))
    → Splits input frames [] → s.left ≡ Some input → t.left ≡ Some rest
    → Grew s.written t.written (all_lines sent frames (range_with_len 0 (length datagrams)) pick.window)

-- Of a capture of what thinning keeps of a cut, exactly the precincts are written that are reached
-- through it; every precinct of a resolution that the limit leaves is among them.
pub record WritesThinned (p : Plan) (parts : List Parts) (limit window : ℕ) (s t : Meaning) : Type 0 where
  pub written :
      Grew s.written t.written
      (lines (reached_through p parts limit window) ++ end_line (all_kept (length (kept limit (cut_of p parts)))))
  pub left :
      (codestream : ℕ) (sent : Sent) (x : Precinct) → slice_get (sent_by p parts) codestream ≡ Some sent
      → Contains (precincts_in sent) x → x.place.r + 7 ≤ sent.parts.head.levels + limit
      → Contains (reached_through p parts limit window) x

-- So it is of codestreams that can be sent by a plan, for a receiver that picks the plan's stream.
abbrev pub ThinnedStream : Pick → Meaning → Meaning → Type 0
ThinnedStream pick s t =
    (p : Plan) (parts : List Parts) (codestreams : List (List ℕ)) (limit : ℕ) (input rest : List ℕ)
    → CanBeSent p parts codestreams → Picks p pick → input ≡ framing (kept limit (cut_of p parts))
    → s.left ≡ Some input → t.left ≡ Some rest → WritesThinned p parts limit pick.window s t

-- So it is with a finished run.
abbrev pub ThinnedFollows : Type 0
ThinnedFollows = (pick : Pick) (s t : Meaning) → RunsAs (report_job pick) s t Done → ThinnedStream pick s t
