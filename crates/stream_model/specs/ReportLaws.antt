-- Laws of what `report` writes: of a stream exactly what is due; and more frames only append to it.
use Rattle.std.specs.Prelude.{◌≡◌, ◌≤◌, ◌+◌, ◌^◌, ◌++◌, ℕ, true, false, List, [], ◌∷◌, length}
use Rattle.std.specs.List.{flat_map}
use Rattle.wire_model.specs.Framing.{Splits}
use Rattle.wire_model.specs.Bytes.{IsBytes}
use Rattle.stream_model.specs.Stream.{Sent, Carry, carried}
use Rattle.stream_model.specs.Arrivals.{picked, Arrive}
use Rattle.stream_model.specs.Reached.{due, due_at_end}
use Rattle.stream_model.specs.EndCounts.{end_counts}
use Rattle.stream_model.specs.StreamLaws.{said_by}
use Rattle.stream_model.specs.Report.{lines, end_line}
use Rattle.stream_model.specs.Receiver.{Pick, take_frame, received}
use Rattle.stream_model.specs.Commands.{report_lines}

-- The lines of what is due of a stream.
abbrev pub due_lines : List Sent → List ℕ → ℕ → List ℕ
due_lines sent events window = lines (flat_map (said_by sent) (due events window (carried sent)))

-- The lines of what is due of a stream at the end, and the END line.
abbrev pub end_lines : List Sent → List (List ℕ) → List ℕ → ℕ → List ℕ
end_lines sent frames events window = lines (flat_map (said_by sent) (due_at_end events window (carried sent))) ++ end_line (end_counts frames events window)

-- Where the picked frames of a capture are datagrams of a stream, whatever other frames are between them and whatever is lost, thinned
-- away, repeated or reordered, `report` has written the lines of what is due, and at the end of what is due at the end.
abbrev pub ReportWritesWhatIsDue : Type 0
ReportWritesWhatIsDue =
    (sent : List Sent) (codestreams datagrams frames : List (List ℕ)) (events : List ℕ) (pick : Pick) (read rest : List ℕ) → Carry sent codestreams datagrams
    → 1 ≤ pick.window → Splits read frames rest → length read ≤ 2 ^ 40 → Arrive datagrams (picked pick.kind pick.source frames) events
    → (report_lines pick read false ≡ due_lines sent events pick.window) × (report_lines pick read true ≡ end_lines sent frames events pick.window)

-- Of the first frames of a capture the first of the events arrive, also where the source is fixed by the first datagram.
abbrev pub ArriveFront : Type 0
ArriveFront =
    (datagrams front back : List (List ℕ)) (events : List ℕ) (pick : Pick) → Arrive datagrams (picked pick.kind pick.source (front ++ back)) events
    → (early : List ℕ) × (late : List ℕ) × (events ≡ early ++ late) × Arrive datagrams (picked pick.kind pick.source front) early

-- Frames are received one after another, and each is counted once.
abbrev pub ReceivedGrows : Type 0
ReceivedGrows =
    (pick : Pick) (frames : List (List ℕ)) (frame : List ℕ)
    → (received pick (frames ++ frame ∷ []) ≡ take_frame pick (received pick frames) frame)
    × ((received pick (frames ++ frame ∷ [])).kept + (received pick (frames ++ frame ∷ [])).old + (received pick (frames ++ frame ∷ [])).refused ≡ length frames + 1)

-- What was written stays, whatever is read later, and at the end.
abbrev pub ReportGrows : Type 0
ReportGrows =
    (pick : Pick) (read more : List ℕ)
    → (IsBytes (read ++ more) → (later : List ℕ) × (report_lines pick (read ++ more) false ≡ report_lines pick read false ++ later))
    × ((later : List ℕ) × (report_lines pick read true ≡ report_lines pick read false ++ later))
