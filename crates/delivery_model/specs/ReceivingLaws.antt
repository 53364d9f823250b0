-- Laws of what `recv` writes.
use Rattle.std.specs.Prelude.{◌≡◌, ◌≤◌, ◌++◌, ℕ, true, false, List}
use Rattle.wire_model.specs.Receptions.{Reception}
use Rattle.relay_model.specs.Lines.{came}
use Rattle.stream_model.specs.Arrivals.{picked, Arrive}
use Rattle.stream_model.specs.Stream.{Sent, Carry}
use Rattle.stream_model.specs.Receiver.{Pick}
use Rattle.stream_model.specs.ReportLaws.{due_lines, end_lines}
use Rattle.delivery_model.specs.Receiving.{recv_line, recv_output}

-- What was written stays, whatever comes later, and at the end.
pub record RecvOnlyGrows : Type 0 where
  pub later : (pick : Pick) (max : ℕ) (receptions more : List Reception)
      → (added : List ℕ)
      × (recv_output pick max (receptions ++ more) false
      ≡ recv_output pick max receptions false ++ added)
  pub ended : (pick : Pick) (max : ℕ) (receptions : List Reception)
      → (added : List ℕ)
      × (recv_output pick max receptions true ≡ recv_output pick max receptions false ++ added)

-- Where the picked datagrams are those of a stream, whatever is lost, thinned away, repeated or
-- reordered, `recv` has written the lines of what is due, and at the end of what is due at the end.
abbrev pub RecvWritesWhatIsDue : Type 0
RecvWritesWhatIsDue =
    (sent : List Sent) (codestreams datagrams : List (List ℕ)) (events : List ℕ) (pick : Pick)
    (max : ℕ) (receptions : List Reception) → Carry sent codestreams datagrams → 1 ≤ pick.window
    → Arrive datagrams (picked pick.kind pick.source (came receptions)) events
    → (recv_output pick max receptions false ≡ due_lines sent events pick.window)
    × (recv_output pick max receptions true
    ≡ end_lines sent (came receptions) events pick.window ++ recv_line max receptions)
