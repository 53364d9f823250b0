-- The tale of a sender is told datagram by datagram.
use Rattle.std.specs.Prelude.{◌≡◌, ◌<◌, ◌≤◌, ◌+◌, ◌++◌, ℕ, List, [], ◌∷◌, length, replicate}
use Rattle.wire_model.specs.LinkAnswers.{LinkAnswer, Sent, NotReady, Failed}
use Rattle.relay_model.specs.Queue.{Tale, untold, send_tale}
use Rattle.sender_model.specs.Sending.{Takes, HasTaken}

-- What a datagram takes: its link isn't ready fewer than `idle` times and then takes it or fails;
-- or it isn't ready `idle` times, and the datagram is lost.
pub record DatagramIsTold : Type 0 where
  pub sent : (idle n : ℕ) (t : Tale) (d : List ℕ) → n < idle
      → Takes idle t d (replicate n NotReady ++ Sent ∷ []) (record t { sent = t.sent ++ d ∷ [] })
  pub failed : (idle n : ℕ) (t : Tale) (d : List ℕ) → n < idle
      → Takes idle t d (replicate n NotReady ++ Failed ∷ []) (record t { failed = t.failed + 1 })
  pub lost : (idle : ℕ) (t : Tale) (d : List ℕ) → 1 ≤ idle
      → Takes idle t d (replicate idle NotReady) (record t { lost = t.lost + 1 })

-- No datagram takes no answer, a further one adds its own answers, and datagrams with all their
-- answers are the whole tale.
pub record SendingIsTold : Type 0 where
  pub none : (idle : ℕ) → HasTaken idle [] [] untold
  pub more : (idle : ℕ) (datagrams : List (List ℕ)) (answers new : List LinkAnswer) (t u : Tale)
      (d : List ℕ) → HasTaken idle datagrams answers t → Takes idle t d new u
      → HasTaken idle (datagrams ++ d ∷ []) (answers ++ new) u
  pub whole : (idle : ℕ) (datagrams : List (List ℕ)) (answers : List LinkAnswer) (t : Tale)
      → HasTaken idle datagrams answers t → send_tale idle 0 untold datagrams answers ≡ t

-- Each datagram is sent, lost, failed or left.
abbrev pub EachIsCounted : Type 0
EachIsCounted =
    (idle : ℕ) (datagrams : List (List ℕ)) (answers : List LinkAnswer)
    → length (send_tale idle 0 untold datagrams answers).sent
    + (send_tale idle 0 untold datagrams answers).lost
    + (send_tale idle 0 untold datagrams answers).failed
    + length (send_tale idle 0 untold datagrams answers).left
    ≡ length datagrams

-- What was sent stays, whatever datagrams and answers come later.
abbrev pub SentOnlyGrows : Type 0
SentOnlyGrows =
    (idle : ℕ) (datagrams later : List (List ℕ)) (answers more : List LinkAnswer)
    → (added : List (List ℕ))
    × ((send_tale idle 0 untold (datagrams ++ later) (answers ++ more)).sent
    ≡ (send_tale idle 0 untold datagrams answers).sent ++ added)
