-- The tale of one receiver, told by the answers of the outside alone: what each turn was given, and the
-- number of flushes.
use Rattle.std.specs.Prelude.{◌≡◌, ◌+◌, ◌++◌, ℕ, List, [], ◌∷◌, Option, Some, None, map}
use Rattle.wire_model.specs.Receptions.{Reception, Arrived}
use Rattle.wire_model.specs.LinkAnswers.{LinkAnswer, NotReady, Failed}
use Rattle.relay_model.specs.Queue.{Tale, untold, poll, turn, turns, flushes, queue_tale}

-- A turn was given the datagram that came, by the answer to its call for one.
abbrev pub given_by : Reception → Option (List ℕ)
given_by (Arrived d) = Some d
given_by r = None

-- The link wasn't ready this number of times.
abbrev pub not_ready_count : List LinkAnswer → ℕ
not_ready_count [] = 0
not_ready_count (NotReady ∷ answers) = not_ready_count answers + 1
not_ready_count (answer ∷ answers) = not_ready_count answers

-- This number of calls to the link failed.
abbrev pub failure_count : List LinkAnswer → ℕ
failure_count [] = 0
failure_count (Failed ∷ answers) = failure_count answers + 1
failure_count (answer ∷ answers) = failure_count answers

-- This is 1 where there is a last answer and it isn't that the link wasn't ready, and else 0.
abbrev pub ends_ready : List LinkAnswer → ℕ
ends_ready [] = 0
ends_ready (NotReady ∷ []) = 0
ends_ready (answer ∷ []) = 1
ends_ready (answer ∷ next ∷ answers) = ends_ready (next ∷ answers)

-- This number of flushes took these answers: each ends where the link isn't ready, but for the last, which
-- may have emptied the queue.
abbrev pub flush_count : List LinkAnswer → ℕ
flush_count answers = not_ready_count answers + ends_ready answers

-- Turns leave these answers over.
abbrev pub left_over : ℕ → ℕ → List (Option (List ℕ)) → List LinkAnswer → List LinkAnswer
left_over limit depth given answers =
    (turns limit depth (record { tale = untold; answers = answers }) given).answers

-- The tale of a receiver of a run, whose turns got these answers to their calls for a datagram, and whose
-- flushes took the answers of its link that the turns left over.
abbrev pub relay_tale : ℕ → ℕ → List Reception → List LinkAnswer → Tale
relay_tale limit depth received answers =
    let given = map given_by received in
    queue_tale limit depth given (flush_count (left_over limit depth given answers)) answers

-- A turn takes just these answers, whatever answers follow.
abbrev pub Turns : ℕ → ℕ → Tale → Option (List ℕ) → List LinkAnswer → Tale → Type 0
Turns limit depth t given answers u = (more : List LinkAnswer)
    → turn limit depth (record { tale = t; answers = answers ++ more }) given
    ≡ record { tale = u; answers = more }

-- A flush takes just these answers, whatever answers follow.
abbrev pub Flushes : Tale → List LinkAnswer → Tale → Type 0
Flushes t answers u = (more : List LinkAnswer)
    → poll t t.left (answers ++ more) ≡ record { tale = u; answers = more }

-- Turns from the beginning take just these answers, whatever answers follow.
abbrev pub HasTurned : ℕ → ℕ → List (Option (List ℕ)) → List LinkAnswer → Tale → Type 0
HasTurned limit depth given answers t = (more : List LinkAnswer)
    → turns limit depth (record { tale = untold; answers = answers ++ more }) given
    ≡ record { tale = t; answers = more }

-- Flushes, in the number that the answers show, take just these answers, whatever answers follow.
pub record HasFlushed (t : Tale) (answers : List LinkAnswer) (u : Tale) : Type 0 where
  pub told : (more : List LinkAnswer)
      → flushes (record { tale = t; answers = answers ++ more }) (flush_count answers)
      ≡ record { tale = u; answers = more }
  pub ends : (ends_ready answers ≡ 1) → u.left ≡ []
