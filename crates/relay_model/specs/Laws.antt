-- The tale of a receiver is told call by call.
use Rattle.std.specs.Prelude.{◌≡◌, ◌⊎◌, ◌++◌, ℕ, List, [], ◌∷◌, Option, map}
use Rattle.wire_model.specs.Receptions.{Reception}
use Rattle.wire_model.specs.LinkAnswers.{LinkAnswer, NotReady}
use Rattle.relay_model.specs.Queue.{Tale, untold, poll}
use Rattle.relay_model.specs.Relays.{Turns, Flushes, HasTurned, HasFlushed, given_by, relay_tale}

-- The last of these answers is that the link wasn't ready.
abbrev pub EndsNotReady : List LinkAnswer → Type 0
EndsNotReady answers = (before : List LinkAnswer) × (answers ≡ before ++ NotReady ∷ [])

-- At its end the queue is empty, or the last of these answers was that the link wasn't ready.
abbrev pub IsSettled : List (List ℕ) → List LinkAnswer → Type 0
IsSettled left answers = (left ≡ []) ⊎ EndsNotReady answers

-- A poll that takes just these answers, whatever answers follow, leaves the queue empty or met a link that
-- wasn't ready.
abbrev pub PollsSettle : Type 0
PollsSettle = (t u : Tale) (queue : List (List ℕ)) (answers : List LinkAnswer)
    → ((more : List LinkAnswer) → poll t queue (answers ++ more) ≡ record { tale = u; answers = more })
    → IsSettled u.left answers

-- No turn tells nothing, and a further turn tells its own answers.
pub record TurnsAreTold : Type 0 where
  pub none : (limit depth : ℕ) → HasTurned limit depth [] [] untold
  pub more : (limit depth : ℕ) (given : List (Option (List ℕ))) (answers new : List LinkAnswer) (t u : Tale)
      (g : Option (List ℕ)) → HasTurned limit depth given answers t → Turns limit depth t g new u
      → HasTurned limit depth (given ++ g ∷ []) (answers ++ new) u

-- No flush tells nothing, a further flush tells its own answers, and turns and then flushes tell the whole.
pub record FlushesAreTold : Type 0 where
  pub none : (t : Tale) → HasFlushed t [] t
  pub more : (t u v : Tale) (answers new : List LinkAnswer) → HasFlushed t answers u → Flushes u new v
      → HasFlushed t (answers ++ new) v
  pub whole : (limit depth : ℕ) (received : List Reception) (answers later : List LinkAnswer) (t u : Tale)
      → HasTurned limit depth (map given_by received) answers t → HasFlushed t later u
      → relay_tale limit depth received (answers ++ later) ≡ u
