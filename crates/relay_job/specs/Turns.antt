-- The turns of a relay, as its calls of the wire show them.
use Rattle.std.specs.Prelude.{◌≡◌, ◌+◌, ◌&&◌, ℕ, Bool, true, false, List, [], ◌∷◌, if◌then◌else◌, Some}
use Rattle.std.specs.List.{slice_get}
use Rattle.wire_model.specs.Receptions.{Reception, NotReady, Failed}
use Rattle.wire_model.specs.LinkAnswers.{LinkAnswer}
use Rattle.wire_model.specs.LinkAnswers as link
use Rattle.relay_model.specs.Queue.{Tale, untold}
use Rattle.relay_model.specs.Relays.{given_by, Turns}
use Rattle.relay_model.specs.Laws.{IsSettled}
use Rattle.scl_outside.specs.Meaning.{Reply}
use Rattle.scl_outside.specs.Events.{WireEvent, Received, Offered}
use Rattle.polled_datagrams.specs.Offers.{answers_to}
use Rattle.relay_job.specs.Settings.{Target, Settings}

-- A turn is a call for a datagram, and then calls to receivers.
pub record TurnTaken : Type 0 where
  pub got : Reception
  pub replies : List Reply

-- Of these calls, those before the next one for a datagram got these replies of the receivers' links.
abbrev pub replies_before : List WireEvent → List Reply
replies_before [] = []
replies_before (Received r ∷ ws) = []
replies_before (Offered p a ∷ ws) = record { peer = p.peer; answer = a } ∷ replies_before ws
replies_before (w ∷ ws) = replies_before ws

-- These calls are these turns: each begins with a call for a datagram and has all calls up to the next one.
abbrev pub turns_of : List WireEvent → List TurnTaken
turns_of [] = []
turns_of (Received r ∷ ws) = record { got = r; replies = replies_before ws } ∷ turns_of ws
turns_of (w ∷ ws) = turns_of ws

-- No link was ready.
abbrev pub all_not_ready : List Reply → Bool
all_not_ready [] = true
all_not_ready (r ∷ replies) = was_not_ready r.answer && all_not_ready replies where
  was_not_ready : LinkAnswer → Bool
  was_not_ready link.NotReady = true
  was_not_ready answer = false

-- No datagram was there.
abbrev pub is_not_ready : Reception → Bool
is_not_ready NotReady = true
is_not_ready r = false

-- In an idle turn nothing came, and nothing was sent or failed.
abbrev pub is_idle : TurnTaken → Bool
is_idle t = is_not_ready t.got && all_not_ready t.replies

-- After this number of idle turns in a row, and then these turns, the last turns of this number were idle.
abbrev pub idle_run : ℕ → List TurnTaken → ℕ
idle_run n [] = n
idle_run n (t ∷ turns) = idle_run (if is_idle t then n + 1 else 0) turns

-- One of these calls for a datagram failed.
abbrev pub has_failed : List Reception → Bool
has_failed [] = false
has_failed (Failed ∷ received) = true
has_failed (r ∷ received) = has_failed received

-- In a turn the receiver with this number was polled once: its tale went on by just the answers that its link gave
-- in the turn, and then its queue was empty or the last of these was that the link wasn't ready.
pub record IsPolled (j : ℕ) (r : Target) (t : Tale) (turn : TurnTaken) (u : Tale) : Type 0 where
  pub told : Turns r.limit r.depth t (given_by turn.got) (answers_to j turn.replies) u
  pub settled : IsSettled u.left (answers_to j turn.replies)

-- In each of these turns, one after another, the receiver with this number was polled once.
abbrev pub ArePolled : ℕ → Target → Tale → List TurnTaken → Tale → Type 0
ArePolled j r t [] u = u ≡ t
ArePolled j r t (turn ∷ turns) u = (m : Tale) × IsPolled j r t turn m × ArePolled j r m turns u

-- In each turn of these calls each receiver was polled once, whatever the call for a datagram gave.
abbrev pub EachIsPolled : Settings → List WireEvent → Type 0
EachIsPolled s wire = (j : ℕ) (r : Target) → slice_get s.targets j ≡ Some r
    → (u : Tale) × ArePolled j r untold (turns_of wire) u
