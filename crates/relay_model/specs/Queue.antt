-- The tale of one receiver of a relay, told by what came in and what its own link answered; and that of a
-- sender.
use Rattle.std.specs.Prelude.{◌≡◌, ◌+◌, ◌++◌, ℕ, zero, suc, List, [], ◌∷◌, length, nat_lt, Option, Some, None, if◌then◌else◌}
use Rattle.wire_model.specs.LinkAnswers.{LinkAnswer, Sent, NotReady, Failed}
use Rattle.wire_model.specs.Thinning.{is_kept}

-- A tale says what was sent, how many datagrams were lost and how many failed, and what is left in the queue.
pub record Tale : Type 0 where
  pub sent : List (List ℕ)
  pub lost : ℕ
  pub failed : ℕ
  pub left : List (List ℕ)

-- Before anything came, the tale is empty.
abbrev pub untold : Tale
untold = record { sent = []; lost = 0; failed = 0; left = [] }

-- A tale as far as it was told, and the answers that it didn't take.
pub record Told : Type 0 where
  pub tale : Tale
  pub answers : List LinkAnswer

-- A datagram that the limit keeps joins the queue, where that has room. Else it is lost.
abbrev pub join_queue : ℕ → ℕ → Tale → Option (List ℕ) → Tale
join_queue limit depth t None = t
join_queue limit depth t (Some d) =
    if is_kept limit d
    then (if nat_lt (length t.left) depth
    then record t { left = t.left ++ d ∷ [] }
    else record t { lost = t.lost + 1 })
    else t

-- While the queue isn't empty the next answer is taken: the datagram at the front goes out, fails and is
-- dropped, or waits for the next turn.
unfoldable pub poll : Tale → List (List ℕ) → List LinkAnswer → Told
poll t [] answers = record { tale = record t { left = [] }; answers = answers }
poll t (d ∷ q) [] = record { tale = record t { left = d ∷ q }; answers = [] }
poll t (d ∷ q) (Sent ∷ answers) = poll (record t { sent = t.sent ++ d ∷ [] }) q answers
poll t (d ∷ q) (Failed ∷ answers) = poll (record t { failed = t.failed + 1 }) q answers
poll t (d ∷ q) (NotReady ∷ answers) = record { tale = record t { left = d ∷ q }; answers = answers }

-- In a turn the datagram that came joins the queue, and then the link is polled.
abbrev pub turn : ℕ → ℕ → Told → Option (List ℕ) → Told
turn limit depth told given =
    poll (join_queue limit depth told.tale given) (join_queue limit depth told.tale given).left told.answers

-- Turns follow one another, each given a datagram or none.
unfoldable pub turns : ℕ → ℕ → Told → List (Option (List ℕ)) → Told
turns limit depth told [] = told
turns limit depth told (given ∷ more) = turns limit depth (turn limit depth told given) more

-- In a flush nothing comes in, and the link is polled.
unfoldable pub flushes : Told → ℕ → Told
flushes told zero = told
flushes told (suc n) = flushes (poll told.tale told.tale.left told.answers) n

-- The tale of a receiver with this limit and this depth of its queue, over what each turn was given, this
-- number of flushes, and the answers of its link.
abbrev pub queue_tale : ℕ → ℕ → List (Option (List ℕ)) → ℕ → List LinkAnswer → Tale
queue_tale limit depth given count answers =
    (flushes (turns limit depth (record { tale = untold; answers = answers }) given) count).tale

-- The tale of a sender: each datagram takes answers until it goes out, fails, or its link wasn't ready
-- `idle` times in a row, which loses it. Its link wasn't ready `waited` times by now.
unfoldable pub send_tale : ℕ → ℕ → Tale → List (List ℕ) → List LinkAnswer → Tale
send_tale idle waited t [] answers = record t { left = [] }
send_tale idle waited t (d ∷ ds) [] = record t { left = d ∷ ds }
send_tale idle waited t (d ∷ ds) (Sent ∷ answers) =
    send_tale idle 0 (record t { sent = t.sent ++ d ∷ [] }) ds answers
send_tale idle waited t (d ∷ ds) (Failed ∷ answers) =
    send_tale idle 0 (record t { failed = t.failed + 1 }) ds answers
send_tale idle waited t (d ∷ ds) (NotReady ∷ answers) =
    if nat_lt (waited + 1) idle
    then send_tale idle (waited + 1) t (d ∷ ds) answers
    else send_tale idle 0 (record t { lost = t.lost + 1 }) ds answers

-- The addresses are those of the words: the local one is bound once, and each peer's is joined, in order.
pub record AreNamed (local : List ℕ) (peers bound joined : List (List ℕ)) : Type 0 where
  pub one : bound ≡ local ∷ []
  pub each : joined ≡ peers
