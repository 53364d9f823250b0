-- What the turns of a relay do.
use Rattle.std.specs.Prelude.{◌≡◌, ◌≤◌, ◌<◌, ◌+◌, ℕ, false, List, [], ◌∷◌, length, map, Some, Result, Ok, Err, codes}
use Rattle.std.specs.List.{slice_get, flat_map}
use Rattle.relay_model.specs.Queue.{Tale, untold}
use Rattle.relay_model.specs.Relays.{given_by, HasTurned}
use Rattle.relay_model.specs.Lines.{came, has_closed, malformed_count, end_word}
use Rattle.scl_outside.specs.Meaning.{Meaning}
use Rattle.scl_outside.specs.Events.{Event, WireEvent}
use Rattle.scl_outside.specs.Effects.{nothing, effects, receptions, answers, parcels, wire_failed}
use Rattle.scl_outside.specs.Traces.{Trace, AtReads}
use Rattle.polled_datagrams.specs.Offers.{answers_to, sent_to}
use Rattle.polled_datagrams.specs.Sending.{depth_of}
use Rattle.thinning_relay.specs.Receivers.{queued}
use Rattle.thinning_relay.specs.Relaying.{Turns, receivers_of}
use Rattle.thinning_relay.specs.declared.receiver.Receiver.{Receiver}
use Rattle.thinning_relay.specs.declared.relay.Relay.{Relay}
use Rattle.thinning_relay.specs.declared.relay.Turn.{Turn}
use Rattle.thinning_relay.specs.declared.relay.Turn.TheVariants as turn
use Rattle.scl_run.specs.declared.ending.Ending.{Ending}
use Rattle.scl_run.specs.declared.ending.Ending.TheVariants.{WireFault, NoMemory}
use Rattle.scl_run.specs.Performing.{IsSoFar, Performs}
use Rattle.relay_job.specs.declared.serving.End.{End}
use Rattle.relay_job.specs.declared.serving.End.TheVariants.{Closed, Max, Idle}
use Rattle.relay_job.specs.declared.serving.Round.{Round}
use Rattle.relay_job.specs.declared.serving.Round.TheVariants.{On, Over, Stop}
use Rattle.relay_job.specs.Settings.{Target, Settings, addresses}
use Rattle.relay_job.specs.Turns.{turns_of, idle_run, ArePolled}
use Rattle.relay_job.specs.Job.{BeginsNamed, HasEnded, named_by, relay_job}

-- A receiver's counts are those of its tale.
pub record IsCounted (r : Receiver) (t : Tale) : Type 0 where
  pub sent : r.sent ≡ length t.sent
  pub lost : r.lost ≡ t.lost
  pub failed : r.failed ≡ t.failed
  pub left : queued r ≡ t.left

-- The receiver with this number has the tale of these calls of the wire: all of them were turns, and each polled it
-- once. It counted no more datagrams than came.
pub record Tracks (j : ℕ) (p : Target) (wire : List WireEvent) (r : Receiver) (t : Tale) : Type 0 where
  pub limit : r.limit ≡ p.limit
  pub depth : depth_of r.queue ≡ p.depth
  pub told : HasTurned p.limit p.depth (map given_by (receptions wire)) (answers_to j (answers wire)) t
  pub polled : ArePolled j p untold (turns_of wire) t
  pub sent : sent_to j (parcels wire) ≡ t.sent
  pub counted : IsCounted r t
  pub few : length t.sent + t.lost + t.failed + length t.left ≤ length (came (receptions wire))

-- By these calls all addresses were named and turns were taken, each of which polled each receiver once.
pub record Turned (s : Settings) (r : Relay) (m n : Meaning) (es : List Event) (wire : List WireEvent) : Type 0 where
  pub trace : Trace m es n
  pub so_far : AtReads (IsSoFar (relay_job s)) nothing es
  pub done : effects es ≡ record nothing { wire = wire }
  pub named : BeginsNamed s wire
  pub names : flat_map named_by wire ≡ s.local ∷ addresses s.targets
  pub count : length (receivers_of r) ≡ length s.targets
  pub received : r.received ≡ length (came (receptions wire))
  pub refused : r.refused ≡ malformed_count (came (receptions wire))
  pub few : length (came (receptions wire)) ≤ 8388607
  pub each : (j : ℕ) (p : Target) (a : Receiver) → slice_get s.targets j ≡ Some p → slice_get (receivers_of r) j ≡ Some a
      → (t : Tale) × Tracks j p wire a t
  pub others : (j : ℕ) → length s.targets ≤ j → sent_to j (parcels wire) ≡ []

-- After these calls another turn may be taken; the last turns, in this number, were idle.
pub record IsOpen (s : Settings) (wire : List WireEvent) (idle : ℕ) : Type 0 where
  pub passed : wire_failed wire ≡ false
  pub not_closed : has_closed (receptions wire) ≡ false
  pub few : length (came (receptions wire)) < s.max
  pub last : idle_run 0 (turns_of wire) ≡ idle
  pub busy : idle < s.idle

-- The word for an end.
abbrev pub word_of : End → List ℕ
word_of Closed = codes "closed"
word_of Max = codes "max"
word_of Idle = codes "idle"

-- After a turn by which this number of datagrams came and the last turns, in this number, were idle, another turn
-- follows or the turns are over.
abbrev pub IsRound : Settings → ℕ → ℕ → Round → Type 0
IsRound s received idle (On count) = (received < s.max) × (idle < s.idle) × (count ≡ idle)
IsRound s received idle (Over Max) = s.max ≤ received
IsRound s received idle (Over Idle) = (received < s.max) × (s.idle ≤ idle)
IsRound s received idle round = ⊥

-- What follows a turn with this answer.
abbrev pub Follows : Settings → Turn → ℕ → ℕ → Round → Type 0
Follows s turn.NoMemory received idle round = round ≡ Stop NoMemory
Follows s turn.Failed received idle round = round ≡ Stop WireFault
Follows s turn.Ended received idle round = round ≡ Over Closed
Follows s turn.Moved received idle round = IsRound s received 0 round
Follows s turn.Idle received idle round = IsRound s received (idle + 1) round

-- One turn was taken, and this follows it.
pub record Rounds (s : Settings) (r : Relay) (idle : ℕ) (round : Round) (q : Relay) (m n : Meaning) : Type 0 where
  pub answer : Turn
  pub turns : Turns r answer q m n
  pub follows : Follows s answer q.received idle round

-- The turns came to this end, or to this ending of the run, which the calls perform.
abbrev pub ServeGives : Settings → Result End Ending → Relay → Meaning → Meaning → List Event → List WireEvent → Type 0
ServeGives s (Ok end) q m n es wire =
    Turned s q m n es wire × (wire_failed wire ≡ false) × HasEnded s wire × (end_word s.max (receptions wire) ≡ word_of end)
ServeGives s (Err ending) q m n es wire = Performs (relay_job s) m n ending es

-- Turns were taken to their end, whatever was done before them.
abbrev pub Serves : Settings → Relay → Result End Ending → Relay → Meaning → Meaning → Type 0
Serves s r result q m n =
    (first : Meaning) (es : List Event) (wire : List WireEvent) → Turned s r first m es wire → IsOpen s wire 0
    → (fs : List Event) × (ws : List WireEvent) × ServeGives s result q first n fs ws
