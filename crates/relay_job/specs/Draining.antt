-- What the flushes of a relay do.
use Rattle.std.specs.Prelude.{◌≡◌, ◌≤◌, ◌+◌, ◌++◌, ◌⊎◌, ℕ, true, false, List, [], length, map, replicate, Some}
use Rattle.std.specs.List.{slice_get}
use Rattle.wire_model.specs.LinkAnswers.{LinkAnswer, NotReady}
use Rattle.relay_model.specs.Queue.{Tale}
use Rattle.relay_model.specs.Relays.{given_by, ends_ready, HasTurned, HasFlushed}
use Rattle.relay_model.specs.Lines.{came}
use Rattle.scl_outside.specs.Meaning.{Meaning}
use Rattle.scl_outside.specs.Events.{Event, WireEvent}
use Rattle.scl_outside.specs.Effects.{nothing, effects, receptions, answers, parcels, wire_failed}
use Rattle.scl_outside.specs.Traces.{Trace, AtReads}
use Rattle.polled_datagrams.specs.Offers.{answers_to, sent_to}
use Rattle.thinning_relay.specs.Receivers.{queued}
use Rattle.thinning_relay.specs.Relaying.{receivers_of}
use Rattle.thinning_relay.specs.declared.receiver.Receiver.{Receiver}
use Rattle.thinning_relay.specs.declared.relay.Relay.{Relay}
use Rattle.scl_run.specs.Performing.{IsSoFar}
use Rattle.relay_job.specs.Settings.{Target, Settings}
use Rattle.relay_job.specs.Job.{are_offers, relay_job}
use Rattle.relay_job.specs.Serving.{IsCounted, Turned}

-- The queues of all receivers are empty.
abbrev pub AreEmpty : List Receiver → Type 0
AreEmpty rs = (j : ℕ) (r : Receiver) → slice_get rs j ≡ Some r → queued r ≡ []

-- A receiver's queue is empty, or the last flushes, in this number, took one answer each, that its link wasn't ready.
abbrev pub HasWaited : ℕ → List (List ℕ) → List LinkAnswer → Type 0
HasWaited idle left given = (left ≡ []) ⊎ ((front : List LinkAnswer) × (given ≡ front ++ replicate idle NotReady) × (ends_ready front ≡ 0))

-- The receiver with this number has the tale of turns by the first calls of the wire, and then of flushes by the
-- others; its last flushes, in the number `idle`, moved nothing.
pub record FlushedTo (idle j : ℕ) (p : Target) (turned flushed : List WireEvent) (r : Receiver) (u : Tale) : Type 0 where
  pub turns : Tale
  pub told : HasTurned p.limit p.depth (map given_by (receptions turned)) (answers_to j (answers turned)) turns
  pub flushes : HasFlushed turns (answers_to j (answers flushed)) u
  pub sent : sent_to j (parcels (turned ++ flushed)) ≡ u.sent
  pub counted : IsCounted r u
  pub few : length u.sent + u.lost + u.failed + length u.left ≤ length (came (receptions turned))
  pub waited : HasWaited idle u.left (answers_to j (answers flushed))

-- After turns the receivers were flushed, and the last flushes, in the number `idle`, moved nothing.
pub record Drained (s : Settings) (idle : ℕ) (r : Relay) (m n : Meaning) (es : List Event) (turned flushed : List WireEvent)
    : Type 0 where
  pub trace : Trace m es n
  pub so_far : AtReads (IsSoFar (relay_job s)) nothing es
  pub done : effects es ≡ record nothing { wire = turned ++ flushed }
  pub offers : are_offers flushed ≡ true
  pub passed : wire_failed (turned ++ flushed) ≡ false
  pub count : length (receivers_of r) ≡ length s.targets
  pub each : (j : ℕ) (p : Target) (a : Receiver) → slice_get s.targets j ≡ Some p → slice_get (receivers_of r) j ≡ Some a
      → (u : Tale) × FlushedTo idle j p turned flushed a u
  pub others : (j : ℕ) → length s.targets ≤ j → sent_to j (parcels (turned ++ flushed)) ≡ []

-- Once turns were taken, the receivers were flushed until all queues were empty or, in the number `limit`, flushes in
-- a row moved nothing.
pub record Drains (limit : ℕ) (r q : Relay) (m n : Meaning) : Type 0 where
  pub flushed : (s : Settings) (first : Meaning) (es : List Event) (turned : List WireEvent) → Turned s r first m es turned
      → wire_failed turned ≡ false → (fs : List Event) × (ws : List WireEvent) × Drained s limit q first n fs turned ws
  pub received : q.received ≡ r.received
  pub refused : q.refused ≡ r.refused
  pub count : length (receivers_of q) ≡ length (receivers_of r)
