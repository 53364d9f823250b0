-- What a relay does in a turn and in a flush.
use Rattle.std.specs.Prelude.{◌≡◌, ◌≤◌, ◌+◌, ◌++◌, ℕ, Bool, true, List, [], ◌∷◌, length, Option, Some, if◌then◌else◌, slice_get}
use Rattle.wire_model.specs.Receptions.{Reception, Arrived, NotReady, Closed, Failed}
use Rattle.wire_model.specs.LinkAnswers.{LinkAnswer}
use Rattle.wire_model.specs.Datagram.{is_well_formed}
use Rattle.relay_model.specs.Queue.{Tale, turn}
use Rattle.relay_model.specs.Relays.{given_by, failure_count}
use Rattle.relay_model.specs.Laws.{IsSettled}
use Rattle.scl_outside.specs.Meaning.{Meaning}
use Rattle.scl_outside.specs.Events.{WireEvent, OnWire, Received}
use Rattle.scl_outside.specs.Steps.{Step}
use Rattle.scl_outside.specs.Traces.{Trace}
use Rattle.scl_outside.specs.Effects.{answers, parcels}
use Rattle.polled_datagrams.specs.Offers.{on_wire, answers_to, sent_to}
use Rattle.polled_datagrams.specs.Sending.{depth_of}
use Rattle.thinning_relay.specs.Receivers.{queued, count_after, missed, any_moved, KeepsReceiver}
use Rattle.thinning_relay.specs.Flushing.{links, offers_in_order, HaveCauses, FlushesAll}
use Rattle.thinning_relay.specs.Passing.{kept_of, SameButShare, IsKeptBySome, PassesOn}
use Rattle.thinning_relay.specs.declared.receiver.Receiver.{Receiver}
use Rattle.thinning_relay.specs.declared.relay.Peer.{Peer}
use Rattle.thinning_relay.specs.declared.relay.Relay.{Relay}
use Rattle.thinning_relay.specs.declared.relay.Turn.{Turn}
use Rattle.thinning_relay.specs.declared.relay.Turn.TheVariants as out
use Rattle.thinning_relay.specs.declared.relay.Received as received
use Rattle.thinning_relay.specs.declared.relay.Received.TheVariants as which

-- A relay has these receivers, in order of their numbers.
abbrev pub receivers_of : Relay → List Receiver
receivers_of r = r.receivers.items

-- A new receiver has its peer's limit and depth, an empty queue and counts of 0.
pub record IsNewReceiver (p : Peer) (r : Receiver) : Type 0 where
  pub limit : r.limit ≡ p.limit
  pub depth : depth_of r.queue ≡ p.depth
  pub empty : queued r ≡ []
  pub sent : r.sent ≡ 0
  pub lost : r.lost ≡ 0
  pub failed : r.failed ≡ 0

-- Each of these receivers is new, one for each peer.
pub record AreNew (peers : List Peer) (rs : List Receiver) : Type 0 where
  pub count : length rs ≡ length peers
  pub each : (j : ℕ) (p : Peer) (r : Receiver) → slice_get peers j ≡ Some p → slice_get rs j ≡ Some r
      → IsNewReceiver p r

-- A new relay has a new receiver for each peer, and received nothing.
pub record IsNewRelay (peers : List Peer) (r : Relay) : Type 0 where
  pub receivers : AreNew peers (receivers_of r)
  pub received : r.received ≡ 0
  pub refused : r.refused ≡ 0

-- One receiver in a turn that was given this: its queue went as its tale says, whatever answers of its link
-- follow, and ended empty or at a link that wasn't ready; and its counts rose so. No other receiver's
-- limit, depth or link is in it.
pub record ServedTurn (given : Option (List ℕ)) (r q : Receiver) (took : List LinkAnswer) (sent : List (List ℕ))
    : Type 0 where
  pub told : (x : Tale) (more : List LinkAnswer) → x.left ≡ queued r
      → turn r.limit (depth_of r.queue) (record { tale = x; answers = took ++ more }) given
      ≡ record {
        tale = record {
          sent = x.sent ++ sent;
          lost = x.lost + missed (depth_of r.queue) (kept_of r.limit given) (queued r);
          failed = x.failed + failure_count took;
          left = queued q;
        };
        answers = more;
      }
  pub settled : IsSettled (queued q) took
  pub sent_count : q.sent ≡ count_after r.sent (length sent)
  pub lost_count : q.lost ≡ count_after r.lost (missed (depth_of r.queue) (kept_of r.limit given) (queued r))
  pub failed_count : q.failed ≡ count_after r.failed (failure_count took)
  pub keeps : KeepsReceiver r q

-- A turn in which this was received, and something was sent or failed or nothing was, has this answer.
abbrev pub IsTurn : Reception → Bool → Turn → Type 0
IsTurn (Arrived d) some answer = answer ≡ out.Moved
IsTurn NotReady some answer = answer ≡ (if some then out.Moved else out.Idle)
IsTurn Closed some answer = answer ≡ out.Ended
IsTurn Failed some answer = answer ≡ out.Failed

-- A turn polled each receiver once, in their order.
pub record TurnsAll (got : Reception) (rs qs : List Receiver) (answer : Turn) (wire : List WireEvent)
    : Type 0 where
  pub order : offers_in_order 0 wire ≡ true
  pub count : length qs ≡ length rs
  pub each : (j : ℕ) (a c : Receiver) → slice_get rs j ≡ Some a → slice_get qs j ≡ Some c
      → ServedTurn (given_by got) a c (answers_to j (answers wire)) (sent_to j (parcels wire))
  pub others : (j : ℕ) → length rs ≤ j → (answers_to j (answers wire) ≡ []) × (sent_to j (parcels wire) ≡ [])
  pub answers : IsTurn got (any_moved (links (answers wire))) answer

-- A turn found no memory: a datagram came that some receiver's limit keeps, no queue has changed, and no
-- receiver was polled.
pub record TurnsNone (got : Reception) (rs qs : List Receiver) (wire : List WireEvent) : Type 0 where
  pub came : (d : List ℕ) × (got ≡ Arrived d) × IsKeptBySome d rs
  pub nothing : wire ≡ []
  pub same : SameButShare rs qs

-- A turn with this answer polled each receiver, or found no memory.
abbrev pub TurnDoes : Turn → Reception → List Receiver → List Receiver → List WireEvent → Type 0
TurnDoes out.NoMemory got rs qs wire = TurnsNone got rs qs wire
TurnDoes answer got rs qs wire = TurnsAll got rs qs answer wire

-- A call for a datagram brings in this number of them.
abbrev pub arrived_count : Reception → ℕ
arrived_count (Arrived d) = 1
arrived_count got = 0

-- A call for a datagram brings in this number of them that aren't well formed.
abbrev pub refused_count : Reception → ℕ
refused_count (Arrived d) = if is_well_formed d then 0 else 1
refused_count got = 0

-- A relay counts what it received, and what of that isn't well formed.
pub record CountsReceived (r : Relay) (got : Reception) (q : Relay) : Type 0 where
  pub received : q.received ≡ count_after r.received (arrived_count got)
  pub refused : q.refused ≡ count_after r.refused (refused_count got)

-- One call for a datagram had this answer, before any receiver was polled.
abbrev pub IsReceived : received.Received → Reception → Type 0
IsReceived which.NoMemory got = (d : List ℕ) × (got ≡ Arrived d)
IsReceived which.Failed got = got ≡ Failed
IsReceived which.Ended got = got ≡ Closed
IsReceived which.Nothing got = got ≡ NotReady
IsReceived which.Datagram got = (d : List ℕ) × (got ≡ Arrived d)

-- What came was passed on, or there was no memory for it.
abbrev pub Passes : received.Received → Reception → List Receiver → List Receiver → Type 0
Passes which.NoMemory got rs qs = ((d : List ℕ) × (got ≡ Arrived d) × IsKeptBySome d rs) × SameButShare rs qs
Passes r got rs qs = PassesOn (given_by got) rs qs

-- One call for a datagram was made, and what came was counted and passed on.
pub record TakesIn (r : Relay) (answer : received.Received) (q : Relay) (s t : Meaning) : Type 0 where
  pub got : Reception
  pub is : IsReceived answer got
  pub step : Step s (OnWire (Received got)) t
  pub counts : CountsReceived r got q
  pub passes : Passes answer got (receivers_of r) (receivers_of q)
  pub count : length (receivers_of q) ≡ length (receivers_of r)
  pub peers : t.wire.peers ≡ s.wire.peers

-- One call for a datagram was made, and then calls to the receivers.
pub record Turns (r : Relay) (answer : Turn) (q : Relay) (s t : Meaning) : Type 0 where
  pub got : Reception
  pub wire : List WireEvent
  pub trace : Trace s (OnWire (Received got) ∷ on_wire wire) t
  pub does : TurnDoes answer got (receivers_of r) (receivers_of q) wire
  pub counts : CountsReceived r got q
  pub causes : HaveCauses s wire t
  pub peers : t.wire.peers ≡ s.wire.peers

-- Calls to the receivers were made, and nothing else.
pub record Flushes (r : Relay) (some : Bool) (q : Relay) (s t : Meaning) : Type 0 where
  pub flushed : FlushesAll (receivers_of r) some (receivers_of q) s t
  pub received : q.received ≡ r.received
  pub refused : q.refused ≡ r.refused
