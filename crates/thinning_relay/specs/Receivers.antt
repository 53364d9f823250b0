-- What one receiver of a relay does.
use Rattle.std.specs.Prelude.{◌≡◌, ◌+◌, ◌-◌, ◌^◌, ◌++◌, ℕ, Bool, true, false, List, [], ◌∷◌, length, min, max, nat_lt, option_map, Option, Some, None, if◌then◌else◌}
use Rattle.std.specs.Rc.{rc_slice_items}
use Rattle.wire_model.specs.LinkAnswers.{LinkAnswer, NotReady}
use Rattle.relay_model.specs.Queue.{Tale, poll}
use Rattle.relay_model.specs.Relays.{failure_count}
use Rattle.relay_model.specs.Laws.{IsSettled}
use Rattle.scl_outside.specs.Meaning.{Meaning}
use Rattle.scl_outside.specs.Events.{WireEvent}
use Rattle.scl_outside.specs.Traces.{Trace}
use Rattle.scl_outside.specs.Effects.{answers, parcels}
use Rattle.polled_datagrams.specs.Offers.{on_wire, offers, replies_of, parcels_of}
use Rattle.polled_datagrams.specs.Sending.{queue_of, depth_of, KeepsPeer}
use Rattle.thinning_relay.specs.declared.receiver.Receiver.{Receiver}

-- A count of 64 bits after this number more, which stays at its last value once it is there.
abbrev pub count_after : ℕ → ℕ → ℕ
count_after count more = max count (min (count + more) (2 ^ 64 - 1))

-- A receiver has these datagrams in its queue.
abbrev pub queued : Receiver → List (List ℕ)
queued r = queue_of r.queue

-- A receiver's share of the datagram that came, if it has one.
abbrev pub share_of : Receiver → Option (List ℕ)
share_of r = option_map rc_slice_items r.share

-- The limit, the number and the depth of a receiver stay.
pub record KeepsReceiver (r q : Receiver) : Type 0 where
  pub limit : q.limit ≡ r.limit
  pub queue : KeepsPeer r.queue q.queue

-- A datagram joins a queue of this depth where that has room.
abbrev pub queue_after : ℕ → Option (List ℕ) → List (List ℕ) → List (List ℕ)
queue_after depth None queue = queue
queue_after depth (Some d) queue = if nat_lt (length queue) depth then queue ++ d ∷ [] else queue

-- A queue of this depth misses this number of datagrams: the one that is given, where the queue is full.
abbrev pub missed : ℕ → Option (List ℕ) → List (List ℕ) → ℕ
missed depth None queue = 0
missed depth (Some d) queue = if nat_lt (length queue) depth then 0 else 1

-- A receiver's share joins its queue where that has room, and else is lost.
pub record PutsShare (r q : Receiver) : Type 0 where
  pub joins : queued q ≡ queue_after (depth_of r.queue) (share_of r) (queued r)
  pub lost : q.lost ≡ count_after r.lost (missed (depth_of r.queue) (share_of r) (queued r))
  pub sent : q.sent ≡ r.sent
  pub failed : q.failed ≡ r.failed
  pub keeps : KeepsReceiver r q

-- A receiver whose link gave just these answers, and to which these datagrams were sent: its queue went as
-- its tale says, whatever answers follow, and ended empty or at a link that wasn't ready; and its counts
-- rose so.
pub record Served (r q : Receiver) (given : List LinkAnswer) (sent : List (List ℕ)) : Type 0 where
  pub told : (x : Tale) (more : List LinkAnswer) → poll x (queued r) (given ++ more)
      ≡ record {
        tale = record x { sent = x.sent ++ sent; failed = x.failed + failure_count given; left = queued q };
        answers = more;
      }
  pub settled : IsSettled (queued q) given
  pub sent_count : q.sent ≡ count_after r.sent (length sent)
  pub failed_count : q.failed ≡ count_after r.failed (failure_count given)
  pub lost : q.lost ≡ r.lost
  pub keeps : KeepsReceiver r q

-- A datagram was sent or failed.
abbrev pub any_moved : List LinkAnswer → Bool
any_moved [] = false
any_moved (NotReady ∷ given) = any_moved given
any_moved (answer ∷ given) = true

-- These calls flush one receiver.
pub record FlushesOne (r : Receiver) (some : Bool) (q : Receiver) (s t : Meaning) : Type 0 where
  pub wire : List WireEvent
  pub trace : Trace s (on_wire wire) t
  pub given : List LinkAnswer
  pub offered : wire ≡ offers r.queue.peer (queued r) given
  pub sent : List (List ℕ)
  pub served : Served r q given sent
  pub replies : answers wire ≡ replies_of r.queue.peer given
  pub parcels : parcels wire ≡ parcels_of r.queue.peer sent
  pub peers : t.wire.peers ≡ s.wire.peers
  pub moved : some ≡ any_moved given
