-- A queue to one peer, and what a poll of it does.
use Rattle.std.specs.Prelude.{◌≡◌, ◌+◌, ◌++◌, ◌↔◌, ℕ, true, List, [], ◌∷◌, length, map, nat_lt}
use Rattle.std.specs.Rc.{rc_slice_items}
use Rattle.wire_model.specs.LinkAnswers.{LinkAnswer}
use Rattle.relay_model.specs.Queue.{Tale, poll}
use Rattle.relay_model.specs.Relays.{not_ready_count, failure_count}
use Rattle.relay_model.specs.Laws.{IsSettled}
use Rattle.scl_outside.specs.Meaning.{Meaning}
use Rattle.scl_outside.specs.Events.{WireEvent}
use Rattle.scl_outside.specs.Steps.{Counts}
use Rattle.scl_outside.specs.Traces.{Trace}
use Rattle.scl_outside.specs.Effects.{answers, parcels}
use Rattle.polled_datagrams.specs.Offers.{offers, on_wire, replies_of, parcels_of}
use Rattle.polled_datagrams.specs.declared.sending.SendFuture.{SendFuture}
use Rattle.polled_datagrams.specs.declared.sending.Flushed.{Flushed}

-- A queue has these datagrams, from its front.
abbrev pub queue_of : SendFuture → List (List ℕ)
queue_of f = map rc_slice_items f.queue.items

-- A queue holds at most this number of datagrams.
abbrev pub depth_of : SendFuture → ℕ
depth_of f = f.queue.capacity

-- The peer and the depth of a queue stay.
pub record KeepsPeer (f g : SendFuture) : Type 0 where
  pub peer : g.peer ≡ f.peer
  pub depth : depth_of g ≡ depth_of f

-- A queue without the datagram at its front.
abbrev pub drop_front : List (List ℕ) → List (List ℕ)
drop_front [] = []
drop_front (d ∷ q) = q

-- A poll of a queue to this peer made these calls and no others, each with the next datagram of the queue,
-- and took their answers alone. It goes on to the end of the queue or until the link isn't ready, and its
-- counts are those of the answers.
pub record Polls (peer : ℕ) (before : List (List ℕ)) (r : Flushed) (after : List (List ℕ)) (s t : Meaning)
    : Type 0 where
  pub given : List LinkAnswer
  pub wire : List WireEvent
  pub offered : wire ≡ offers peer before given
  pub trace : Trace s (on_wire wire) t
  pub sent : List (List ℕ)
  pub told : (x : Tale) (more : List LinkAnswer) → poll x before (given ++ more)
      ≡ record {
        tale = record x { sent = x.sent ++ sent; failed = x.failed + r.failed; left = after };
        answers = more;
      }
  pub settled : IsSettled after given
  pub number : r.sent ≡ length sent
  pub failed : r.failed ≡ failure_count given
  pub taken : length given ≡ r.sent + r.failed + not_ready_count given
  pub pending : (r.pending ≡ true) ↔ (not_ready_count given ≡ 1)
  pub faults : Counts (nat_lt 0 r.failed) (s.wire.peer_faults peer) (t.wire.peer_faults peer)
  pub replies : answers wire ≡ replies_of peer given
  pub parcels : parcels wire ≡ parcels_of peer sent
  pub peers : t.wire.peers ≡ s.wire.peers
