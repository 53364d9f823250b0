-- What all receivers of a relay do when they are flushed.
use Rattle.std.specs.Prelude.{◌≡◌, ◌≤◌, ◌&&◌, ℕ, Bool, true, false, List, [], ◌∷◌, length, nat_le, nat_lt, Some, slice_get}
use Rattle.wire_model.specs.LinkAnswers.{LinkAnswer}
use Rattle.relay_model.specs.Relays.{failure_count}
use Rattle.scl_outside.specs.Meaning.{Meaning, Reply}
use Rattle.scl_outside.specs.Events.{WireEvent, Offered}
use Rattle.scl_outside.specs.Steps.{Counts}
use Rattle.scl_outside.specs.Traces.{Trace}
use Rattle.scl_outside.specs.Effects.{answers, parcels}
use Rattle.polled_datagrams.specs.Offers.{on_wire, answers_to, sent_to}
use Rattle.thinning_relay.specs.Receivers.{Served, any_moved}
use Rattle.thinning_relay.specs.declared.receiver.Receiver.{Receiver}

-- The answers of replies, whatever their peers.
abbrev pub links : List Reply → List LinkAnswer
links [] = []
links (r ∷ rs) = r.answer ∷ links rs

-- All of these calls offer a datagram to a peer, in order of the peers from this one on.
abbrev pub offers_in_order : ℕ → List WireEvent → Bool
offers_in_order peer [] = true
offers_in_order peer (Offered p answer ∷ ws) = nat_le peer p.peer && offers_in_order p.peer ws
offers_in_order peer (w ∷ ws) = false

-- Of calls of the wire, the link of each peer failed only where that peer's count of faults rose.
abbrev pub HaveCauses : Meaning → List WireEvent → Meaning → Type 0
HaveCauses s ws t = (j : ℕ)
    → Counts (nat_lt 0 (failure_count (answers_to j (answers ws)))) (s.wire.peer_faults j) (t.wire.peer_faults j)

-- Calls to the receivers, in their order: each was served by the answers of its own link, whatever the
-- others had.
pub record FlushesAll (rs : List Receiver) (some : Bool) (qs : List Receiver) (s t : Meaning) : Type 0 where
  pub wire : List WireEvent
  pub trace : Trace s (on_wire wire) t
  pub order : offers_in_order 0 wire ≡ true
  pub causes : HaveCauses s wire t
  pub count : length qs ≡ length rs
  pub each : (j : ℕ) (r q : Receiver) → slice_get rs j ≡ Some r → slice_get qs j ≡ Some q
      → Served r q (answers_to j (answers wire)) (sent_to j (parcels wire))
  pub others : (j : ℕ) → length rs ≤ j → (answers_to j (answers wire) ≡ []) × (sent_to j (parcels wire) ≡ [])
  pub peers : t.wire.peers ≡ s.wire.peers
  pub moved : some ≡ any_moved (links (answers wire))
