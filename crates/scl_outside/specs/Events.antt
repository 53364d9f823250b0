-- The calls of the outside, each as its caller sees it, with its answer.
use Rattle.std.specs.Prelude.{◌≤◌, ℕ, Bool, true, false, List, [], ◌∷◌, length, Option, Some, None, ◌==◌}
use Rattle.wire_model.specs.Bytes.{IsBytes}
use Rattle.wire_model.specs.Receptions.{Reception, Arrived, Failed}
use Rattle.wire_model.specs.LinkAnswers.{LinkAnswer}
use Rattle.wire_model.specs.LinkAnswers as link
use Rattle.scl_outside.specs.Meaning.{Parcel, Reply}

-- A call of the wire asks for a datagram, sends one to a peer, names the local address, or adds a peer.
pub data WireEvent : Type 0 where
  Received : Reception → WireEvent
  Offered : Parcel → LinkAnswer → WireEvent
  Bound : List ℕ → Bool → WireEvent
  Joined : List ℕ → Bool → WireEvent

-- A call is a read that took bytes, that met the end of the input, or that failed; a write of all its
-- bytes, or of a prefix of them before it failed; a line for the user; or a call of the wire.
pub data Event : Type 0 where
  Took : List ℕ → Event
  Ended : Event
  ReadFailed : Event
  Wrote : List ℕ → Event
  WriteFailed : List ℕ → Event
  Noted : List ℕ → Event
  OnWire : WireEvent → Event

-- A read that took bytes took at least one, and what it took are bytes.
abbrev pub IsCall : Event → Type 0
IsCall (Took bytes) = (1 ≤ length bytes) × IsBytes bytes
IsCall e = Unit {0}

-- A read took these bytes of the input.
abbrev pub taken_by : Event → Option (List ℕ)
taken_by (Took bytes) = Some bytes
taken_by Ended = Some []
taken_by ReadFailed = Some []
taken_by e = None

-- A write put these bytes out.
abbrev pub written_by : Event → Option (List ℕ)
written_by (Wrote bytes) = Some bytes
written_by (WriteFailed bytes) = Some bytes
written_by e = None

-- A note has these bytes.
abbrev pub noted_by : Event → Option (List ℕ)
noted_by (Noted line) = Some line
noted_by e = None

-- A call is at most one of the wire.
abbrev pub wire_by : Event → List WireEvent
wire_by (OnWire w) = w ∷ []
wire_by e = []

-- A call asks for input, by a read or for a datagram.
abbrev pub asks : Event → Bool
asks (Took bytes) = true
asks Ended = true
asks ReadFailed = true
asks (OnWire (Received r)) = true
asks e = false

-- A call gives the user a line.
abbrev pub is_note : Event → Bool
is_note (Noted line) = true
is_note e = false

-- A read met the end of the input.
abbrev pub is_end : Event → Bool
is_end Ended = true
is_end e = false

-- A read failed.
abbrev pub read_fails : Event → Bool
read_fails ReadFailed = true
read_fails e = false

-- A write failed.
abbrev pub write_fails : Event → Bool
write_fails (WriteFailed bytes) = true
write_fails e = false

-- A call for a datagram took this one of those that were left, or none.
abbrev pub arrived_by : WireEvent → Option (List (List ℕ))
arrived_by (Received (Arrived d)) = Some (d ∷ [])
arrived_by (Received r) = Some []
arrived_by w = None

-- A call for a datagram gave this answer.
abbrev pub received_by : WireEvent → Option (List Reception)
received_by (Received r) = Some (r ∷ [])
received_by w = None

-- A call to a peer sent this datagram, or none.
abbrev pub sent_by : WireEvent → Option (List Parcel)
sent_by (Offered parcel link.Sent) = Some (parcel ∷ [])
sent_by (Offered parcel answer) = Some []
sent_by w = None

-- A call to a peer got this answer of its link.
abbrev pub replies_by : WireEvent → Option (List Reply)
replies_by (Offered parcel answer) = Some (record { peer = parcel.peer; answer = answer } ∷ [])
replies_by w = None

-- A call that names the local address bound this one, or none.
abbrev pub bound_by : WireEvent → Option (List (List ℕ))
bound_by (Bound text true) = Some (text ∷ [])
bound_by (Bound text false) = Some []
bound_by (Joined text done) = Some []
bound_by w = None

-- A call that adds a peer joined this address, or none.
abbrev pub joined_by : WireEvent → Option (List (List ℕ))
joined_by (Joined text true) = Some (text ∷ [])
joined_by (Joined text false) = Some []
joined_by (Bound text done) = Some []
joined_by w = None

-- A call adds this number of peers.
abbrev pub peers_by : WireEvent → ℕ
peers_by (Joined text true) = 1
peers_by w = 0

-- An answer has at most one datagram.
abbrev pub datagram_in : Reception → List (List ℕ)
datagram_in (Arrived d) = d ∷ []
datagram_in r = []

-- A call of the wire gives at most one answer to a call for a datagram.
abbrev pub receptions_by : WireEvent → List Reception
receptions_by (Received r) = r ∷ []
receptions_by w = []

-- A call of the wire brings in at most one datagram.
abbrev pub arrivals_by : WireEvent → List (List ℕ)
arrivals_by (Received r) = datagram_in r
arrivals_by w = []

-- A call of the wire sends at most one datagram.
abbrev pub parcels_by : WireEvent → List Parcel
parcels_by (Offered parcel link.Sent) = parcel ∷ []
parcels_by w = []

-- A call of the wire gets at most one answer of a link.
abbrev pub answers_by : WireEvent → List Reply
answers_by (Offered parcel answer) = record { peer = parcel.peer; answer = answer } ∷ []
answers_by w = []

-- A call other than one to a peer failed.
abbrev pub wire_fails : WireEvent → Bool
wire_fails (Received Failed) = true
wire_fails (Bound text false) = true
wire_fails (Joined text false) = true
wire_fails w = false

-- A call that names an address failed.
abbrev pub name_fails : WireEvent → Bool
name_fails (Bound text false) = true
name_fails (Joined text false) = true
name_fails w = false

-- A call to this peer failed.
abbrev pub peer_fails : ℕ → WireEvent → Bool
peer_fails peer (Offered parcel link.Failed) = parcel.peer == peer
peer_fails peer w = false
