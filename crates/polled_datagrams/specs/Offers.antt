-- The calls of one poll, and what calls of the wire mean to each peer.
use Rattle.std.specs.Prelude.{◌==◌, ℕ, List, [], ◌∷◌, if◌then◌else◌}
use Rattle.wire_model.specs.LinkAnswers.{LinkAnswer, Sent, NotReady, Failed}
use Rattle.scl_outside.specs.Meaning.{Parcel, Reply}
use Rattle.scl_outside.specs.Events.{Event, WireEvent, Offered, OnWire}
use Rattle.scl_outside.specs.WireAnswers.{parcel}

-- The datagrams of a queue are offered from its front, one for each answer, until the link isn't ready.
abbrev pub offers : ℕ → List (List ℕ) → List LinkAnswer → List WireEvent
offers peer [] answers = []
offers peer (d ∷ q) [] = []
offers peer (d ∷ q) (Sent ∷ answers) = Offered (parcel peer d) Sent ∷ offers peer q answers
offers peer (d ∷ q) (Failed ∷ answers) = Offered (parcel peer d) Failed ∷ offers peer q answers
offers peer (d ∷ q) (NotReady ∷ answers) = Offered (parcel peer d) NotReady ∷ []

-- Calls of the wire are calls of the outside.
abbrev pub on_wire : List WireEvent → List Event
on_wire [] = []
on_wire (w ∷ ws) = OnWire w ∷ on_wire ws

-- Among replies, the link of this peer gave these answers.
abbrev pub answers_to : ℕ → List Reply → List LinkAnswer
answers_to peer [] = []
answers_to peer (r ∷ rs) = if r.peer == peer then r.answer ∷ answers_to peer rs else answers_to peer rs

-- Among parcels, these datagrams are for this peer.
abbrev pub sent_to : ℕ → List Parcel → List (List ℕ)
sent_to peer [] = []
sent_to peer (p ∷ ps) = if p.peer == peer then p.bytes ∷ sent_to peer ps else sent_to peer ps

-- These are the replies of one peer's link.
abbrev pub replies_of : ℕ → List LinkAnswer → List Reply
replies_of peer [] = []
replies_of peer (a ∷ answers) = record { peer = peer; answer = a } ∷ replies_of peer answers

-- These datagrams are parcels for one peer.
abbrev pub parcels_of : ℕ → List (List ℕ) → List Parcel
parcels_of peer [] = []
parcels_of peer (d ∷ ds) = parcel peer d ∷ parcels_of peer ds
