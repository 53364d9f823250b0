-- A sender as its contracts see it, and what one move of it does.
use Rattle.std.specs.Prelude.{◌≡◌, ◌<◌, ◌≤◌, ◌+◌, ◌-◌, ◌/◌, ◌%◌, ◌^◌, ◌==◌, ◌&&◌, ◌||◌, ℕ, min, ◌⊎◌, Bool, true, false, not, List, [], length, take, drop, Option, Some, None, nat_lt, if◌then◌else◌}
use Rattle.wire_model.specs.Payload.{Main}
use Rattle.wire_model.specs.Datagram.{Datagram}
use Rattle.codestream_model.specs.Values.{Head}
use Rattle.codestream_model.specs.Precincts.{IsPrecinct}
use Rattle.codestream_model.specs.PacketOrder.{pid}
use Rattle.stream_model.specs.Cut.{Plan, room, number_at, rtp_at, ordh_of, datagram_bytes}
use Rattle.scl_outside.specs.Meaning.{Meaning}
use Rattle.scl_outside.specs.Events.{Event}
use Rattle.codestream_walk.specs.Walking.{Seen}
use Rattle.codestream_walk.specs.Reading.{Steps}
use Rattle.codestream_walk.specs.declared.fault.PieceOut.{PieceOut}
use Rattle.codestream_walk.specs.declared.fault.PieceOut.TheVariants as piece
use Rattle.packetiser.specs.Filling.{Filling, empty, put, put_eoc, body_of}
use Rattle.packetiser.specs.declared.packetiser.PackOut.{PackOut}
use Rattle.packetiser.specs.declared.packetiser.PackOut.TheVariants as out

-- The plan; the reader of the codestreams; the payload that is being filled, and the datagram given last; what the
-- reader gave last and isn't put in yet, the PID of its packet where none of that is put in, and whether it is EOC; the
-- resolution of the packet begun last, the decomposition levels and the timestamp of its codestream; the number of
-- datagrams given; and whether a step may be asked for.
pub record Packing : Type 0 where
  pub plan : Plan
  pub seen : Seen
  pub filling : Filling
  pub shown : List ℕ
  pub rest : List ℕ
  pub begins : Option ℕ
  pub eoc : Bool
  pub resolution : ℕ
  pub levels : ℕ
  pub stamp : ℕ
  pub given : ℕ
  pub live : Bool

-- How many of the bytes given last there is room for.
abbrev pub put_count : Packing → ℕ
put_count u = min (length u.rest) (room u.plan - length u.filling.payload)

-- The payload with bytes of EOC put in, or of the packet.
abbrev pub filled_by : Bool → Packing → List ℕ → Filling
filled_by true u bytes = put_eoc bytes u.filling
filled_by false u bytes = put u.resolution u.begins bytes u.filling

-- The first `n` bytes of what is left are put in.
abbrev pub putting : Bool → ℕ → Packing → Packing
putting eoc n u = record u {
  filling = filled_by eoc u (take n u.rest);
  shown = [];
  rest = drop n u.rest;
  begins = None;
}

-- As many bytes are put in as there is room for.
abbrev pub filled : Packing → Packing
filled u = putting u.eoc (put_count u) u

-- All of EOC is put in.
abbrev pub is_last : Packing → Bool
is_last u = u.eoc && (length u.rest == 0)

-- The payload is closed by what is in it: it is full, or EOC is in it.
abbrev pub is_closed : Packing → Bool
is_closed u = is_last u || (length u.filling.payload == room u.plan)

-- The offset in the input of the payload's first byte.
abbrev pub payload_at : Packing → ℕ
payload_at u = u.seen.walk.offset - (length u.rest + length u.filling.payload)

-- The Body of the payload; M is set on the last datagram of a codestream.
abbrev pub closing_body : Bool → Packing → Datagram
closing_body marker u = body_of u.plan u.levels u.stamp u.given marker u.filling

-- The Body of the payload is given. After the last datagram of a codestream the next timestamp is due.
abbrev pub after_closing : Bool → Packing → Packing
after_closing marker u = record u {
  filling = empty;
  shown = datagram_bytes (closing_body marker u);
  eoc = u.eoc && not marker;
  stamp = if marker then (u.stamp + u.plan.step) % 2 ^ 32 else u.stamp;
  given = u.given + 1;
}

-- The payload is closed: its Body is given, or is one too many.
abbrev pub Closes : Bool → Packing → PackOut → Packing → Type 0
Closes marker u out.Datagram v = (u.given < 8388607) × (v ≡ after_closing marker u)
Closes marker u (out.TooManyDatagrams at) v =
    (u.given ≡ 8388607) × (at ≡ payload_at u) × (v ≡ record u { live = false })
Closes marker u answer v = ⊥

-- The Main of the main header that was given last.
abbrev pub main_of : Head → Packing → Datagram
main_of h u = record {
  rtp = rtp_at u.plan u.stamp u.given false;
  payload = Main (record { ordh = ordh_of h; eseq = number_at u.plan u.given / 2 ^ 16; xtrac = 0 });
  codestream = u.seen.given;
}

-- The offset in the input of the main header that was given last.
abbrev pub header_at : Packing → ℕ
header_at u = u.seen.walk.offset - length u.seen.given

-- The Main of the main header that was given last is given.
abbrev pub after_main : Head → Packing → Packing
after_main h u = record u {
  shown = datagram_bytes (main_of h u);
  rest = [];
  resolution = 0;
  levels = h.levels;
  given = u.given + 1;
}

-- A main header was given: its Main is given, or has no room in a datagram, or is one too many.
abbrev pub Mains : Head → Packing → PackOut → Packing → Type 0
Mains h u out.Datagram v =
    (length u.seen.given ≤ room u.plan) × (u.given < 8388607) × (v ≡ after_main h u)
Mains h u (out.HeaderTooLong at) v =
    (room u.plan < length u.seen.given) × (at ≡ header_at u) × (v ≡ record u { live = false })
Mains h u (out.TooManyDatagrams at) v =
    (length u.seen.given ≤ room u.plan) × (u.given ≡ 8388607) × (at ≡ header_at u)
    × (v ≡ record u { live = false })
Mains h u answer v = ⊥

-- A packet begins: the one that the reader shows.
abbrev pub begun : Head → Packing → Packing
begun h u = record u { begins = Some (pid h u.seen.place); resolution = u.seen.place.r }

-- The payload ends before the packet that the reader shows, because its resolution is another.
abbrev pub ends_before : Packing → Bool
ends_before u =
    u.plan.split && nat_lt 0 (length u.filling.payload) && not (u.resolution == u.seen.place.r)

-- The reader shows a packet of the codestream with this main header.
pub record IsStarted (h : Head) (u : Packing) : Type 0 where
  pub shown : u.seen.head ≡ Some h
  pub is_precinct : IsPrecinct h u.seen.place
  pub levels : u.levels ≡ h.levels

-- A packet's header was given: the payload stays open, or is closed before it.
abbrev pub Starts : Head → Packing → Option PackOut → Packing → Type 0
Starts h u None v = (ends_before u ≡ false) × (v ≡ begun h u)
Starts h u (Some answer) v = (ends_before u ≡ true) × Closes false (begun h u) answer v

-- As many bytes are put in as there is room for: the payload stays open, or is closed.
abbrev pub Puts : Packing → Option PackOut → Packing → Type 0
Puts u None v = (is_closed (filled u) ≡ false) × (v ≡ filled u)
Puts u (Some answer) v = (is_closed (filled u) ≡ true) × Closes (is_last (filled u)) (filled u) answer v

-- The reader gave something: it is what is left now.
abbrev pub taken : Seen → Packing → Packing
taken w u = record u { seen = w; rest = w.given }

-- What becomes of an answer of the reader.
abbrev pub TakesPiece : PieceOut → Packing → Option PackOut → Packing → Type 0
TakesPiece piece.Head u (Some answer) v = (h : Head) → u.seen.head ≡ Some h → Mains h u answer v
TakesPiece piece.Head u None v = ⊥
TakesPiece piece.Start u answer v = (h : Head) → u.seen.head ≡ Some h → Starts h u answer v
TakesPiece piece.More u answer v = (answer ≡ None) × (v ≡ u)
TakesPiece piece.FrameEnd u answer v = (answer ≡ None) × (v ≡ record u { eoc = true })
TakesPiece piece.End u answer v = (answer ≡ Some out.End) × (v ≡ record u { live = false })
TakesPiece (piece.Refused fault) u answer v =
    (answer ≡ Some (out.Refused fault)) × (v ≡ record u { live = false })
TakesPiece piece.ReadFault u answer v =
    (answer ≡ Some out.ReadFault) × (v ≡ record u { live = false })

-- The reader made a step, and this became of its answer.
pub record Takes (u : Packing) (s t : Meaning) (answer : Option PackOut) (v : Packing) (es : List Event) : Type 0 where
  pub piece : PieceOut
  pub seen : Seen
  pub steps : Steps u.seen s t piece seen es
  pub takes : TakesPiece piece (taken seen u) answer v

-- One move of a sender: what is left of the bytes given last is put in, or, where nothing is, the reader makes a step.
abbrev pub Advances : Packing → Meaning → Meaning → Option PackOut → Packing → List Event → Type 0
Advances u s t answer v es =
    ((1 ≤ length u.rest) × (es ≡ []) × (t ≡ s) × Puts u answer v)
    ⊎ ((u.rest ≡ []) × Takes u s t answer v es)
