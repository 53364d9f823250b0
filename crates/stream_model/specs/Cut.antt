-- How our sender cuts codestreams into datagrams (this project's own choice), and what the bytes of an input already fix of that.
use Rattle.std.specs.Prelude.{◌≡◌, ◌<◌, ◌≤◌, ◌⊎◌, ◌+◌, ◌-◌, ◌*◌, ◌/◌, ◌%◌, ◌^◌, ◌==◌, ◌&&◌, ◌++◌, ℕ, min, Bool, true, false, not, List, [], ◌∷◌, map, length, take, slice_range, nat_le, nat_lt, if◌then◌else◌}
use Rattle.std.specs.List.{AllZip, filter, flat_map, fold, sum_by, take_while, zip, range_with_len, enumerate_from}
use Rattle.wire_model.specs.Bytes.{bit}
use Rattle.wire_model.specs.Rtp.{RtpFields, fixed_header}
use Rattle.wire_model.specs.Payload.{BodyFields, PayloadFields, Main, Body}
use Rattle.wire_model.specs.Datagram.{Datagram}
use Rattle.codestream_model.specs.Values.{Head, Place}
use Rattle.codestream_model.specs.Precincts.{grids}
use Rattle.codestream_model.specs.MainHeader.{SpellsHead}
use Rattle.codestream_model.specs.PacketOrder.{pid, IsPacketOrder}
use Rattle.codestream_model.specs.Packet.{Content, SpellsPacket, LacksSegments}
use Rattle.codestream_model.specs.Codestream.{IsCodestream, joined}
use Rattle.stream_model.specs.Stream.{Parts, ArePackets, ArePartsOf, Sent, datagrams_of}

-- What a sender is asked for: the size of its greatest datagram, whether a change of resolution ends a payload, the
-- payload type, the source, the first extended number, the first stamp, and the step from one stamp to the next.
pub record Plan : Type 0 where
  pub mtu : ℕ
  pub split : Bool
  pub kind : ℕ
  pub source : ℕ
  pub number : ℕ
  pub stamp : ℕ
  pub step : ℕ

-- Each value of a plan is in its range.
pub record IsPlan (p : Plan) : Type 0 where
  pub least_mtu : 64 ≤ p.mtu
  pub greatest_mtu : p.mtu ≤ 4116
  pub kind : p.kind < 2 ^ 7
  pub source : p.source < 2 ^ 32
  pub number : p.number < 2 ^ 24
  pub stamp : p.stamp < 2 ^ 32
  pub some_step : 1 ≤ p.step
  pub step : p.step < 2 ^ 16

-- The number of codestream bytes that a datagram has room for, after 12 bytes of RTP and 8 of the payload header.
abbrev pub room : Plan → ℕ
room p = p.mtu - 20

-- The packet of a precinct, or the prefix of it that is there.
pub record Piece : Type 0 where
  pub place : Place
  pub bytes : List ℕ

-- What is there of a codestream: its main header, the packets or their prefixes, and whether EOC is there, as the end
-- of all.
pub record Known : Type 0 where
  pub head : Head
  pub header : List ℕ
  pub pieces : List Piece
  pub ended : Bool

-- Packets with their precincts.
abbrev pub pieces_of : List Place → List (List ℕ) → List Piece
pieces_of places packets = map (λ x. record { place = x.0; bytes = x.1 }) (zip places packets)

-- A codestream of which everything is there.
abbrev pub known_of : Parts → Known
known_of c = record { head = c.head; header = c.header; pieces = pieces_of c.places c.packets; ended = true }

-- A packet's bytes put before those that follow them without a break.
abbrev pub onto_first : List ℕ → List (List ℕ) → List (List ℕ)
onto_first bytes [] = bytes ∷ []
onto_first bytes (stretch ∷ more) = (bytes ++ stretch) ∷ more

-- The stretches in which no payload has to end: all packets joined, or in `split` mode those that follow each other
-- with one resolution.
abbrev pub stretches : Bool → List Piece → List (List ℕ)
stretches split [] = []
stretches split (x ∷ []) = x.bytes ∷ []
stretches split (x ∷ y ∷ more) =
    if split && not (x.place.r == y.place.r)
    then x.bytes ∷ stretches split (y ∷ more)
    else onto_first x.bytes (stretches split (y ∷ more))

-- The stretches, with EOC joined to the last one.
abbrev pub with_eoc : List (List ℕ) → List (List ℕ)
with_eoc [] = (255 ∷ 217 ∷ []) ∷ []
with_eoc (stretch ∷ []) = (stretch ++ 255 ∷ 217 ∷ []) ∷ []
with_eoc (stretch ∷ next ∷ more) = stretch ∷ with_eoc (next ∷ more)

-- A stretch in payloads that are as long as they can be: each has as many bytes as there is room for, and the last what
-- is left.
abbrev pub chunks : ℕ → List ℕ → List (List ℕ)
chunks room bytes = map (λ i. slice_range bytes (i * room) (i * room + room)) (range_with_len 0 ((length bytes + room - 1) / room))

-- The payloads that are closed before EOC is there: all of the stretches that another one follows, and of the last the
-- full ones.
abbrev pub closed_payloads : ℕ → List (List ℕ) → List (List ℕ)
closed_payloads room [] = []
closed_payloads room (stretch ∷ []) = filter (λ payload. length payload == room) (chunks room stretch)
closed_payloads room (stretch ∷ next ∷ more) = chunks room stretch ++ closed_payloads room (next ∷ more)

-- The payloads of the Bodies of a codestream.
abbrev pub payloads : Plan → Known → List (List ℕ)
payloads p c =
    if c.ended
    then flat_map (chunks (room p)) (with_eoc (stretches p.split c.pieces))
    else closed_payloads (room p) (stretches p.split c.pieces)

-- The offset of a packet after SOD: the lengths of those before it.
abbrev pub piece_start : List Piece → ℕ → ℕ
piece_start pieces i = sum_by (λ x. length x.bytes) (take i pieces)

-- The offset of a payload after SOD: the lengths of those before it.
abbrev pub payload_place : List (List ℕ) → ℕ → ℕ
payload_place payloads i = sum_by (λ b. length b) (take i payloads)

-- The packets that have a byte between two offsets, with their numbers.
abbrev pub touched : List Piece → ℕ → ℕ → List (ℕ × Piece)
touched pieces from to = filter (λ x. nat_lt (piece_start pieces x.0) to && nat_lt from (piece_start pieces (x.0 + 1))) (enumerate_from 0 pieces)

-- The packets that start between two offsets, with their numbers.
abbrev pub started : List Piece → ℕ → ℕ → List (ℕ × Piece)
started pieces from to = filter (λ x. nat_le from (piece_start pieces x.0) && nat_lt (piece_start pieces x.0) to) (enumerate_from 0 pieces)

-- RES of a resolution: 7 for the highest, one less for each lower one, and 0 where that isn't at least 1.
abbrev pub resolution_code : ℕ → ℕ → ℕ
resolution_code resolution levels = resolution + 7 - levels

-- RES of a payload: that of the lowest resolution of the packets that have a byte in it, and 0 where EOC is alone.
abbrev pub res_of : ℕ → List (ℕ × Piece) → ℕ
res_of levels [] = 0
res_of levels (x ∷ more) = resolution_code (fold min x.1.place.r (map (λ y. y.1.place.r) more)) levels

-- The Body header of a payload: ORDB is 1 where a packet starts in it, and POS and PID are those of the first that
-- does.
abbrev pub body_header : Known → ℕ → ℕ → ℕ → List (ℕ × Piece) → BodyFields
body_header c eseq res from [] = record { res = res; eseq = eseq; ordb = false; pos = 0; pid = 0 }
body_header c eseq res from (x ∷ more) = record { res = res; eseq = eseq; ordb = true; pos = piece_start c.pieces x.0 - from; pid = pid c.head x.1.place }

-- The extended number of the datagram at a position of the stream.
abbrev pub number_at : Plan → ℕ → ℕ
number_at p position = (p.number + position) % 2 ^ 24

-- The RTP header of the datagram at a position of the stream.
abbrev pub rtp_at : Plan → ℕ → ℕ → Bool → RtpFields
rtp_at p stamp position marker = record { marker = marker; kind = p.kind; number = number_at p position % 2 ^ 16; stamp = stamp; source = p.source }

-- ORDH of a main header, by its packet order: 3 for RPCL and 4 for PCRL (RFC 9828).
abbrev pub ordh_of : Head → ℕ
ordh_of h = if h.order == 2 then 3 else 4

-- The Main of a codestream.
abbrev pub main_at : Plan → ℕ → ℕ → Known → Datagram
main_at p stamp position c = record {
  rtp = rtp_at p stamp position false;
  payload = Main (record { ordh = ordh_of c.head; eseq = number_at p position / 2 ^ 16; xtrac = 0 });
  codestream = c.header;
}

-- A Body that has the codestream bytes between two offsets after SOD.
abbrev pub body_at : Plan → ℕ → ℕ → Known → Bool → ℕ → List ℕ → Datagram
body_at p stamp position c marker from payload = record {
  rtp = rtp_at p stamp position marker;
  payload = Body (body_header c (number_at p position / 2 ^ 16) (res_of c.head.levels (touched c.pieces from (from + length payload))) from (started c.pieces from (from + length payload)));
  codestream = payload;
}

-- The Bodies of a codestream whose Main has this position; M is 1 on the last datagram of the codestream.
abbrev pub bodies_at : Plan → ℕ → ℕ → Known → List Datagram
bodies_at p stamp position c =
    map (λ x. body_at p stamp (position + 1 + x.0) c (c.ended && (x.0 + 1 == length (payloads p c))) (payload_place (payloads p c) x.0) x.1)
    (enumerate_from 0 (payloads p c))

-- The stamp of a codestream by its number.
abbrev pub stamp_at : Plan → ℕ → ℕ
stamp_at p codestream = (p.stamp + codestream * p.step) % 2 ^ 32

-- The position of a codestream's Main: a Main and its Bodies for each codestream before it.
abbrev pub position_of : Plan → List Known → ℕ → ℕ
position_of p known codestream = sum_by (λ c. 1 + length (payloads p c)) (take codestream known)

-- The datagrams of codestreams, as far as what is there of them fixes them.
abbrev pub datagrams_by : Plan → List Known → List Datagram
datagrams_by p known =
    flat_map (λ x. main_at p (stamp_at p x.0) (position_of p known x.0) x.1 ∷ bodies_at p (stamp_at p x.0) (position_of p known x.0) x.1)
    (enumerate_from 0 known)

-- What the cut sends of codestreams.
abbrev pub sent_by : Plan → List Parts → List Sent
sent_by p parts =
    map (λ x. record {
      parts = x.1;
      stamp = stamp_at p x.0;
      main = main_at p (stamp_at p x.0) (position_of p (map known_of parts) x.0) (known_of x.1);
      bodies = bodies_at p (stamp_at p x.0) (position_of p (map known_of parts) x.0) (known_of x.1);
    })
    (enumerate_from 0 parts)

-- The payload header as our sender writes it: MH 3 in a Main, and all fields that it doesn't name 0.
abbrev pub payload_header : PayloadFields → List ℕ
payload_header (Main h) = (192 + h.ordh) ∷ 0 ∷ 0 ∷ h.eseq ∷ 0 ∷ 0 ∷ 0 ∷ 0 ∷ []
payload_header (Body h) = h.res ∷ (bit h.ordb * 128) ∷ 0 ∷ h.eseq ∷ (h.pos / 16) ∷ (h.pos % 16 * 16 + h.pid / 65536) ∷ (h.pid / 256 % 256) ∷ (h.pid % 256) ∷ []

-- The bytes of a datagram as our sender writes them: no CSRC, no extension and no padding.
abbrev pub datagram_bytes : Datagram → List ℕ
datagram_bytes x = fixed_header x.rtp false false 0 ++ (payload_header x.payload ++ x.codestream)

-- The datagrams are the cut of these codestreams.
abbrev pub IsCut : Plan → List (List ℕ) → List (List ℕ) → Type 0
IsCut p codestreams datagrams =
    (parts : List Parts) × AllZip (λ c codestream. ArePartsOf c codestream) parts codestreams
    × (datagrams ≡ map datagram_bytes (flat_map datagrams_of (sent_by p parts)))

-- What is there of the packets from a precinct on: the prefix of its packet, as far as it goes, once its header is
-- whole, and else nothing. A whole packet isn't there.
abbrev pub IsOpened : Head → List Place → List ℕ → List Piece → Type 0
IsOpened h [] bytes opened = opened ≡ []
IsOpened h (p ∷ later) bytes opened =
    (LacksSegments h p bytes × (opened ≡ record { place = p; bytes = bytes } ∷ []))
    ⊎ ((LacksSegments h p bytes → ⊥)
    × ((x : Content) (packet more : List ℕ) → SpellsPacket h p x packet → bytes ≡ packet ++ more → ⊥)
    × (opened ≡ []))

-- The bytes begin with a main header and packets, and this is what is there of the codestream before its end.
pub record Begins (c : Known) (bytes : List ℕ) : Type 0 where
  pub before : List Place
  pub later : List Place
  pub content : List Content
  pub packets : List (List ℕ)
  pub rest : List ℕ
  pub opened : List Piece
  pub is_head : SpellsHead c.head c.header
  pub order : IsPacketOrder c.head (before ++ later)
  pub are_packets : ArePackets c.head before content packets
  pub whole : bytes ≡ c.header ++ (joined packets ++ rest)
  pub is_opened : IsOpened c.head later rest opened
  pub pieces : c.pieces ≡ pieces_of before packets ++ opened
  pub unended : c.ended ≡ false

-- The bytes begin with no whole codestream.
abbrev pub HasNoCodestream : List ℕ → Type 0
HasNoCodestream bytes = (codestream more : List ℕ) → IsCodestream codestream → bytes ≡ codestream ++ more → ⊥

-- The bytes begin with no whole main header.
abbrev pub HasNoHead : List ℕ → Type 0
HasNoHead bytes = (h : Head) (header more : List ℕ) → SpellsHead h header → bytes ≡ header ++ more → ⊥

-- What is there of a codestream after n whole ones: nothing where n is the greatest number of them, or where the main
-- header isn't whole.
abbrev pub IsNext : ℕ → List ℕ → List Known → Type 0
IsNext codestreams rest next =
    ((codestreams ≡ 65536) × (next ≡ []))
    ⊎ ((codestreams < 65536) × HasNoCodestream rest
    × (((c : Known) × Begins c rest × (next ≡ c ∷ [])) ⊎ (HasNoHead rest × (next ≡ []))))

-- The codestreams before the first whose main header is too long for a datagram.
abbrev pub sendable : Plan → List Known → List Known
sendable p known = take_while (λ c. nat_le (length c.header) (room p)) known

-- The datagrams that the bytes of an input already fix: those of the whole codestreams at its front, and of what is there of the
-- next; at most 65,536 codestreams and at most 8,388,607 datagrams.
pub record Closed (p : Plan) (bytes : List ℕ) (datagrams : List (List ℕ)) : Type 0 where
  pub codestreams : List (List ℕ)
  pub parts : List Parts
  pub rest : List ℕ
  pub next : List Known
  pub whole : bytes ≡ joined codestreams ++ rest
  pub are_parts : AllZip (λ c codestream. ArePartsOf c codestream) parts codestreams
  pub few : length codestreams ≤ 65536
  pub is_next : IsNext (length codestreams) rest next
  pub fixed : datagrams ≡ map datagram_bytes (take 8388607 (datagrams_by p (sendable p (map known_of parts ++ next))))
