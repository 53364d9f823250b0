-- A stream: datagrams of one source that carry accepted codestreams (this project's profile after RFC 9828).
use Rattle.std.specs.Prelude.{◌≡◌, ◌<◌, ◌+◌, ◌-◌, ◌*◌, ◌%◌, ◌^◌, ◌==◌, ◌++◌, ℕ, List, [], ◌∷◌, map, length, take, nat_le, nat_lt, slice_get, Some, if◌then◌else◌}
use Rattle.std.specs.List.{AllByRecursion, AllZip, IsDistinct, flat_map, sum_by, count_by, range_with_len, enumerate_from}
use Rattle.wire_model.specs.Payload.{PayloadFields, Main, Body}
use Rattle.wire_model.specs.Datagram.{Datagram, IsDatagram}
use Rattle.codestream_model.specs.Values.{Head, Place}
use Rattle.codestream_model.specs.MainHeader.{SpellsHead}
use Rattle.codestream_model.specs.PacketOrder.{pid, IsPacketOrder}
use Rattle.codestream_model.specs.Packet.{Content, SpellsPacket}
use Rattle.codestream_model.specs.Codestream.{IsPsotRight, joined}
use Rattle.stream_model.specs.Reached.{CarriedPacket, Carried}

-- The parts of a codestream: the values and the bytes of its main header, and in the packet order the precincts, what
-- their packets say, and the packets.
pub record Parts : Type 0 where
  pub head : Head
  pub header : List ℕ
  pub places : List Place
  pub content : List Content
  pub packets : List (List ℕ)

-- These are packets of these precincts that say this, one for each.
abbrev pub ArePackets : Head → List Place → List Content → List (List ℕ) → Type 0
ArePackets h [] [] [] = Unit {0}
ArePackets h (p ∷ places) (x ∷ content) (b ∷ packets) = SpellsPacket h p x b × ArePackets h places content packets
ArePackets h places content packets = ⊥

-- The bytes of a codestream after SOD: the packets, and EOC.
abbrev pub bytes_after_sod : Parts → List ℕ
bytes_after_sod c = joined c.packets ++ 255 ∷ 217 ∷ []

-- These are the parts of an accepted codestream; the law `PartsAreOfCodestreams` says so.
pub record ArePartsOf (c : Parts) (codestream : List ℕ) : Type 0 where
  pub is_head : SpellsHead c.head c.header
  pub order : IsPacketOrder c.head c.places
  pub are_packets : ArePackets c.head c.places c.content c.packets
  pub psot : IsPsotRight c.head (length c.header + length (joined c.packets))
  pub whole : codestream ≡ c.header ++ bytes_after_sod c

-- The offset of a packet in the bytes after SOD: the lengths of the packets before it.
abbrev pub packet_start : Parts → ℕ → ℕ
packet_start c precinct = sum_by (λ b. length b) (take precinct c.packets)

-- What is sent of a codestream: its parts, its stamp, its Main, and its Bodies in order.
pub record Sent : Type 0 where
  pub parts : Parts
  pub stamp : ℕ
  pub main : Datagram
  pub bodies : List Datagram

-- The datagrams of a codestream.
abbrev pub datagrams_of : Sent → List Datagram
datagrams_of s = s.main ∷ s.bodies

-- The datagram is a Main.
abbrev pub IsMainPayload : PayloadFields → Type 0
IsMainPayload (Main h) = Unit {0}
IsMainPayload (Body h) = ⊥

-- The datagram is a Body.
abbrev pub IsBodyPayload : PayloadFields → Type 0
IsBodyPayload (Main h) = ⊥
IsBodyPayload (Body h) = Unit {0}

-- ESEQ, the high byte of the extended number.
abbrev pub eseq_of : PayloadFields → ℕ
eseq_of (Main h) = h.eseq
eseq_of (Body h) = h.eseq

-- The extended number of a datagram: ESEQ and the sequence number.
abbrev pub extended_number : Datagram → ℕ
extended_number x = eseq_of x.payload * 65536 + x.rtp.number

-- The offset of a Body's payload in the bytes after SOD: the lengths of the payloads before it.
abbrev pub payload_start : List Datagram → ℕ → ℕ
payload_start bodies body = sum_by (λ x. length x.codestream) (take body bodies)

-- A mark of a stream: the number of its Body in the codestream, the offset after SOD that POS names, and PID.
pub record Mark : Type 0 where
  pub body : ℕ
  pub place : ℕ
  pub pid : ℕ

-- The mark of a Body, where ORDB is 1.
abbrev pub mark_of : ℕ → ℕ → PayloadFields → List Mark
mark_of body start (Main h) = []
mark_of body start (Body h) = if h.ordb then record { body = body; place = start + h.pos; pid = h.pid } ∷ [] else []

-- The marks of the Bodies of a codestream.
abbrev pub marks : List Datagram → List Mark
marks bodies = flat_map (λ x. mark_of x.0 (payload_start bodies x.0) x.1.payload) (enumerate_from 0 bodies)

-- A mark is right: the first byte of a packet is at its offset, and its PID is that of the packet's precinct.
pub record IsResync (c : Parts) (m : Mark) : Type 0 where
  pub precinct : ℕ
  pub place : Place
  pub has : slice_get c.places precinct ≡ Some place
  pub starts : m.place ≡ packet_start c precinct
  pub names : m.pid ≡ pid c.head place

-- A codestream is carried: the Main has its main header, the Bodies joined have the bytes after SOD, all have one
-- stamp, and each mark is right.
pub record Carries (s : Sent) : Type 0 where
  pub main : IsMainPayload s.main.payload
  pub header : s.main.codestream ≡ s.parts.header
  pub bodies : AllByRecursion (λ x. IsBodyPayload x.payload) s.bodies
  pub bytes : flat_map (λ x. x.codestream) s.bodies ≡ bytes_after_sod s.parts
  pub stamps : AllByRecursion (λ x. x.rtp.stamp ≡ s.stamp) (datagrams_of s)
  pub marks : AllByRecursion (IsResync s.parts) (marks s.bodies)

-- The datagrams are a stream that sends this: fewer than 2^23 datagrams of one source and one payload type, whose extended
-- numbers count up from a first one modulo 2^24, and which carry the codestreams, each with a stamp of its own.
pub record Carry (sent : List Sent) (codestreams datagrams : List (List ℕ)) : Type 0 where
  pub source : ℕ
  pub kind : ℕ
  pub number : ℕ
  pub are_parts : AllZip (λ s codestream. ArePartsOf s.parts codestream) sent codestreams
  pub each : AllByRecursion Carries sent
  pub apart : IsDistinct (λ a b. a == b) (map (λ s. s.stamp) sent)
  pub are_datagrams : AllZip IsDatagram (flat_map datagrams_of sent) datagrams
  pub few : length datagrams < 2 ^ 23
  pub one_source : AllByRecursion (λ x. (x.rtp.source ≡ source) × (x.rtp.kind ≡ kind)) (flat_map datagrams_of sent)
  pub numbers : map extended_number (flat_map datagrams_of sent) ≡ map (λ i. (number + i) % 2 ^ 24) (range_with_len 0 (length datagrams))

-- The datagrams are a stream that carries these codestreams.
abbrev pub IsStream : List (List ℕ) → List (List ℕ) → Type 0
IsStream codestreams datagrams = (sent : List Sent) × Carry sent codestreams datagrams

-- The number of the Body that has the byte at an offset after SOD: the number of Bodies that end at or before it.
abbrev pub body_with : List Datagram → ℕ → ℕ
body_with bodies place = count_by (λ body. nat_le (payload_start bodies (body + 1)) place) (range_with_len 0 (length bodies))

-- The number of the precinct whose packet begins at an offset after SOD: the number of packets that begin before it.
abbrev pub precinct_at : Parts → ℕ → ℕ
precinct_at c place = count_by (λ precinct. nat_lt (packet_start c precinct) place) (range_with_len 0 (length c.packets))

-- Where the packet of a precinct is in a stream, after a Main at this position.
abbrev pub packet_span : Sent → ℕ → ℕ → CarriedPacket
packet_span s main precinct = record {
  first = main + 1 + body_with s.bodies (packet_start s.parts precinct);
  last = main + 1 + body_with s.bodies (packet_start s.parts (precinct + 1) - 1);
}

-- How a codestream lies in a stream whose Main has this position.
abbrev pub carried_at : ℕ → Sent → Carried
carried_at main s = record {
  stamp = s.stamp;
  main = main;
  packets = map (packet_span s main) (range_with_len 0 (length s.parts.packets));
  resyncs = record { at = main; precinct = 0 } ∷ map (λ m. record { at = main + 1 + m.body; precinct = precinct_at s.parts m.place }) (marks s.bodies);
}

-- The position of a codestream's Main: the number of datagrams of those before it.
abbrev pub main_position : List Sent → ℕ → ℕ
main_position sent codestream = sum_by (λ s. length (datagrams_of s)) (take codestream sent)

-- How the codestreams of a stream lie in it.
abbrev pub carried : List Sent → List Carried
carried sent = map (λ x. carried_at (main_position sent x.0) x.1) (enumerate_from 0 sent)
