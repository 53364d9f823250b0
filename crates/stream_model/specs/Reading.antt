-- What a precinct that is written has to do with the datagrams that came, be they forged or not.
use Rattle.std.specs.Prelude.{◌≡◌, ◌+◌, ◌%◌, ◌^◌, ◌⊎◌, ◌++◌, ℕ, true, List, [], ◌∷◌, length, Contains}
use Rattle.std.specs.List.{AllByRecursion, flat_map}
use Rattle.codestream_model.specs.Values.{Head, Place}
use Rattle.codestream_model.specs.MainHeader.{SpellsHead}
use Rattle.codestream_model.specs.PacketOrder.{pid, IsPacketOrder}
use Rattle.codestream_model.specs.Packet.{Content}
use Rattle.codestream_model.specs.Codestream.{SpellsPackets}
use Rattle.wire_model.specs.Payload.{PayloadFields, BodyFields, Main, Body}
use Rattle.wire_model.specs.Datagram.{Datagram, IsDatagram}
use Rattle.stream_model.specs.Stream.{IsMainPayload, IsBodyPayload, extended_number}

-- A datagram is among the frames.
abbrev pub IsAmong : List (List ℕ) → Datagram → Type 0
IsAmong frames x = (bytes : List ℕ) × Contains frames bytes × IsDatagram x bytes

-- The datagram is a Body with these values.
abbrev pub IsBodyWith : BodyFields → PayloadFields → Type 0
IsBodyWith g (Main h) = ⊥
IsBodyWith g (Body h) = h ≡ g

-- The datagrams have consecutive numbers from this one on, modulo 2^24.
abbrev pub FollowFrom : ℕ → List Datagram → Type 0
FollowFrom number [] = Unit {0}
FollowFrom number (x ∷ xs) = (extended_number x ≡ number) × FollowFrom ((number + 1) % 2 ^ 24) xs

-- The offset from which Bodies are read, counted from the first one's start, and the first precinct there: where POS of
-- the first Body is, with its PID; or its start, where it follows the Main, with the first precinct of the order.
abbrev pub StartsAt : Head → List Place → Datagram → Datagram → ℕ → Place → Type 0
StartsAt h order main first at p =
    ((g : BodyFields) × IsBodyWith g first.payload × (g.ordb ≡ true) × (g.pos ≡ at) × (pid h p ≡ g.pid))
    ⊎ ((at ≡ 0) × (extended_number first ≡ (extended_number main + 1) % 2 ^ 24) × ((later : List Place) × (order ≡ p ∷ later)))

-- Among the frames there are a Main of the stamp with an accepted header, and Bodies of the stamp with consecutive numbers,
-- whose bytes, joined, hold from one place on the packets of precincts that follow one another in the order; the last of them
-- is this precinct with this content.
pub record IsReading (frames : List (List ℕ)) (stamp : ℕ) (p : Place) (content : Content) : Type 0 where
  pub main : Datagram
  pub first : Datagram
  pub others : List Datagram
  pub head : Head
  pub before : List Place
  pub start : Place
  pub places : List Place
  pub after : List Place
  pub said : List Content
  pub at : ℕ
  pub skipped : List ℕ
  pub packets : List ℕ
  pub rest : List ℕ
  pub main_came : IsAmong frames main
  pub is_main : IsMainPayload main.payload
  pub main_stamp : main.rtp.stamp ≡ stamp
  pub is_head : SpellsHead head main.codestream
  pub each_came : AllByRecursion (IsAmong frames) (first ∷ others)
  pub each_body : AllByRecursion (λ x. IsBodyPayload x.payload) (first ∷ others)
  pub each_stamp : AllByRecursion (λ x. x.rtp.stamp ≡ stamp) (first ∷ others)
  pub consecutive : FollowFrom (extended_number first) (first ∷ others)
  pub order : IsPacketOrder head (before ++ (places ++ p ∷ after))
  pub starts : StartsAt head (before ++ (places ++ p ∷ after)) main first at start
  pub first_place : (later : List Place) × (places ++ p ∷ [] ≡ start ∷ later)
  pub joined : flat_map (λ x. x.codestream) (first ∷ others) ≡ skipped ++ (packets ++ rest)
  pub from : length skipped ≡ at
  pub are_packets : SpellsPackets head (places ++ p ∷ []) (said ++ content ∷ []) packets
