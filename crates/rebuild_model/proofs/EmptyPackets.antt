-- Empty packets, and codestreams with empty packets in place of some.
use Rattle.std.proofs.Common.{◌≡◌, ◌≤◌, ◌+◌, ℕ, Bool, true, false, List, [], ◌∷◌, map, length, refl, sym, inl, arith, if◌then◌else◌}
use Rattle.std.specs.List.{flat_map, enumerate_from}
use Rattle.std.proofs.lemmas.List.{append-nil}
use Rattle.codestream_model.specs.Values.{Head, Place}
use Rattle.codestream_model.specs.Packet.{Content, HasFewBlocks, SpellsPacket}
use Rattle.codestream_model.specs.PacketOrder.{IsPacketOrder}
use Rattle.codestream_model.specs.Codestream.{SpellsPackets}
use Rattle.codestream_model.specs.Precincts.{grids, IsPrecinct}
use Rattle.codestream_model.proofs.EmptyLemmas.{empty_packet as empty_is_read}
use Rattle.stream_model.specs.Stream.{ArePackets}
use Rattle.rebuild_model.specs.Stripping.{stripped}
use Rattle.rebuild_model.specs.StrippingLaws.{stripped_values}
use Rattle.rebuild_model.specs.Rebuilding.{empty_packet, packet_if}
use Rattle.rebuild_model.specs.RebuildingLaws.{no_blocks, EmptyPacketIsPacket, SomePacketsAreAccepted}
use Rattle.rebuild_model.proofs.Stripped.{stripped_is_head}

-- an empty packet has at most three bytes
empty_short : (h : Head) → length (empty_packet h) ≤ 3
empty_short h = elim h.eph as (λ b. length {A = ℕ} (0 ∷ (if b then 255 ∷ 146 ∷ [] else [])) ≤ 3) [
  | true ↦ omega arith
  | false ↦ omega arith
]

-- the empty packet is a packet of each precinct
pub empty_packet_is_packet : EmptyPacketIsPacket
empty_packet_is_packet h p few = record {
  header = empty_packet h;
  few_blocks = few;
  is_header = record { header = 0 ∷ []; is_header = (empty_is_read (grids h p) 0 [] (omega arith)).1; whole = refl };
  segments = refl;
  whole = sym (append-nil (empty_packet h));
  short = omega (arith, empty_short h);
}

-- what a packet says, or nothing
abbrev content_if : (ℕ → Bool) → ℕ × Content → Content
content_if test x = if test x.0 then x.1 else no_blocks

-- a packet that is there or empty is a packet, under the values of the stripped header
packet_or_empty : (h g : Head) (p : Place) (x : Content) (b : List ℕ) (there : Bool) → SpellsPacket g p x b → HasFewBlocks g p → g.eph ≡ h.eph
    → SpellsPacket g p (if there then x else no_blocks) (if there then b else empty_packet h)
packet_or_empty h g p x b true s few e = s
packet_or_empty h g p x b false s few e = rw (sym e) (empty_packet_is_packet g p few)

-- so with all packets
some_packets : (c : Head) (sot : ℕ) (header : List ℕ) (test : ℕ → Bool) (k : ℕ) (places : List Place) (content : List Content) (packets : List (List ℕ)) → ArePackets c places content packets
    → SpellsPackets (stripped_values c sot header) places (map (content_if test) (enumerate_from k content)) (flat_map (packet_if c test) (enumerate_from k packets))
some_packets c sot header test k [] [] [] a = refl
some_packets c sot header test k [] [] (b ∷ packets) a = absurd a
some_packets c sot header test k [] (x ∷ content) packets a = absurd a
some_packets c sot header test k (p ∷ places) [] packets a = absurd a
some_packets c sot header test k (p ∷ places) (x ∷ content) [] a = absurd a
some_packets c sot header test k (p ∷ places) (x ∷ content) (b ∷ packets) a =
    let s : SpellsPacket (stripped_values c sot header) p x b = record { header = a.0.header; few_blocks = a.0.few_blocks; is_header = a.0.is_header; segments = a.0.segments; whole = a.0.whole; short = a.0.short } in (
      packet_if c test (k, b),
      flat_map (packet_if c test) (enumerate_from (k + 1) packets),
      packet_or_empty c (stripped_values c sot header) p x b (test k) s a.0.few_blocks refl,
      some_packets c sot header test (k + 1) places content packets a.1,
      refl,
    )

-- the precincts of a stripped header are those of the header
same_precinct : (h : Head) (sot : ℕ) (header : List ℕ) (p : Place) → IsPrecinct h p → IsPrecinct (stripped_values h sot header) p
same_precinct h sot header p i = record { component = i.component; resolution = i.resolution; number = i.number }

stripped_precinct : (h : Head) (sot : ℕ) (header : List ℕ) (p : Place) → IsPrecinct (stripped_values h sot header) p → IsPrecinct h p
stripped_precinct h sot header p i = record { component = i.component; resolution = i.resolution; number = i.number }

-- and so is their order
pub stripped_order : (h : Head) (sot : ℕ) (header : List ℕ) (places : List Place) → IsPacketOrder h places → IsPacketOrder (stripped_values h sot header) places
stripped_order h sot header places order = record {
  each = λ p. ((λ c. same_precinct h sot header p ((order.each p).0 c)), (λ i. (order.each p).1 (stripped_precinct h sot header p i)));
  ascending = order.ascending;
}

-- a codestream with only some of its packets is accepted
pub some_packets_are_accepted : SomePacketsAreAccepted
some_packets_are_accepted c codestream test a =
    let s = stripped_is_head c.head c.header a.is_head in (
      s.0,
      record {
        head = stripped c.header;
        places = c.places;
        packets = flat_map (packet_if c.head test) (enumerate_from 0 c.packets);
        is_head = s.1;
        order = stripped_order c.head s.0 c.header c.places a.order;
        are_packets = some_packets c.head s.0 c.header test 0 c.places c.content c.packets a.are_packets;
        psot = inl refl;
        whole = refl;
      },
    )
