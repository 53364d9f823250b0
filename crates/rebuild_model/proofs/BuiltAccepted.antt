-- What is built is accepted.
use Rattle.std.proofs.Common.{◌≡◌, ℕ, List, [], ◌∷◌, refl, sym, ◌∙◌, subst, inl, inr}
use Rattle.std.specs.List.{AllByRecursion, AllZip}
use Rattle.codestream_model.specs.Values.{Head, Place}
use Rattle.codestream_model.specs.MainHeader.{SpellsHead}
use Rattle.codestream_model.specs.Packet.{Content, HasFewBlocks, SpellsPacket}
use Rattle.codestream_model.specs.Codestream.{SpellsPackets, joined}
use Rattle.codestream_model.proofs.HeaderReads.{header_is_read_one_way}
use Rattle.codestream_model.proofs.Members.{Has, contained_has}
use Rattle.stream_model.specs.ReadingLaws.{content_of}
use Rattle.rebuild_model.specs.Stripping.{stripped}
use Rattle.rebuild_model.specs.StrippingLaws.{stripped_values}
use Rattle.rebuild_model.specs.RebuildingLaws.{no_blocks, IsEmptyOrReleased, BuiltIsAccepted}
use Rattle.rebuild_model.proofs.Stripped.{stripped_is_head}
use Rattle.rebuild_model.proofs.EmptyPackets.{empty_packet_is_packet, stripped_order}

-- a packet that says something
record Says (h : Head) (p : Place) (packet : List ℕ) : Type 0 where
  content : Content
  is : SpellsPacket h p content packet

-- the head that is read of a header
same_head : (h g : Head) (header : List ℕ) → SpellsHead h header → SpellsHead g header → g ≡ h
same_head h g header a b = let e = sym (header_is_read_one_way g header [] b) ∙ header_is_read_one_way h header [] a in let f : g ≡ h = cc in f

-- each packet says something
packet_says : (frames : List (List ℕ)) (header : List ℕ) (h : Head) (sot : ℕ) (p : Place) (packet : List ℕ) → SpellsHead h header → HasFewBlocks h p → IsEmptyOrReleased frames header h p packet → Says (stripped_values h sot header) p packet
packet_says frames header h sot p packet head few (inl empty) =
    let P : List ℕ → Type 0 = λ l. Says (stripped_values h sot header) p l in
    subst P (sym empty) (record { content = no_blocks; is = empty_packet_is_packet (stripped_values h sot header) p few })
packet_says frames header h sot p packet head few (inr (x, r, of, place, raw)) =
    let H : List ℕ → Type 0 = λ l. SpellsHead r.reading.head l in
    let same : r.reading.head ≡ h = same_head h r.reading.head header head (subst H (sym r.header ∙ of) r.reading.is_head) in
    let A : Head → Type 0 = λ g. SpellsPacket g x.precinct.place (content_of x.precinct) x.raw in
    let B : Place → Type 0 = λ q. SpellsPacket h q (content_of x.precinct) x.raw in
    let C : List ℕ → Type 0 = λ l. SpellsPacket h p (content_of x.precinct) l in
    let s : SpellsPacket h p (content_of x.precinct) packet = subst C raw (subst B place (subst A same r.packet)) in
    record { content = content_of x.precinct; is = record { header = s.header; few_blocks = s.few_blocks; is_header = s.is_header; segments = s.segments; whole = s.whole; short = s.short } }

-- so do all of them
record AllSay (h : Head) (places : List Place) (packets : List (List ℕ)) : Type 0 where
  content : List Content
  are : SpellsPackets h places content (joined packets)

all_say : (frames : List (List ℕ)) (header : List ℕ) (h : Head) (sot : ℕ) (places : List Place) (packets : List (List ℕ)) → SpellsHead h header → AllByRecursion (HasFewBlocks h) places
    → AllZip (λ p packet. IsEmptyOrReleased frames header h p packet) places packets → AllSay (stripped_values h sot header) places packets
all_say frames header h sot [] [] head few a = record { content = []; are = refl }
all_say frames header h sot [] (b ∷ packets) head few a = absurd a
all_say frames header h sot (p ∷ places) [] head few a = absurd a
all_say frames header h sot (p ∷ places) (b ∷ packets) head few a =
    let one = packet_says frames header h sot p b head few.0 a.0 in
    let more = all_say frames header h sot places packets head few.1 a.1 in
    record { content = one.content ∷ more.content; are = (b, joined packets, one.is, more.are, refl) }

-- what holds of each precinct holds of those in the packet order
each_place : (P : Place → Type 0) (places : List Place) → ((p : Place) → Has places p → P p) → AllByRecursion P places
each_place P [] h = tt
each_place P (p ∷ places) h = (h p (inl refl), each_place P places (λ q has. h q (inr has)))

-- what is built is accepted
pub built_is_accepted : BuiltIsAccepted
built_is_accepted frames codestream b few =
    let s = stripped_is_head b.head b.header b.is_head in
    let all_few = each_place (HasFewBlocks b.head) b.places (λ p has. few p ((b.order.each p).0 (contained_has b.places p has))) in
    let said = all_say frames b.header b.head s.0 b.places b.packets b.is_head all_few b.are_packets in (
      stripped_values b.head s.0 b.header,
      said.content,
      record {
        head = stripped b.header;
        places = b.places;
        packets = joined b.packets;
        is_head = s.1;
        order = stripped_order b.head s.0 b.header b.places b.order;
        are_packets = said.are;
        psot = inl refl;
        whole = b.whole;
      },
    )
