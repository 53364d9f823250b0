-- The parts of a codestream and the codestream.
use Rattle.std.proofs.Common.{◌≡◌, ◌+◌, ℕ, List, [], ◌∷◌, ◌++◌, length, refl, sym, ap, ◌∙◌, subst}
use Rattle.codestream_model.specs.Values.{Head, Place}
use Rattle.codestream_model.specs.Packet.{Content}
use Rattle.codestream_model.specs.Codestream.{SpellsPackets, SpellsCodestream, IsPsotRight, joined}
use Rattle.stream_model.specs.Stream.{Parts, ArePackets, ArePartsOf}

-- packets one by one are packets joined,
pub packets_join : (h : Head) (places : List Place) (content : List Content) (packets : List (List ℕ)) → ArePackets h places content packets → SpellsPackets h places content (joined packets)
packets_join h [] [] [] r = refl
packets_join h [] [] (b ∷ packets) r = absurd r
packets_join h [] (x ∷ content) packets r = absurd r
packets_join h (p ∷ places) [] packets r = absurd r
packets_join h (p ∷ places) (x ∷ content) [] r = absurd r
packets_join h (p ∷ places) (x ∷ content) (b ∷ packets) r = (b, joined packets, r.0, packets_join h places content packets r.1, refl)

-- and packets joined are packets one by one
pub packets_part : (h : Head) (places : List Place) (content : List Content) (bytes : List ℕ) → SpellsPackets h places content bytes → (packets : List (List ℕ)) × ArePackets h places content packets × (joined packets ≡ bytes)
packets_part h [] [] bytes r = ([], tt, sym r)
packets_part h [] (x ∷ content) bytes r = absurd r
packets_part h (p ∷ places) [] bytes r = absurd r
packets_part h (p ∷ places) (x ∷ content) bytes r =
    let more = packets_part h places content r.1 r.3 in
    (r.0 ∷ more.0, (r.2, more.1), ap (λ ys. r.0 ++ ys) more.2 ∙ sym r.4)

pub parts_spell : (c : Parts) (codestream : List ℕ) → ArePartsOf c codestream → SpellsCodestream c.head c.content codestream
parts_spell c codestream r = record {
  head = c.header;
  places = c.places;
  packets = joined c.packets;
  is_head = r.is_head;
  order = r.order;
  are_packets = packets_join c.head c.places c.content c.packets r.are_packets;
  psot = r.psot;
  whole = r.whole;
}

pub spelled_has_parts : (h : Head) (content : List Content) (codestream : List ℕ) → SpellsCodestream h content codestream → (c : Parts) × ArePartsOf c codestream × (c.head ≡ h) × (c.content ≡ content)
spelled_has_parts h content codestream r =
    let apart = packets_part h r.places content r.packets r.are_packets in
    let Psot : List ℕ → Type 0 = λ bytes. IsPsotRight h (length r.head + length bytes) in (
      record { head = h; header = r.head; places = r.places; content = content; packets = apart.0 },
      record {
        is_head = r.is_head;
        order = r.order;
        are_packets = apart.1;
        psot = subst Psot (sym apart.2) r.psot;
        whole = r.whole ∙ ap (λ bytes. r.head ++ (bytes ++ 255 ∷ 217 ∷ [])) (sym apart.2);
      },
      refl,
      refl,
    )

pub parts_are_of_codestreams :
    ((c : Parts) (codestream : List ℕ) → ArePartsOf c codestream → SpellsCodestream c.head c.content codestream)
    × ((h : Head) (content : List Content) (codestream : List ℕ) → SpellsCodestream h content codestream → (c : Parts) × ArePartsOf c codestream × (c.head ≡ h) × (c.content ≡ content))
parts_are_of_codestreams = (parts_spell, spelled_has_parts)
