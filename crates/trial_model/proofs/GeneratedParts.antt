-- The generated parts are the parts of the generated codestream.
use Rattle.std.proofs.Common.{◌≡◌, ◌<◌, ◌+◌, ◌^◌, ◌++◌, ℕ, List, [], ◌∷◌, length, refl, sym, ◌∙◌, ap, subst, inr, arith}
use Rattle.std.proofs.lemmas.List.{length-append}
use Rattle.codestream_model.specs.Values.{Head, Place}
use Rattle.codestream_model.specs.Bytes.{two_bytes, four_at}
use Rattle.codestream_model.specs.Segments.{SOT, SOD, Segment, segment_bytes, segments_bytes}
use Rattle.codestream_model.specs.SegmentTests.{head_values}
use Rattle.codestream_model.specs.PacketOrder.{packet_order, IsPacketOrder}
use Rattle.codestream_model.specs.Packet.{Content}
use Rattle.codestream_model.specs.Codestream.{IsPsotRight, joined}
use Rattle.stream_model.specs.Stream.{ArePackets}
use Rattle.trial_model.specs.Generator.{Shape, shape_segments, sot_content, shape_header, shape_head, packets_of, psot_of}
use Rattle.trial_model.specs.GeneratorLaws.{AllArePackets, drawn_contents, GeneratedHasParts}
use Rattle.trial_model.proofs.ShapeHeads.{shape_headers_are_accepted}
use Rattle.trial_model.proofs.MadePackets.{shape_order, drawn_contents_make_packets}

-- The same order under another Psot.
same_order : (h : Head) (psot : ℕ) (places : List Place) → IsPacketOrder h places → IsPacketOrder (record h { psot = psot }) places
same_order h psot places o = record {
  each = λ p. (
    (λ there. let is = (o.each p).0 there in record { component = is.component; resolution = is.resolution; number = is.number }),
    (λ is. (o.each p).1 (record { component = is.component; resolution = is.resolution; number = is.number })),
  );
  ascending = o.ascending;
}

-- The same packets under another Psot.
same_packets : (h : Head) (psot : ℕ) (places : List Place) (contents : List Content) → AllArePackets h places contents
    → ArePackets (record h { psot = psot }) places contents (packets_of h places contents)
same_packets h psot [] [] all = tt
same_packets h psot [] (x ∷ contents) all = absurd all
same_packets h psot (p ∷ places) [] all = absurd all
same_packets h psot (p ∷ places) (x ∷ contents) (f, all) = (
  record { header = f.header; few_blocks = f.few_blocks; is_header = f.is_header; segments = f.segments; whole = f.whole; short = f.short },
  same_packets h psot places contents all,
)

-- The length of a header: that of the segments before SOT, and 16 bytes.
header_size : (shape : Shape) (psot : ℕ) → length (shape_header shape psot) ≡ 16 + length (segments_bytes (shape_segments shape))
header_size shape psot =
    let tile : Segment = record { marker = SOT; content = sot_content psot } in
    omega (
      arith,
      length-append (segments_bytes (shape_segments shape) ++ segment_bytes tile) (two_bytes SOD),
      length-append (segments_bytes (shape_segments shape)) (segment_bytes tile),
    )

-- The values of a header are those of the header with Psot 0, but for Psot.
other_psot : (shape : Shape) (psot : ℕ) → psot < 2 ^ 32 → record (shape_head shape 0) { psot = psot } ≡ shape_head shape psot
other_psot shape psot small =
    let size : length (shape_header shape 0) ≡ length (shape_header shape psot) = header_size shape 0 ∙ sym (header_size shape psot) in
    let read : psot ≡ four_at (sot_content psot) 2 = omega (arith, small) in
    ap (λ (n : ℕ). record (shape_head shape 0) { psot = n }) read
    ∙ ap (λ (n : ℕ). head_values (shape_segments shape) (sot_content psot) n) size

-- Psot counts the bytes from SOT to EOC.
psot_right : (shape : Shape) (packets : List (List ℕ)) → IsPsotRight (record (shape_head shape 0) { psot = psot_of packets }) (length (shape_header shape (psot_of packets)) + length (joined packets))
psot_right shape packets = inr (omega (arith, header_size shape (psot_of packets)))

pub generated_has_parts : GeneratedHasParts
generated_has_parts shape seed is =
    let h = shape_head shape 0 in
    let packets = packets_of h (packet_order h) (drawn_contents shape seed) in
    let psot = psot_of packets in
    let made = drawn_contents_make_packets shape seed is in
    let small : psot < 2 ^ 32 = omega (arith, made.short) in
    let same = other_psot shape psot small in
    let P : Head → Type 0 = λ g. IsPacketOrder g (packet_order h) in
    let Q : Head → Type 0 = λ g. ArePackets g (packet_order h) (drawn_contents shape seed) packets in
    let R : Head → Type 0 = λ g. IsPsotRight g (length (shape_header shape psot) + length (joined packets)) in
    record {
      is_head = shape_headers_are_accepted shape psot is small;
      order = subst P same (same_order h psot (packet_order h) (shape_order shape is));
      are_packets = subst Q same (same_packets h psot (packet_order h) (drawn_contents shape seed) made.packets);
      psot = subst R same (psot_right shape packets);
      whole = refl;
    }
