-- The limits of a packet, of an input on its bytes and of its codestreams, computed.
use Rattle.std.proofs.Common.{◌≡◌, ◌≤◌, ◌^◌, ◌*◌, ℕ, zero, suc, List, [], ◌∷◌, ◌++◌, length, replicate, subst, refl, sym, ◌∙◌, ap, arith}
use Rattle.std.specs.Prelude.{slice_set, Ok}
use Rattle.std.specs.List.{AllByRecursion}
use Rattle.std.proofs.lemmas.List.{append-nil, length-append}
use Rattle.codestream_model.specs.Values.{Head, Place}
use Rattle.codestream_model.specs.StuffedBits.{packing}
use Rattle.codestream_model.specs.TagTrees.{halvings, levels_from}
use Rattle.codestream_model.specs.HeaderPieces.{TooLong}
use Rattle.codestream_model.specs.PacketHeader.{SpellsHeader, RefusesHeader}
use Rattle.codestream_model.specs.RefusedHeader.{segment_tests, skipped_tests}
use Rattle.codestream_model.specs.MainHeader.{SpellsHead}
use Rattle.codestream_model.specs.MainHeaderReading.{read_tile, read_main, head_of}
use Rattle.codestream_model.specs.SegmentTests.{siz_tests, cap_tests, cod_tests, tile_tests}
use Rattle.codestream_model.specs.PacketOrder.{sum_below, placed, sorted, packet_order, IsPacketOrder}
use Rattle.codestream_model.specs.GeometryLaws.{HasSteps}
use Rattle.codestream_model.specs.Packet.{segment_bytes}
use Rattle.codestream_model.specs.Codestream.{IsCodestream, joined, PacketTooLong, InputTooLong, TooManyFrames, RefusesPacket, RefusesRest, Faults}
use Rattle.codestream_model.proofs.Headers.{small_header}
use Rattle.codestream_model.proofs.WorkedGeometry.{plain_head}
use Rattle.codestream_model.proofs.PackingLemmas.{packing_packs}
use Rattle.codestream_model.proofs.WorkedPackets.{precinct}
use Rattle.codestream_model.proofs.WorkedRelations.{bytes_if_tested, spells_if_read}
use Rattle.codestream_model.proofs.WorkedFaults.{refused_in, small_head, nothing, an_empty_packet_is_a_codestream}
use Rattle.codestream_model.proofs.Orders.{packet_order_is_computed}
use Rattle.codestream_model.proofs.FaultsStay.{one_frame_more}
use Rattle.codestream_model.proofs.InputLimits.{none_is_read}
use Rattle.codestream_model.proofs.LongHeaders.{long_headers_are_refused}
use Rattle.codestream_model.proofs.LongPackets.{row, all_longest, depth, long_bits, long_header, least_length, most_length, packed_short, packed_long}

-- After 1,099,511,627,776 bytes of whole codestreams one byte is too many.
pub one_byte_more_is_refused : RefusesRest (2 ^ 40) (0 ∷ []) (2 ^ 40) InputTooLong
one_byte_more_is_refused = none_is_read (0 ∷ []) (omega arith)

-- The codestream of an empty packet.
abbrev smallest : List ℕ
smallest = small_header ++ (0 ∷ []) ++ 255 ∷ 217 ∷ []

-- Many of them.
all_codestreams : (n : ℕ) → AllByRecursion IsCodestream (replicate n smallest)
all_codestreams zero = tt
all_codestreams (suc n) = ((small_head 0, nothing ∷ [], an_empty_packet_is_a_codestream), all_codestreams n)

-- Are as many.
how_many : (n : ℕ) → length (replicate n smallest) ≡ n
how_many zero = refl
how_many (suc n) = ap suc (how_many n)

-- And have 92 bytes each.
how_long : (n : ℕ) → length (joined (replicate n smallest)) ≡ n * 92
how_long zero = refl
how_long (suc n) = omega (arith, how_long n, length-append smallest (joined (replicate n smallest)))

-- After as many of them as may be, one byte is too many.
over_the_limit : (n : ℕ) → n ≡ 65536 → Faults (joined (replicate n smallest) ++ 0 ∷ []) (n * 92) TooManyFrames
over_the_limit n e =
    let P : ℕ → Type 0 = λ at. Faults (joined (replicate n smallest) ++ 0 ∷ []) at TooManyFrames in
    subst P (how_long n) (one_frame_more (replicate n smallest) (0 ∷ []) (all_codestreams n) (how_many n ∙ e) (omega (arith, how_long n, e)) (omega arith))

-- After 65,536 of them a byte is a fault, at the end of the last.
pub a_frame_too_many_is_a_fault : Faults (joined (replicate 65536 smallest) ++ 0 ∷ []) 6029312 TooManyFrames
a_frame_too_many_is_a_fault = over_the_limit 65536 refl

-- The trees of 257 columns have ten levels.
levels_of_257 : depth 257 ≤ 10
unfolding halvings levels_from
levels_of_257 = omega arith

-- So the header is short.
few_bytes : length (packing (long_bits 257)) ≤ 65536
few_bytes = omega (arith, packed_short (length (long_bits 257)) 0 (long_bits 257), most_length 257 levels_of_257)

-- And is one.
header_of_the_longest : SpellsHeader (row 257) (all_longest 257) (packing (long_bits 257))
header_of_the_longest = record { bits = long_bits 257; is_header = long_header 257; packs = packing_packs (long_bits 257) (omega arith); short = few_bytes }

-- An image of one row of 257 code-blocks, 16,448 by 64.
abbrev wide_head : Head
wide_head = plain_head 0 16448 64 15 75 89

-- Their bytes.
segments : segment_bytes (all_longest 257) ≡ 16842238
segments = refl

-- So its packet would have 257 times 65,534 bytes after its header.
pub a_long_packet_is_refused : RefusesPacket (plain_head 0 16448 64 15 75 89) (precinct 0) (packing (long_bits 257)) PacketTooLong
a_long_packet_is_refused =
    let header = packing (long_bits 257) in
    record {
      blocks = all_longest 257;
      header = header;
      rest = [];
      begins = record { few_blocks = omega arith; is_header = record { header = header; is_header = header_of_the_longest; whole = sym (append-nil header) }; whole = sym (append-nil header) };
      long = omega (arith, segments);
    }

-- The small header with these columns and rows.
pub wide_header : List ℕ
wide_header =
    let x = slice_set (slice_set (slice_set small_header 8 0) 10 64) 11 64 in
    let y = slice_set x 15 64 in
    let t = slice_set (slice_set y 26 64) 27 64 in
    slice_set t 31 64

-- Its values.
wide_header_is_read : head_of wide_header ≡ Ok wide_head
unfolding wide_header siz_tests cap_tests cod_tests tile_tests segment_tests skipped_tests sum_below read_tile read_main head_of
wide_header_is_read = refl

-- So it is a main header.
wide_header_spells : SpellsHead wide_head wide_header
unfolding wide_header
wide_header_spells = spells_if_read wide_header wide_head (bytes_if_tested wide_header refl) wide_header_is_read

-- Its one component is sampled everywhere.
wide_steps : HasSteps wide_head
wide_steps zero d lt = (omega arith, omega arith)
wide_steps (suc k) d lt = absurd (omega arith)

-- One precinct is all of its order.
wide_order_is : packet_order wide_head ≡ precinct 0 ∷ []
unfolding placed sorted
wide_order_is = refl

-- Which is the one of the header.
wide_order : IsPacketOrder wide_head (precinct 0 ∷ [])
wide_order = let P : List Place → Type 0 = λ places. IsPacketOrder wide_head places in subst P wide_order_is (packet_order_is_computed wide_head wide_steps)

-- So an input that ends with the packet's header is refused where the packet begins.
pub a_long_packet_is_a_fault : Faults (wide_header ++ packing (long_bits 257)) 89 PacketTooLong
unfolding wide_header
a_long_packet_is_a_fault =
    refused_in (wide_header ++ packing (long_bits 257)) 89 PacketTooLong (omega arith) (omega (arith, few_bytes, length-append wide_header (packing (long_bits 257)))) (
      wide_head,
      precinct 0,
      [],
      packing (long_bits 257),
      record { head = wide_header; before = []; content = []; packets = []; is_head = wide_header_spells; order = wide_order; are_packets = refl; place = refl; whole = refl },
      a_long_packet_is_refused,
    )

-- A header of 20,000 such code-blocks would have more than 77,000 bytes, and is too long.
pub a_long_header_is_refused : RefusesHeader (row 20000) (packing (long_bits 20000) ++ []) TooLong
a_long_header_is_refused =
    let p = packing_packs (long_bits 20000) (omega arith) in
    long_headers_are_refused (row 20000) (all_longest 20000) (long_bits 20000) (packing (long_bits 20000)) [] (tt, tt) (long_header 20000) p
    (omega (arith, packed_long (long_bits 20000) (packing (long_bits 20000)) p, least_length 20000))
