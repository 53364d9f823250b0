-- Codestreams byte by byte, and the faults of inputs at their items.
use Rattle.std.proofs.Common.{◌≡◌, ◌≤◌, ◌<◌, ◌+◌, ◌^◌, ℕ, zero, suc, false, List, [], ◌∷◌, ◌++◌, length, replicate, subst, refl, sym, ap, inl, inr, arith}
use Rattle.std.specs.Prelude.{slice_set, Ok, Err}
use Rattle.codestream_model.specs.Values.{Head, Place, Grid}
use Rattle.codestream_model.specs.StuffedBits.{number_bits, number_of, carried_after, sound_after, bytes_of_bits}
use Rattle.codestream_model.specs.TagTrees.{halvings, levels_from}
use Rattle.codestream_model.specs.PacketHeader.{HaveOwnBands, SpellsHeader}
use Rattle.codestream_model.specs.PacketHeaderReading.{Done, header_of, read_label, read_passes, read_lblock, read_number, read_block, known_label, read_inclusion, read_planes, read_seats, read_grids, read_bits}
use Rattle.codestream_model.specs.HeadRefusals.{NoSoc}
use Rattle.codestream_model.specs.MainHeader.{SpellsHead}
use Rattle.codestream_model.specs.RefusedHeader.{RefusesHead, segment_tests, skipped_tests}
use Rattle.codestream_model.specs.MainHeaderReading.{read_tile, read_main, head_of}
use Rattle.codestream_model.specs.SegmentTests.{siz_tests, cap_tests, cod_tests, tile_tests}
use Rattle.codestream_model.specs.Precincts.{grids}
use Rattle.codestream_model.specs.PacketOrder.{sum_below, placed, sorted, packet_order, IsPacketOrder}
use Rattle.codestream_model.specs.GeometryLaws.{HasSteps}
use Rattle.codestream_model.specs.Packet.{Content, SpellsPacket, NeedsPacketBytes, block_count}
use Rattle.codestream_model.specs.Codestream.{SpellsCodestream, IsPsotRight, Cut, HeadRefused, TooManyBlocks, Psot, BeginsCodestream, Faults, IsInput}
use Rattle.codestream_model.proofs.Headers.{small_header, header_of_three}
use Rattle.codestream_model.proofs.WorkedGeometry.{plain_head, one_sample, three_samples, odd_sample, place}
use Rattle.codestream_model.proofs.WorkedPacketHeaders.{block, two_columns, second_block, the_second_of_two, a_lower_label_of_a_root, nothing_included_of_two}
use Rattle.codestream_model.proofs.PackingLemmas.{bytes-nil, stuffed-nil}
use Rattle.codestream_model.proofs.SoundLemmas.{header_sound}
use Rattle.codestream_model.proofs.WorkedPackets.{precinct, header_of_one_block, packet_of_one, three_packets, codestream_of_three}
use Rattle.codestream_model.proofs.WorkedRelations.{bytes_if_tested, spells_if_read, refuses_if_read, small_header_spells, header_of_three_spells}
use Rattle.codestream_model.proofs.WorkedFaults.{refused_in, cut_in, small_head, one_order}
use Rattle.codestream_model.proofs.Orders.{packet_order_is_computed}
use Rattle.codestream_model.proofs.Inputs.{refuse_rest, all_read}

-- the content of the one packet
abbrev one_block : Content
one_block = record { blocks = block 2 1 2 0 ∷ []; bytes = 170 ∷ 187 ∷ [] }

-- the packet of one sample, and EOC
abbrev one_packet : List ℕ
one_packet = 200 ∷ 128 ∷ 170 ∷ 187 ∷ []

-- the codestream of one sample
pub codestream_of_one : SpellsCodestream one_sample (one_block ∷ []) (small_header ++ (one_packet ++ 255 ∷ 217 ∷ []))
codestream_of_one = record {
  head = small_header;
  places = precinct 0 ∷ [];
  packets = one_packet;
  is_head = small_header_spells;
  order = one_order 0;
  are_packets = (one_packet, [], packet_of_one, refl, refl);
  psot = inl refl;
  whole = refl;
}

-- is an input
pub codestream_of_one_is_an_input : IsInput (small_header ++ (one_packet ++ 255 ∷ 217 ∷ [])) ((small_header ++ (one_packet ++ 255 ∷ 217 ∷ [])) ∷ [])
codestream_of_one_is_an_input = record { whole = refl; each = ((one_sample, one_block ∷ [], codestream_of_one), tt); few = omega arith; within = omega arith }

-- the precincts of three samples
three_steps : HasSteps three_samples
three_steps zero d lt = (omega arith, omega arith)
three_steps (suc k) d lt = absurd (omega arith)

-- in their order
order_is : packet_order three_samples ≡ precinct 0 ∷ precinct 1 ∷ precinct 2 ∷ []
unfolding placed sorted
order_is = refl

-- which is the one of the header
three_in_order : IsPacketOrder three_samples (precinct 0 ∷ precinct 1 ∷ precinct 2 ∷ [])
three_in_order = let P : List Place → Type 0 = λ places. IsPacketOrder three_samples places in subst P order_is (packet_order_is_computed three_samples three_steps)

-- a code-block of a hundred bytes that are all the same
abbrev hundred : ℕ → Content
hundred byte = record { blocks = block 0 1 100 0 ∷ []; bytes = replicate 100 byte }

-- the codestream of three samples
pub codestream_of_three_samples : SpellsCodestream three_samples (hundred 17 ∷ hundred 34 ∷ hundred 51 ∷ []) (header_of_three ++ (three_packets ++ 255 ∷ 217 ∷ []))
codestream_of_three_samples = codestream_of_three header_of_three header_of_three_spells three_in_order

-- is an input
pub codestream_of_three_is_an_input : IsInput (header_of_three ++ (three_packets ++ 255 ∷ 217 ∷ [])) ((header_of_three ++ (three_packets ++ 255 ∷ 217 ∷ [])) ∷ [])
codestream_of_three_is_an_input = record {
  whole = refl;
  each = ((three_samples, hundred 17 ∷ hundred 34 ∷ hundred 51 ∷ [], codestream_of_three_samples), tt);
  few = omega arith;
  within = omega arith;
}

-- the small header with Psot 19
pub header_19 : List ℕ
header_19 = slice_set small_header 84 19

-- its values are read
header_19_is_read : head_of header_19 ≡ Ok (small_head 19)
unfolding header_19 siz_tests cap_tests cod_tests tile_tests segment_tests skipped_tests sum_below read_tile read_main head_of
header_19_is_read = refl

-- so it is a main header
header_19_spells : SpellsHead (small_head 19) header_19
unfolding header_19
header_19_spells = spells_if_read header_19 (small_head 19) (bytes_if_tested header_19 refl) header_19_is_read

-- the packet of one sample, whatever Psot is
packet_with : (psot : ℕ) → SpellsPacket (small_head psot) (precinct 0) one_block one_packet
packet_with psot = record {
  header = 200 ∷ 128 ∷ [];
  few_blocks = omega arith;
  is_header = record { header = 200 ∷ 128 ∷ []; is_header = header_of_one_block; whole = refl };
  segments = refl;
  whole = refl;
  short = omega arith;
}

-- 19 is wrong, where 18 is right
wrong_psot : IsPsotRight (small_head 19) 93 → ⊥
wrong_psot (inl e) = omega arith
wrong_psot (inr e) = omega arith

-- so it is refused where EOC begins
pub psot_19_is_a_fault : Faults (header_19 ++ (one_packet ++ 255 ∷ 217 ∷ [])) 93 Psot
unfolding header_19
psot_19_is_a_fault =
    refused_in (header_19 ++ (one_packet ++ 255 ∷ 217 ∷ [])) 93 Psot (omega arith) (omega arith) (
      small_head 19,
      255 ∷ 217 ∷ [],
      record {
        head = header_19;
        before = precinct 0 ∷ [];
        content = one_block ∷ [];
        packets = one_packet;
        is_head = header_19_spells;
        order = one_order 19;
        are_packets = (one_packet, [], packet_with 19, refl, refl);
        place = refl;
        whole = refl;
      },
      wrong_psot,
    )

-- two bytes that aren't SOC are read so
no_soc_is_read : head_of (0 ∷ 0 ∷ []) ≡ Err (record { at = 0; why = NoSoc })
unfolding siz_tests cap_tests cod_tests tile_tests segment_tests skipped_tests sum_below read_tile read_main head_of
no_soc_is_read = refl

-- so they are refused
no_soc : RefusesHead (0 ∷ 0 ∷ []) 0 NoSoc
no_soc = refuses_if_read (0 ∷ 0 ∷ []) (record { at = 0; why = NoSoc }) (bytes_if_tested (0 ∷ 0 ∷ []) refl) no_soc_is_read

-- are a fault at the start of an input
pub no_soc_is_a_fault : Faults (0 ∷ 0 ∷ []) 0 (HeadRefused NoSoc)
no_soc_is_a_fault = refused_in (0 ∷ 0 ∷ []) 0 (HeadRefused NoSoc) (omega arith) (omega arith) (no_soc, λ e. cc)

-- and after a whole codestream
pub no_soc_after_a_codestream : Faults ((small_header ++ (one_packet ++ 255 ∷ 217 ∷ [])) ++ 0 ∷ 0 ∷ []) 95 (HeadRefused NoSoc)
no_soc_after_a_codestream = record {
  codestreams = (small_header ++ (one_packet ++ 255 ∷ 217 ∷ [])) ∷ [];
  rest = 0 ∷ 0 ∷ [];
  whole = refl;
  each = ((one_sample, one_block ∷ [], codestream_of_one), tt);
  within = omega arith;
  follows = omega arith;
  fault = inr (omega arith, refuse_rest 95 (0 ∷ 0 ∷ []) 0 (HeadRefused NoSoc) (no_soc, λ e. cc));
}

-- the one precinct of the odd sample has one code-block
pub blocks_of_odd_sample : block_count (grids odd_sample (place 0 1 0)) ≡ 1
unfolding odd_sample
blocks_of_odd_sample = refl

-- the small header of an image of `side` columns and rows, whose low bytes are these
abbrev sized : ℕ → ℕ → List ℕ
sized high low =
    let x = slice_set (slice_set (slice_set small_header 8 0) 10 high) 11 low in
    let y = slice_set (slice_set x 14 high) 15 low in
    let t = slice_set (slice_set y 26 high) 27 low in
    slice_set (slice_set t 30 high) 31 low

-- 16,385 columns and rows
pub large_header : List ℕ
large_header = sized 64 1

-- their values
large_header_is_read : head_of large_header ≡ Ok (plain_head 0 16385 16385 15 75 89)
unfolding large_header siz_tests cap_tests cod_tests tile_tests segment_tests skipped_tests sum_below read_tile read_main head_of
large_header_is_read = refl

-- so it is a main header
large_header_spells : SpellsHead (plain_head 0 16385 16385 15 75 89) large_header
unfolding large_header
large_header_spells = spells_if_read large_header (plain_head 0 16385 16385 15 75 89) (bytes_if_tested large_header refl) large_header_is_read

-- its one precinct has 257 columns and rows of code-blocks
large_blocks : block_count (grids (plain_head 0 16385 16385 15 75 89) (precinct 0)) ≡ 66049
large_blocks = refl

-- its components are sampled everywhere
large_steps : (side : ℕ) → HasSteps (plain_head 0 side side 15 75 89)
large_steps side zero d lt = (omega arith, omega arith)
large_steps side (suc k) d lt = absurd (omega arith)

-- one precinct is all of its order
large_order_is : packet_order (plain_head 0 16385 16385 15 75 89) ≡ precinct 0 ∷ []
unfolding placed sorted
large_order_is = refl

-- which is the one of the header
large_order : IsPacketOrder (plain_head 0 16385 16385 15 75 89) (precinct 0 ∷ [])
large_order = let P : List Place → Type 0 = λ places. IsPacketOrder (plain_head 0 16385 16385 15 75 89) places in subst P large_order_is (packet_order_is_computed (plain_head 0 16385 16385 15 75 89) (large_steps 16385))

-- so its packet is refused before any byte of it
pub too_many_blocks_are_a_fault : Faults large_header 89 TooManyBlocks
unfolding large_header
too_many_blocks_are_a_fault =
    refused_in large_header 89 TooManyBlocks (omega arith) (omega arith) (
      plain_head 0 16385 16385 15 75 89,
      precinct 0,
      [],
      [],
      record { head = large_header; before = []; content = []; packets = []; is_head = large_header_spells; order = large_order; are_packets = refl; place = refl; whole = refl },
      omega (arith, large_blocks),
    )

-- 16,384 columns and rows
pub greatest_header : List ℕ
greatest_header = sized 64 0

-- their values
greatest_header_is_read : head_of greatest_header ≡ Ok (plain_head 0 16384 16384 15 75 89)
unfolding greatest_header siz_tests cap_tests cod_tests tile_tests segment_tests skipped_tests sum_below read_tile read_main head_of
greatest_header_is_read = refl

-- so it is a main header
greatest_header_spells : SpellsHead (plain_head 0 16384 16384 15 75 89) greatest_header
unfolding greatest_header
greatest_header_spells = spells_if_read greatest_header (plain_head 0 16384 16384 15 75 89) (bytes_if_tested greatest_header refl) greatest_header_is_read

-- its one precinct has as many code-blocks as a packet may have
greatest_blocks : block_count (grids (plain_head 0 16384 16384 15 75 89) (precinct 0)) ≡ 65536
greatest_blocks = refl

-- one precinct is all of its order
greatest_order_is : packet_order (plain_head 0 16384 16384 15 75 89) ≡ precinct 0 ∷ []
unfolding placed sorted
greatest_order_is = refl

-- which is the one of the header
greatest_order : IsPacketOrder (plain_head 0 16384 16384 15 75 89) (precinct 0 ∷ [])
greatest_order = let P : List Place → Type 0 = λ places. IsPacketOrder (plain_head 0 16384 16384 15 75 89) places in subst P greatest_order_is (packet_order_is_computed (plain_head 0 16384 16384 15 75 89) (large_steps 16384))

-- so alone it is cut where its packet should begin
pub a_missing_packet_is_cut : Faults greatest_header 89 Cut
unfolding greatest_header
a_missing_packet_is_cut =
    cut_in greatest_header (omega arith) (omega arith) (
      89,
      inr (inl (
        plain_head 0 16384 16384 15 75 89,
        precinct 0,
        [],
        [],
        record { head = greatest_header; before = []; content = []; packets = []; is_head = greatest_header_spells; order = greatest_order; are_packets = refl; place = refl; whole = refl },
        record {
          few_blocks = omega (arith, greatest_blocks);
          unfinished = inl (inl (record { wants = record { each = bytes-nil; stuffed = stuffed-nil; unfinished = inl refl }; short = omega arith }));
        },
      )),
    )

-- the grids of two columns are of one band
two_own : HaveOwnBands two_columns
two_own = (tt, tt)

-- D6 20 says the second of two code-blocks, with the least labels
pub second_of_two : SpellsHeader two_columns (second_block ∷ []) (214 ∷ 32 ∷ [])
second_of_two = header_sound two_columns (214 ∷ 32 ∷ []) 2 (second_block ∷ []) (bytes_if_tested (214 ∷ 32 ∷ []) refl) two_own the_second_of_two

-- and so does DA 20, with the label 0 at the root of the value tree
pub second_of_two_by_other_labels : SpellsHeader two_columns (second_block ∷ []) (218 ∷ 32 ∷ [])
second_of_two_by_other_labels = header_sound two_columns (218 ∷ 32 ∷ []) 2 (second_block ∷ []) (bytes_if_tested (218 ∷ 32 ∷ []) refl) two_own a_lower_label_of_a_root

-- 80 says none of them
pub none_of_two : SpellsHeader two_columns [] (128 ∷ [])
none_of_two = header_sound two_columns (128 ∷ []) 1 [] (bytes_if_tested (128 ∷ []) refl) two_own nothing_included_of_two

-- HL, LH and HH, of which LH alone has a code-block
abbrev lh_alone : List Grid
lh_alone = record { band = 1; cols = 0; rows = 0 } ∷ record { band = 2; cols = 1; rows = 1 } ∷ record { band = 3; cols = 0; rows = 0 } ∷ []

-- D1 80 says that code-block
block_of_lh_is_read : header_of lh_alone (209 ∷ 128 ∷ []) ≡ Done 2 (record { band = 2; col = 0; row = 0; planes = 1; passes = 1; cleanup = 3; refine = 0 } ∷ [])
unfolding number_bits number_of carried_after sound_after bytes_of_bits halvings levels_from header_of read_label read_passes read_lblock read_number read_block known_label read_inclusion read_planes read_seats read_grids read_bits
block_of_lh_is_read = refl

-- so it spells it
pub block_of_lh : SpellsHeader lh_alone (record { band = 2; col = 0; row = 0; planes = 1; passes = 1; cleanup = 3; refine = 0 } ∷ []) (209 ∷ 128 ∷ [])
block_of_lh = header_sound lh_alone (209 ∷ 128 ∷ []) 2 (record { band = 2; col = 0; row = 0; planes = 1; passes = 1; cleanup = 3; refine = 0 } ∷ []) (bytes_if_tested (209 ∷ 128 ∷ []) refl)
    ((λ t. omega arith, (λ t. omega arith, tt)), ((λ t. omega arith, tt), (tt, tt))) block_of_lh_is_read
