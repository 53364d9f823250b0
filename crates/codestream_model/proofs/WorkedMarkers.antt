-- Packet headers with EPH byte by byte, and what is read of them.
use Rattle.std.specs.Prelude.{◌≡◌, true, [], ◌∷◌}
use Rattle.std.proofs.Common.{refl}
use Rattle.codestream_model.specs.StuffedBits.{number_bits, number_of, carried_after, sound_after, bytes_of_bits}
use Rattle.codestream_model.specs.TagTrees.{halvings, levels_from}
use Rattle.codestream_model.specs.HeaderPieces.{NoEph, Passes}
use Rattle.codestream_model.specs.PacketHeaderReading.{Done, Need, Bad, header_of, read_label, read_passes, read_lblock, read_number, read_block, known_label, read_inclusion, read_planes, read_seats, read_grids, read_bits}
use Rattle.codestream_model.specs.MarkedHeader.{marked_header_of}
use Rattle.codestream_model.proofs.WorkedPacketHeaders.{one_grid, block}

-- a header and its EPH
pub a_header_and_eph : marked_header_of one_grid true (200 ∷ 128 ∷ 255 ∷ 146 ∷ 170 ∷ 187 ∷ []) ≡ Done 4 (block 2 1 2 0 ∷ [])
unfolding number_bits number_of carried_after sound_after bytes_of_bits halvings levels_from header_of read_label read_passes read_lblock read_number read_block known_label read_inclusion read_planes read_seats read_grids read_bits
a_header_and_eph = refl

-- an empty packet has EPH too
pub an_empty_packet_and_eph : marked_header_of one_grid true (0 ∷ 255 ∷ 146 ∷ []) ≡ Done 3 []
unfolding number_bits number_of carried_after sound_after bytes_of_bits halvings levels_from header_of read_label read_passes read_lblock read_number read_block known_label read_inclusion read_planes read_seats read_grids read_bits
an_empty_packet_and_eph = refl

-- segments where EPH should be are refused
pub segments_in_place_of_eph : marked_header_of one_grid true (200 ∷ 128 ∷ 170 ∷ 187 ∷ []) ≡ Bad NoEph
unfolding number_bits number_of carried_after sound_after bytes_of_bits halvings levels_from header_of read_label read_passes read_lblock read_number read_block known_label read_inclusion read_planes read_seats read_grids read_bits
segments_in_place_of_eph = refl

-- and so is another marker
pub another_marker : marked_header_of one_grid true (200 ∷ 128 ∷ 255 ∷ 147 ∷ 170 ∷ 187 ∷ []) ≡ Bad NoEph
unfolding number_bits number_of carried_after sound_after bytes_of_bits halvings levels_from header_of read_label read_passes read_lblock read_number read_block known_label read_inclusion read_planes read_seats read_grids read_bits
another_marker = refl

-- after FF the second byte of EPH is needed
pub half_of_eph : marked_header_of one_grid true (200 ∷ 128 ∷ 255 ∷ []) ≡ Need
unfolding number_bits number_of carried_after sound_after bytes_of_bits halvings levels_from header_of read_label read_passes read_lblock read_number read_block known_label read_inclusion read_planes read_seats read_grids read_bits
half_of_eph = refl

-- after a header the first
pub nothing_after_a_header : marked_header_of one_grid true (200 ∷ 128 ∷ []) ≡ Need
unfolding number_bits number_of carried_after sound_after bytes_of_bits halvings levels_from header_of read_label read_passes read_lblock read_number read_block known_label read_inclusion read_planes read_seats read_grids read_bits
nothing_after_a_header = refl

-- one byte other than FF is enough to refuse
pub one_byte_is_enough : marked_header_of one_grid true (0 ∷ 0 ∷ []) ≡ Bad NoEph
unfolding number_bits number_of carried_after sound_after bytes_of_bits halvings levels_from header_of read_label read_passes read_lblock read_number read_block known_label read_inclusion read_planes read_seats read_grids read_bits
one_byte_is_enough = refl

-- a stuffed header and its EPH
pub a_closing_byte_before_eph : marked_header_of one_grid true (239 ∷ 255 ∷ 0 ∷ 1 ∷ 0 ∷ 255 ∷ 146 ∷ []) ≡ Done 7 (block 0 1 2 0 ∷ [])
unfolding number_bits number_of carried_after sound_after bytes_of_bits halvings levels_from header_of read_label read_passes read_lblock read_number read_block known_label read_inclusion read_planes read_seats read_grids read_bits
a_closing_byte_before_eph = refl

-- a refused header is refused for its own reason
pub a_refused_header_first : marked_header_of one_grid true (250 ∷ 255 ∷ 146 ∷ []) ≡ Bad Passes
unfolding number_bits number_of carried_after sound_after bytes_of_bits halvings levels_from header_of read_label read_passes read_lblock read_number read_block known_label read_inclusion read_planes read_seats read_grids read_bits
a_refused_header_first = refl
