-- The packets that the rules release of the worked capture of three packets: their bytes, and their main headers.
use Rattle.std.specs.Prelude.{◌≡◌, ℕ, List, [], ◌∷◌, ◌++◌, map, refl, replicate}
use Rattle.wire_model.proofs.Captures.{main_of_b, first_body_of_b, second_body_of_b, third_body_of_b, last_body_of_b, codestream_of_b, main_header, main_header_of_three}
use Rattle.stream_model.specs.Receiver.{take_frames, drained, received, flushed}
use Rattle.stream_model.specs.Decoder.{Release, settle, found_packet, from_place}
use Rattle.codestream_model.specs.StuffedBits.{number_bits, number_of, carried_after, sound_after, bytes_of_bits}
use Rattle.codestream_model.specs.MainHeaderReading.{read_tile, read_main, head_of}
use Rattle.codestream_model.specs.PacketHeaderReading.{read_label, read_passes, read_lblock, read_number, read_block, known_label, read_inclusion, read_planes, read_seats, read_grids, read_bits, header_of}
use Rattle.codestream_model.specs.PacketOrder.{sum_below, placed, sorted}
use Rattle.codestream_model.specs.SegmentTests.{siz_tests, cap_tests, cod_tests, tile_tests}
use Rattle.codestream_model.specs.TagTrees.{halvings, levels_from}
use Rattle.codestream_model.specs.RefusedHeader.{segment_tests, skipped_tests}
use Rattle.wire_model.specs.Framing.{first_frames}
use Rattle.stream_model.proofs.WorkedReceivers.{any_of, renumbered}
use Rattle.stream_model.proofs.WorkedReadings.{three_empty}

-- What is released of frames by the end.
abbrev pub released_at_end : List (List ℕ) → List Release
released_at_end frames = (flushed (received (any_of 16) frames)).releases

-- The packet with a code-block of 100 bytes, each of this value.
abbrev pub packet_of : ℕ → List ℕ
packet_of value = 239 ∷ 100 ∷ replicate 100 value

-- Each packet is released with its header and its segments.
pub each_packet_whole : map (λ x. x.raw) (released_at_end (main_of_b ∷ first_body_of_b ∷ second_body_of_b ∷ third_body_of_b ∷ last_body_of_b ∷ [])) ≡ packet_of 17 ∷ packet_of 34 ∷ packet_of 51 ∷ []
unfolding main_of_b first_body_of_b second_body_of_b third_body_of_b last_body_of_b codestream_of_b main_header main_header_of_three take_frames drained settle found_packet from_place number_bits number_of carried_after sound_after bytes_of_bits read_tile read_main head_of read_label read_passes read_lblock read_number read_block known_label read_inclusion read_planes read_seats read_grids read_bits header_of sum_below placed sorted siz_tests cap_tests cod_tests tile_tests halvings levels_from segment_tests skipped_tests first_frames
each_packet_whole = refl

-- Each is released under the main header of three precincts, the first that was taken.
pub under_the_first_header : (map (λ x. x.header) (released_at_end (main_of_b ∷ first_body_of_b ∷ second_body_of_b ∷ third_body_of_b ∷ last_body_of_b ∷ [])) ≡ main_header_of_three ∷ main_header_of_three ∷ main_header_of_three ∷ [])
    × (map (λ x. x.heads) (released_at_end (main_of_b ∷ first_body_of_b ∷ second_body_of_b ∷ third_body_of_b ∷ last_body_of_b ∷ [])) ≡ (1 ∷ 1 ∷ 1 ∷ []))
unfolding main_of_b first_body_of_b second_body_of_b third_body_of_b last_body_of_b codestream_of_b main_header main_header_of_three take_frames drained settle found_packet from_place number_bits number_of carried_after sound_after bytes_of_bits read_tile read_main head_of read_label read_passes read_lblock read_number read_block known_label read_inclusion read_planes read_seats read_grids read_bits header_of sum_below placed sorted siz_tests cap_tests cod_tests tile_tests halvings levels_from segment_tests skipped_tests first_frames
under_the_first_header = (refl, refl)

-- A second Main of the stamp is one more main header, although its bytes are the same.
pub under_the_second_header : map (λ x. x.heads) (released_at_end (main_of_b ∷ three_empty 1 ∷ renumbered 0 0 2 main_of_b ∷ three_empty 3 ∷ [])) ≡ (1 ∷ 1 ∷ 1 ∷ 2 ∷ 2 ∷ 2 ∷ [])
unfolding main_of_b first_body_of_b second_body_of_b third_body_of_b last_body_of_b codestream_of_b main_header main_header_of_three take_frames drained settle found_packet from_place number_bits number_of carried_after sound_after bytes_of_bits read_tile read_main head_of read_label read_passes read_lblock read_number read_block known_label read_inclusion read_planes read_seats read_grids read_bits header_of sum_below placed sorted siz_tests cap_tests cod_tests tile_tests halvings levels_from segment_tests skipped_tests first_frames
under_the_second_header = refl

-- A Main with a byte more is no main header that was taken.
pub unsupported_is_not_taken : map (λ x. x.heads) (released_at_end ((main_of_b ++ 0 ∷ []) ∷ renumbered 0 0 1 main_of_b ∷ three_empty 2 ∷ [])) ≡ (1 ∷ 1 ∷ 1 ∷ [])
unfolding main_of_b first_body_of_b second_body_of_b third_body_of_b last_body_of_b codestream_of_b main_header main_header_of_three take_frames drained settle found_packet from_place number_bits number_of carried_after sound_after bytes_of_bits read_tile read_main head_of read_label read_passes read_lblock read_number read_block known_label read_inclusion read_planes read_seats read_grids read_bits header_of sum_below placed sorted siz_tests cap_tests cod_tests tile_tests halvings levels_from segment_tests skipped_tests first_frames
unsupported_is_not_taken = refl
