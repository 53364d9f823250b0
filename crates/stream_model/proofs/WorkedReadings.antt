-- Corners of what is read of frames: two main headers of one stamp, and a run that needs the Body after its Main.
use Rattle.std.specs.Prelude.{◌≡◌, ℕ, List, [], ◌∷◌, ◌++◌, map, refl, take, drop}
use Rattle.wire_model.proofs.Captures.{main_of_b, first_body_of_b, second_body_of_b, third_body_of_b, last_body_of_b, codestream_of_b, main_header, main_header_of_three}
use Rattle.stream_model.specs.Receiver.{take_frames, drained, received, flushed}
use Rattle.stream_model.specs.Decoder.{settle, found_packet, from_place}
use Rattle.codestream_model.specs.StuffedBits.{number_bits, number_of, carried_after, sound_after, bytes_of_bits}
use Rattle.codestream_model.specs.MainHeaderReading.{read_tile, read_main, head_of}
use Rattle.codestream_model.specs.PacketHeaderReading.{read_label, read_passes, read_lblock, read_number, read_block, known_label, read_inclusion, read_planes, read_seats, read_grids, read_bits, header_of}
use Rattle.codestream_model.specs.PacketOrder.{sum_below, placed, sorted}
use Rattle.codestream_model.specs.SegmentTests.{siz_tests, cap_tests, cod_tests, tile_tests}
use Rattle.codestream_model.specs.TagTrees.{halvings, levels_from}
use Rattle.codestream_model.specs.RefusedHeader.{segment_tests, skipped_tests}
use Rattle.wire_model.specs.Framing.{first_frames}
use Rattle.stream_model.proofs.WorkedReceivers.{any_of, pids_at_end, counts_at_end, counted, renumbered, marked_body}

-- the main header of three samples, with two components in place of one
abbrev pub header_of_two_components : List ℕ
header_of_two_components = take 5 main_header_of_three ++ (44 ∷ []) ++ take 35 (drop 6 main_header_of_three) ++ (2 ∷ 7 ∷ 1 ∷ 1 ∷ []) ++ drop 42 main_header_of_three

-- a Main of it with the number of the Main of the three packets
abbrev pub main_of_two_components : List ℕ
main_of_two_components = take 20 main_of_b ++ header_of_two_components

-- a Body with this number and no mark, which has three empty packets
abbrev pub three_empty : ℕ → List ℕ
three_empty number = 128 ∷ 96 ∷ 0 ∷ number ∷ 0 ∷ 0 ∷ 0 ∷ 0 ∷ 0 ∷ 0 ∷ 0 ∷ 1 ∷ 7 ∷ 0 ∷ 0 ∷ 0 ∷ 0 ∷ 0 ∷ 0 ∷ 0 ∷ 0 ∷ 0 ∷ 0 ∷ []

-- the components, the numbers and the PIDs of what is given
abbrev pub places_at_end : List (List ℕ) → List (List ℕ)
places_at_end frames = map (λ x. x.precinct.place.c ∷ x.precinct.place.k ∷ x.precinct.pid ∷ []) (flushed (received (any_of 16) frames)).releases

-- by the first header the second precinct of the component has PID 1
pub by_the_first_header : places_at_end (main_of_b ∷ three_empty 1 ∷ []) ≡ ((0 ∷ 0 ∷ 0 ∷ []) ∷ (0 ∷ 1 ∷ 1 ∷ []) ∷ (0 ∷ 2 ∷ 2 ∷ []) ∷ [])
unfolding main_of_b first_body_of_b second_body_of_b third_body_of_b last_body_of_b codestream_of_b main_header main_header_of_three take_frames drained settle found_packet from_place number_bits number_of carried_after sound_after bytes_of_bits read_tile read_main head_of read_label read_passes read_lblock read_number read_block known_label read_inclusion read_planes read_seats read_grids read_bits header_of sum_below placed sorted siz_tests cap_tests cod_tests tile_tests halvings levels_from segment_tests skipped_tests first_frames
by_the_first_header = refl

-- by the other PID 2
pub by_the_other_header : places_at_end (main_of_two_components ∷ three_empty 1 ∷ []) ≡ ((0 ∷ 0 ∷ 0 ∷ []) ∷ (1 ∷ 0 ∷ 1 ∷ []) ∷ (0 ∷ 1 ∷ 2 ∷ []) ∷ [])
unfolding main_of_b first_body_of_b second_body_of_b third_body_of_b last_body_of_b codestream_of_b main_header main_header_of_three take_frames drained settle found_packet from_place number_bits number_of carried_after sound_after bytes_of_bits read_tile read_main head_of read_label read_passes read_lblock read_number read_block known_label read_inclusion read_planes read_seats read_grids read_bits header_of sum_below placed sorted siz_tests cap_tests cod_tests tile_tests halvings levels_from segment_tests skipped_tests first_frames
by_the_other_header = refl

-- where both came with one number, the second is old and has no part in what is given
pub the_other_header_is_old : (places_at_end (main_of_b ∷ main_of_two_components ∷ three_empty 1 ∷ []) ≡ ((0 ∷ 0 ∷ 0 ∷ []) ∷ (0 ∷ 1 ∷ 1 ∷ []) ∷ (0 ∷ 2 ∷ 2 ∷ []) ∷ []))
    × (counts_at_end 16 (main_of_b ∷ main_of_two_components ∷ three_empty 1 ∷ []) ≡ counted 2 1 0 0 0 0)
unfolding main_of_b first_body_of_b second_body_of_b third_body_of_b last_body_of_b codestream_of_b main_header main_header_of_three take_frames drained settle found_packet from_place number_bits number_of carried_after sound_after bytes_of_bits read_tile read_main head_of read_label read_passes read_lblock read_number read_block known_label read_inclusion read_planes read_seats read_grids read_bits header_of sum_below placed sorted siz_tests cap_tests cod_tests tile_tests halvings levels_from segment_tests skipped_tests first_frames
the_other_header_is_old = (refl, refl)

-- a second Main of the stamp begins anew at the first precinct
pub a_second_main_begins_anew : pids_at_end 16 (main_of_b ∷ three_empty 1 ∷ renumbered 0 0 2 main_of_b ∷ three_empty 3 ∷ []) ≡ (0 ∷ 1 ∷ 2 ∷ 0 ∷ 1 ∷ 2 ∷ [])
unfolding main_of_b first_body_of_b second_body_of_b third_body_of_b last_body_of_b codestream_of_b main_header main_header_of_three take_frames drained settle found_packet from_place number_bits number_of carried_after sound_after bytes_of_bits read_tile read_main head_of read_label read_passes read_lblock read_number read_block known_label read_inclusion read_planes read_seats read_grids read_bits header_of sum_below placed sorted siz_tests cap_tests cod_tests tile_tests halvings levels_from segment_tests skipped_tests first_frames
a_second_main_begins_anew = refl

-- a run from the Main needs the Body with the next number
pub not_behind_the_main : pids_at_end 16 (main_of_b ∷ three_empty 2 ∷ []) ≡ []
unfolding main_of_b first_body_of_b second_body_of_b third_body_of_b last_body_of_b codestream_of_b main_header main_header_of_three take_frames drained settle found_packet from_place number_bits number_of carried_after sound_after bytes_of_bits read_tile read_main head_of read_label read_passes read_lblock read_number read_block known_label read_inclusion read_planes read_seats read_grids read_bits header_of sum_below placed sorted siz_tests cap_tests cod_tests tile_tests halvings levels_from segment_tests skipped_tests first_frames
not_behind_the_main = refl

-- A mark with PID 1 is read by the header in force: that of the other header, which comes after it, names another precinct.
pub a_mark_by_the_header_in_force : (places_at_end (main_of_b ∷ marked_body 0 (0 ∷ 0 ∷ 0 ∷ []) ∷ renumbered 0 0 2 main_of_two_components ∷ []) ≡ ((0 ∷ 1 ∷ 1 ∷ []) ∷ (0 ∷ 2 ∷ 2 ∷ []) ∷ []))
    × (counts_at_end 16 (main_of_b ∷ marked_body 0 (0 ∷ 0 ∷ 0 ∷ []) ∷ renumbered 0 0 2 main_of_two_components ∷ []) ≡ counted 3 0 0 0 1 0)
unfolding main_of_b first_body_of_b second_body_of_b third_body_of_b last_body_of_b codestream_of_b main_header main_header_of_three take_frames drained settle found_packet from_place number_bits number_of carried_after sound_after bytes_of_bits read_tile read_main head_of read_label read_passes read_lblock read_number read_block known_label read_inclusion read_planes read_seats read_grids read_bits header_of sum_below placed sorted siz_tests cap_tests cod_tests tile_tests halvings levels_from segment_tests skipped_tests first_frames
a_mark_by_the_header_in_force = (refl, refl)

pub the_same_mark_by_the_other : places_at_end (main_of_two_components ∷ marked_body 0 (0 ∷ 0 ∷ 0 ∷ []) ∷ []) ≡ ((1 ∷ 0 ∷ 1 ∷ []) ∷ (0 ∷ 1 ∷ 2 ∷ []) ∷ (1 ∷ 1 ∷ 3 ∷ []) ∷ [])
unfolding main_of_b first_body_of_b second_body_of_b third_body_of_b last_body_of_b codestream_of_b main_header main_header_of_three take_frames drained settle found_packet from_place number_bits number_of carried_after sound_after bytes_of_bits read_tile read_main head_of read_label read_passes read_lblock read_number read_block known_label read_inclusion read_planes read_seats read_grids read_bits header_of sum_below placed sorted siz_tests cap_tests cod_tests tile_tests halvings levels_from segment_tests skipped_tests first_frames
the_same_mark_by_the_other = refl
