-- What a receiver makes of forged, padded and far datagrams, and of the cut of two codestreams.
use Rattle.std.specs.Prelude.{◌≡◌, ◌*◌, ◌+◌, ℕ, false, List, [], ◌∷◌, ◌++◌, map, take, drop, refl}
use Rattle.std.proofs.Common.{arith}
use Rattle.wire_model.proofs.Captures.{main_header, main_header_of_three, codestream_of_b, main_of_b, first_body_of_b, second_body_of_b, third_body_of_b, last_body_of_b}
use Rattle.codestream_model.specs.StuffedBits.{number_bits, number_of, carried_after, sound_after, bytes_of_bits}
use Rattle.codestream_model.specs.MainHeaderReading.{read_tile, read_main, head_of}
use Rattle.codestream_model.specs.PacketHeaderReading.{read_label, read_passes, read_lblock, read_number, read_block, known_label, read_inclusion, read_planes, read_seats, read_grids, read_bits, header_of}
use Rattle.codestream_model.specs.PacketOrder.{sum_below, placed, sorted}
use Rattle.codestream_model.specs.SegmentTests.{siz_tests, cap_tests, cod_tests, tile_tests}
use Rattle.codestream_model.specs.TagTrees.{halvings, levels_from}
use Rattle.codestream_model.specs.RefusedHeader.{segment_tests, skipped_tests}
use Rattle.stream_model.specs.Arrivals.{Arrive, datagram_at}
use Rattle.stream_model.specs.Decoder.{settle, found_packet, from_place}
use Rattle.stream_model.specs.Receiver.{take_frames, drained, received, flushed}
use Rattle.stream_model.proofs.WorkedCuts.{plan_of, written}
use Rattle.stream_model.proofs.WorkedReadings.{three_empty}
use Rattle.stream_model.proofs.WorkedReceivers.{any_of, pids_at_end, counts_at_end, counted, renumbered, restamped}
use Rattle.stream_model.proofs.WorkedStreams.{parts_of_three}

-- the PID of a Body changed to 3, which no precinct has
abbrev pub unknown_pid : List ℕ → List ℕ
unknown_pid d = take 19 d ++ 3 ∷ drop 20 d

-- one byte of a datagram changed
abbrev pub changed_at : ℕ → ℕ → List ℕ → List ℕ
changed_at i byte d = take i d ++ byte ∷ drop (i + 1) d

-- an unknown PID disagrees, and the bytes join the run all the same
pub an_unknown_pid : (pids_at_end 16 (main_of_b ∷ unknown_pid first_body_of_b ∷ second_body_of_b ∷ third_body_of_b ∷ last_body_of_b ∷ []) ≡ 0 ∷ 1 ∷ 2 ∷ [])
    × (counts_at_end 16 (main_of_b ∷ unknown_pid first_body_of_b ∷ second_body_of_b ∷ third_body_of_b ∷ last_body_of_b ∷ []) ≡ counted 5 0 0 0 1 0)
unfolding main_of_b first_body_of_b second_body_of_b third_body_of_b last_body_of_b codestream_of_b main_header main_header_of_three take_frames drained settle found_packet from_place number_bits number_of carried_after sound_after bytes_of_bits read_tile read_main head_of read_label read_passes read_lblock read_number read_block known_label read_inclusion read_planes read_seats read_grids read_bits header_of sum_below placed sorted siz_tests cap_tests cod_tests tile_tests halvings levels_from segment_tests skipped_tests
an_unknown_pid = (refl, refl)

-- without a main header it counts for nothing
pub an_unknown_pid_alone : (pids_at_end 16 (unknown_pid first_body_of_b ∷ []) ≡ [])
    × (counts_at_end 16 (unknown_pid first_body_of_b ∷ []) ≡ counted 1 0 0 0 0 0)
unfolding main_of_b first_body_of_b second_body_of_b third_body_of_b last_body_of_b codestream_of_b main_header main_header_of_three take_frames drained settle found_packet from_place number_bits number_of carried_after sound_after bytes_of_bits read_tile read_main head_of read_label read_passes read_lblock read_number read_block known_label read_inclusion read_planes read_seats read_grids read_bits header_of sum_below placed sorted siz_tests cap_tests cod_tests tile_tests halvings levels_from segment_tests skipped_tests
an_unknown_pid_alone = (refl, refl)

-- and so where the Body has another stamp
pub an_unknown_pid_of_another : (pids_at_end 16 (main_of_b ∷ restamped (unknown_pid first_body_of_b) ∷ []) ≡ [])
    × (counts_at_end 16 (main_of_b ∷ restamped (unknown_pid first_body_of_b) ∷ []) ≡ counted 2 0 0 0 0 0)
unfolding main_of_b first_body_of_b second_body_of_b third_body_of_b last_body_of_b codestream_of_b main_header main_header_of_three take_frames drained settle found_packet from_place number_bits number_of carried_after sound_after bytes_of_bits read_tile read_main head_of read_label read_passes read_lblock read_number read_block known_label read_inclusion read_planes read_seats read_grids read_bits header_of sum_below placed sorted siz_tests cap_tests cod_tests tile_tests halvings levels_from segment_tests skipped_tests
an_unknown_pid_of_another = (refl, refl)

-- a Main without its last byte is none
pub a_main_with_a_byte_less : (pids_at_end 16 (take 109 main_of_b ∷ first_body_of_b ∷ second_body_of_b ∷ third_body_of_b ∷ last_body_of_b ∷ []) ≡ [])
    × (counts_at_end 16 (take 109 main_of_b ∷ first_body_of_b ∷ second_body_of_b ∷ third_body_of_b ∷ last_body_of_b ∷ []) ≡ counted 5 0 0 1 0 0)
unfolding main_of_b first_body_of_b second_body_of_b third_body_of_b last_body_of_b codestream_of_b main_header main_header_of_three take_frames drained settle found_packet from_place number_bits number_of carried_after sound_after bytes_of_bits read_tile read_main head_of read_label read_passes read_lblock read_number read_block known_label read_inclusion read_planes read_seats read_grids read_bits header_of sum_below placed sorted siz_tests cap_tests cod_tests tile_tests halvings levels_from segment_tests skipped_tests
a_main_with_a_byte_less = (refl, refl)

-- a Main with a byte too many takes the main header before it away
pub a_bad_main_after_a_good_one : (pids_at_end 16 (main_of_b ∷ renumbered 0 0 1 (main_of_b ++ 0 ∷ []) ∷ three_empty 2 ∷ []) ≡ [])
    × (counts_at_end 16 (main_of_b ∷ renumbered 0 0 1 (main_of_b ++ 0 ∷ []) ∷ three_empty 2 ∷ []) ≡ counted 3 0 0 1 0 0)
unfolding main_of_b first_body_of_b second_body_of_b third_body_of_b last_body_of_b codestream_of_b main_header main_header_of_three take_frames drained settle found_packet from_place number_bits number_of carried_after sound_after bytes_of_bits read_tile read_main head_of read_label read_passes read_lblock read_number read_block known_label read_inclusion read_planes read_seats read_grids read_bits header_of sum_below placed sorted siz_tests cap_tests cod_tests tile_tests halvings levels_from segment_tests skipped_tests
a_bad_main_after_a_good_one = (refl, refl)

-- the first byte of the second packet changed to one that is refused
pub a_refused_packet : (pids_at_end 16 (main_of_b ∷ first_body_of_b ∷ changed_at 32 250 second_body_of_b ∷ third_body_of_b ∷ last_body_of_b ∷ []) ≡ 0 ∷ 2 ∷ [])
    × (counts_at_end 16 (main_of_b ∷ first_body_of_b ∷ changed_at 32 250 second_body_of_b ∷ third_body_of_b ∷ last_body_of_b ∷ []) ≡ counted 5 0 0 0 0 1)
unfolding main_of_b first_body_of_b second_body_of_b third_body_of_b last_body_of_b codestream_of_b main_header main_header_of_three take_frames drained settle found_packet from_place number_bits number_of carried_after sound_after bytes_of_bits read_tile read_main head_of read_label read_passes read_lblock read_number read_block known_label read_inclusion read_planes read_seats read_grids read_bits header_of sum_below placed sorted siz_tests cap_tests cod_tests tile_tests halvings levels_from segment_tests skipped_tests
a_refused_packet = (refl, refl)

-- a repeat of a datagram that is still held is old
pub a_repeat_that_is_held : (pids_at_end 16 (main_of_b ∷ second_body_of_b ∷ second_body_of_b ∷ first_body_of_b ∷ third_body_of_b ∷ last_body_of_b ∷ []) ≡ 0 ∷ 1 ∷ 2 ∷ [])
    × (counts_at_end 16 (main_of_b ∷ second_body_of_b ∷ second_body_of_b ∷ first_body_of_b ∷ third_body_of_b ∷ last_body_of_b ∷ []) ≡ counted 5 1 0 0 0 0)
unfolding main_of_b first_body_of_b second_body_of_b third_body_of_b last_body_of_b codestream_of_b main_header main_header_of_three take_frames drained settle found_packet from_place number_bits number_of carried_after sound_after bytes_of_bits read_tile read_main head_of read_label read_passes read_lblock read_number read_block known_label read_inclusion read_planes read_seats read_grids read_bits header_of sum_below placed sorted siz_tests cap_tests cod_tests tile_tests halvings levels_from segment_tests skipped_tests
a_repeat_that_is_held = (refl, refl)

-- after five datagrams the number that is 2^23 - 1 ahead of the next one is kept,
pub half_ahead : (counts_at_end 16 (main_of_b ∷ first_body_of_b ∷ second_body_of_b ∷ third_body_of_b ∷ last_body_of_b ∷ renumbered 128 0 4 last_body_of_b ∷ []) ≡ counted 6 0 0 0 0 0)
unfolding main_of_b first_body_of_b second_body_of_b third_body_of_b last_body_of_b codestream_of_b main_header main_header_of_three take_frames drained settle found_packet from_place number_bits number_of carried_after sound_after bytes_of_bits read_tile read_main head_of read_label read_passes read_lblock read_number read_block known_label read_inclusion read_planes read_seats read_grids read_bits header_of sum_below placed sorted siz_tests cap_tests cod_tests tile_tests halvings levels_from segment_tests skipped_tests
half_ahead = refl

-- and the one after it is old
pub half_behind : (counts_at_end 16 (main_of_b ∷ first_body_of_b ∷ second_body_of_b ∷ third_body_of_b ∷ last_body_of_b ∷ renumbered 128 0 5 last_body_of_b ∷ []) ≡ counted 5 1 0 0 0 0)
unfolding main_of_b first_body_of_b second_body_of_b third_body_of_b last_body_of_b codestream_of_b main_header main_header_of_three take_frames drained settle found_packet from_place number_bits number_of carried_after sound_after bytes_of_bits read_tile read_main head_of read_label read_passes read_lblock read_number read_block known_label read_inclusion read_planes read_seats read_grids read_bits header_of sum_below placed sorted siz_tests cap_tests cod_tests tile_tests halvings levels_from segment_tests skipped_tests
half_behind = refl

-- a malformed frame of another source, with POS past its bytes, fixes no source
pub a_malformed_frame_fixes_nothing : (pids_at_end 16 ((take 8 first_body_of_b ++ (0 ∷ 0 ∷ 0 ∷ 7 ∷ []) ++ take 4 (drop 12 first_body_of_b) ++ (255 ∷ 240 ∷ []) ++ drop 18 first_body_of_b) ∷ main_of_b ∷ first_body_of_b ∷ second_body_of_b ∷ third_body_of_b ∷ last_body_of_b ∷ []) ≡ 0 ∷ 1 ∷ 2 ∷ [])
    × (counts_at_end 16 ((take 8 first_body_of_b ++ (0 ∷ 0 ∷ 0 ∷ 7 ∷ []) ++ take 4 (drop 12 first_body_of_b) ++ (255 ∷ 240 ∷ []) ++ drop 18 first_body_of_b) ∷ main_of_b ∷ first_body_of_b ∷ second_body_of_b ∷ third_body_of_b ∷ last_body_of_b ∷ []) ≡ counted 5 0 1 0 0 0)
unfolding main_of_b first_body_of_b second_body_of_b third_body_of_b last_body_of_b codestream_of_b main_header main_header_of_three take_frames drained settle found_packet from_place number_bits number_of carried_after sound_after bytes_of_bits read_tile read_main head_of read_label read_passes read_lblock read_number read_block known_label read_inclusion read_planes read_seats read_grids read_bits header_of sum_below placed sorted siz_tests cap_tests cod_tests tile_tests halvings levels_from segment_tests skipped_tests
a_malformed_frame_fixes_nothing = (refl, refl)

-- a Body of one codestream byte and four bytes of padding, with this ORDB and POS
abbrev pub padded_body : ℕ → ℕ → List ℕ
padded_body ordb pos = 160 ∷ 96 ∷ 0 ∷ 1 ∷ 0 ∷ 0 ∷ 0 ∷ 0 ∷ 0 ∷ 0 ∷ 0 ∷ 1 ∷ 7 ∷ (ordb * 128) ∷ 0 ∷ 0 ∷ 0 ∷ (pos * 16) ∷ 0 ∷ 0 ∷ 0 ∷ 0 ∷ 0 ∷ 0 ∷ 4 ∷ []

-- padding isn't payload: the one byte is an empty packet,
pub a_padded_body : (pids_at_end 16 (main_of_b ∷ padded_body 1 0 ∷ []) ≡ 0 ∷ [])
    × (counts_at_end 16 (main_of_b ∷ padded_body 1 0 ∷ []) ≡ counted 2 0 0 0 0 0)
unfolding main_of_b first_body_of_b second_body_of_b third_body_of_b last_body_of_b codestream_of_b main_header main_header_of_three take_frames drained settle found_packet from_place number_bits number_of carried_after sound_after bytes_of_bits read_tile read_main head_of read_label read_passes read_lblock read_number read_block known_label read_inclusion read_planes read_seats read_grids read_bits header_of sum_below placed sorted siz_tests cap_tests cod_tests tile_tests halvings levels_from segment_tests skipped_tests
a_padded_body = (refl, refl)

-- POS in the padding is past the payload,
pub pos_in_the_padding : (pids_at_end 16 (main_of_b ∷ padded_body 1 1 ∷ []) ≡ [])
    × (counts_at_end 16 (main_of_b ∷ padded_body 1 1 ∷ []) ≡ counted 1 0 1 0 0 0)
unfolding main_of_b first_body_of_b second_body_of_b third_body_of_b last_body_of_b codestream_of_b main_header main_header_of_three take_frames drained settle found_packet from_place number_bits number_of carried_after sound_after bytes_of_bits read_tile read_main head_of read_label read_passes read_lblock read_number read_block known_label read_inclusion read_planes read_seats read_grids read_bits header_of sum_below placed sorted siz_tests cap_tests cod_tests tile_tests halvings levels_from segment_tests skipped_tests
pos_in_the_padding = (refl, refl)

-- and POS isn't looked at where ORDB is 0
pub pos_without_ordb : (pids_at_end 16 (main_of_b ∷ padded_body 0 1 ∷ []) ≡ 0 ∷ [])
    × (counts_at_end 16 (main_of_b ∷ padded_body 0 1 ∷ []) ≡ counted 2 0 0 0 0 0)
unfolding main_of_b first_body_of_b second_body_of_b third_body_of_b last_body_of_b codestream_of_b main_header main_header_of_three take_frames drained settle found_packet from_place number_bits number_of carried_after sound_after bytes_of_bits read_tile read_main head_of read_label read_passes read_lblock read_number read_block known_label read_inclusion read_planes read_seats read_grids read_bits header_of sum_below placed sorted siz_tests cap_tests cod_tests tile_tests halvings levels_from segment_tests skipped_tests
pos_without_ordb = (refl, refl)

-- a Body without codestream bytes is no gap
pub a_body_without_bytes : (pids_at_end 16 (main_of_b ∷ take 20 (three_empty 1) ∷ three_empty 2 ∷ []) ≡ 0 ∷ 1 ∷ 2 ∷ [])
    × (counts_at_end 16 (main_of_b ∷ take 20 (three_empty 1) ∷ three_empty 2 ∷ []) ≡ counted 3 0 0 0 0 0)
unfolding main_of_b first_body_of_b second_body_of_b third_body_of_b last_body_of_b codestream_of_b main_header main_header_of_three take_frames drained settle found_packet from_place number_bits number_of carried_after sound_after bytes_of_bits read_tile read_main head_of read_label read_passes read_lblock read_number read_block known_label read_inclusion read_planes read_seats read_grids read_bits header_of sum_below placed sorted siz_tests cap_tests cod_tests tile_tests halvings levels_from segment_tests skipped_tests
a_body_without_bytes = (refl, refl)

-- the ten datagrams of the cut of two codestreams
abbrev pub cut_of_two : List (List ℕ)
cut_of_two = written (plan_of 110 false) (parts_of_three ∷ parts_of_three ∷ [])

-- those that come, as positions
abbrev pub some_of_two : List ℕ → List (List ℕ)
some_of_two positions = map (datagram_at cut_of_two) positions

-- without the second Main nothing of the second codestream is given,
pub cut_without_second_main : (pids_at_end 16 (some_of_two (0 ∷ 1 ∷ 2 ∷ 3 ∷ 4 ∷ 6 ∷ 7 ∷ 8 ∷ 9 ∷ [])) ≡ 0 ∷ 1 ∷ 2 ∷ [])
    × (counts_at_end 16 (some_of_two (0 ∷ 1 ∷ 2 ∷ 3 ∷ 4 ∷ 6 ∷ 7 ∷ 8 ∷ 9 ∷ [])) ≡ counted 9 0 0 0 0 0)
unfolding main_of_b first_body_of_b second_body_of_b third_body_of_b last_body_of_b codestream_of_b main_header main_header_of_three take_frames drained settle found_packet from_place number_bits number_of carried_after sound_after bytes_of_bits read_tile read_main head_of read_label read_passes read_lblock read_number read_block known_label read_inclusion read_planes read_seats read_grids read_bits header_of sum_below placed sorted siz_tests cap_tests cod_tests tile_tests halvings levels_from segment_tests skipped_tests
cut_without_second_main = (refl, refl)

-- and from the third datagram on the second codestream alone, with its stamp
pub cut_from_the_third : (map (λ x. x.precinct.stamp) (flushed (received (any_of 16) (some_of_two (2 ∷ 3 ∷ 4 ∷ 5 ∷ 6 ∷ 7 ∷ 8 ∷ 9 ∷ [])))).releases ≡ 3600 ∷ 3600 ∷ 3600 ∷ [])
    × (counts_at_end 16 (some_of_two (2 ∷ 3 ∷ 4 ∷ 5 ∷ 6 ∷ 7 ∷ 8 ∷ 9 ∷ [])) ≡ counted 8 0 0 0 0 0)
unfolding main_of_b first_body_of_b second_body_of_b third_body_of_b last_body_of_b codestream_of_b main_header main_header_of_three take_frames drained settle found_packet from_place number_bits number_of carried_after sound_after bytes_of_bits read_tile read_main head_of read_label read_passes read_lblock read_number read_block known_label read_inclusion read_planes read_seats read_grids read_bits header_of sum_below placed sorted siz_tests cap_tests cod_tests tile_tests halvings levels_from segment_tests skipped_tests
cut_from_the_third = (refl, refl)

-- datagrams that come late and twice arrive at these positions
pub late_and_twice : Arrive (main_of_b ∷ first_body_of_b ∷ second_body_of_b ∷ third_body_of_b ∷ last_body_of_b ∷ []) (main_of_b ∷ second_body_of_b ∷ first_body_of_b ∷ first_body_of_b ∷ third_body_of_b ∷ last_body_of_b ∷ []) (0 ∷ 2 ∷ 1 ∷ 1 ∷ 3 ∷ 4 ∷ [])
late_and_twice = record { within = (omega arith, (omega arith, (omega arith, (omega arith, (omega arith, (omega arith, tt)))))); each = refl }
