-- What `rebuild` makes of the worked capture of three packets: with a loss, without the end, forged, and of nothing.
use Rattle.std.specs.Prelude.{◌≡◌, ◌++◌, ℕ, Bool, true, false, List, [], ◌∷◌, length, take, drop, refl}
use Rattle.wire_model.specs.Framing.{framing, first_frames}
use Rattle.wire_model.proofs.Captures.{main_of_b, first_body_of_b, second_body_of_b, third_body_of_b, last_body_of_b, codestream_of_b, main_header, main_header_of_three, packet}
use Rattle.stream_model.specs.Receiver.{take_frames, drained}
use Rattle.stream_model.specs.Decoder.{settle, found_packet, from_place}
use Rattle.codestream_model.specs.StuffedBits.{number_bits, number_of, carried_after, sound_after, bytes_of_bits}
use Rattle.codestream_model.specs.MainHeaderReading.{read_tile, read_main, head_of}
use Rattle.codestream_model.specs.PacketHeaderReading.{read_label, read_passes, read_lblock, read_number, read_block, known_label, read_inclusion, read_planes, read_seats, read_grids, read_bits, header_of}
use Rattle.codestream_model.specs.PacketOrder.{sum_below, placed, sorted}
use Rattle.codestream_model.specs.SegmentTests.{siz_tests, cap_tests, cod_tests, tile_tests}
use Rattle.codestream_model.specs.TagTrees.{halvings, levels_from}
use Rattle.codestream_model.specs.RefusedHeader.{segment_tests, skipped_tests}
use Rattle.stream_model.proofs.WorkedReceivers.{any_of}
use Rattle.rebuild_model.specs.Stripping.{segments_of}
use Rattle.rebuild_model.specs.Rebuilding.{rebuild_output, rebuilt, eoc}

-- The capture of these frames.
abbrev pub after : List (List ℕ) → Bool → List ℕ
after frames ended = rebuild_output (any_of 16) (framing frames) ended

-- Without loss the codestream is as it was sent.
pub whole_is_as_sent : after (main_of_b ∷ first_body_of_b ∷ second_body_of_b ∷ third_body_of_b ∷ last_body_of_b ∷ []) true ≡ codestream_of_b
unfolding main_of_b first_body_of_b second_body_of_b third_body_of_b last_body_of_b codestream_of_b main_header main_header_of_three take_frames drained settle found_packet from_place number_bits number_of carried_after sound_after bytes_of_bits read_tile read_main head_of read_label read_passes read_lblock read_number read_block known_label read_inclusion read_planes read_seats read_grids read_bits header_of sum_below placed sorted siz_tests cap_tests cod_tests tile_tests halvings levels_from segment_tests skipped_tests first_frames segments_of rebuilt
whole_is_as_sent = refl

-- Without the first Body its packet is empty.
pub lost_is_empty : (after (main_of_b ∷ second_body_of_b ∷ third_body_of_b ∷ last_body_of_b ∷ []) true ≡ main_header_of_three ++ (0 ∷ packet 34 ++ (packet 51 ++ eoc)))
    × (length (after (main_of_b ∷ second_body_of_b ∷ third_body_of_b ∷ last_body_of_b ∷ []) true) ≡ 297)
unfolding main_of_b first_body_of_b second_body_of_b third_body_of_b last_body_of_b codestream_of_b main_header main_header_of_three take_frames drained settle found_packet from_place number_bits number_of carried_after sound_after bytes_of_bits read_tile read_main head_of read_label read_passes read_lblock read_number read_block known_label read_inclusion read_planes read_seats read_grids read_bits header_of sum_below placed sorted siz_tests cap_tests cod_tests tile_tests halvings levels_from segment_tests skipped_tests first_frames segments_of rebuilt
lost_is_empty = (refl, refl)

-- Before the end the codestream isn't closed: it ends with the packet that was released last.
pub open_before_the_end : after (main_of_b ∷ first_body_of_b ∷ second_body_of_b ∷ []) false ≡ main_header_of_three ++ packet 17
unfolding main_of_b first_body_of_b second_body_of_b third_body_of_b last_body_of_b codestream_of_b main_header main_header_of_three take_frames drained settle found_packet from_place number_bits number_of carried_after sound_after bytes_of_bits read_tile read_main head_of read_label read_passes read_lblock read_number read_block known_label read_inclusion read_planes read_seats read_grids read_bits header_of sum_below placed sorted siz_tests cap_tests cod_tests tile_tests halvings levels_from segment_tests skipped_tests first_frames segments_of rebuilt
open_before_the_end = refl

-- Where POS of the second Body is one more, the forged mark is followed, and the third precinct comes twice: the second time in a
-- codestream of its own.
pub forged_begins_another : after (main_of_b ∷ first_body_of_b ∷ (take 17 second_body_of_b ++ (208 ∷ drop 18 second_body_of_b)) ∷ third_body_of_b ∷ last_body_of_b ∷ []) true
    ≡ (main_header_of_three ++ (packet 17 ++ (0x64 ∷ 0x22 ∷ eoc))) ++ (main_header_of_three ++ (0 ∷ 0 ∷ packet 51 ++ eoc))
unfolding main_of_b first_body_of_b second_body_of_b third_body_of_b last_body_of_b codestream_of_b main_header main_header_of_three take_frames drained settle found_packet from_place number_bits number_of carried_after sound_after bytes_of_bits read_tile read_main head_of read_label read_passes read_lblock read_number read_block known_label read_inclusion read_planes read_seats read_grids read_bits header_of sum_below placed sorted siz_tests cap_tests cod_tests tile_tests halvings levels_from segment_tests skipped_tests first_frames segments_of rebuilt
forged_begins_another = refl

-- Nothing is built of nothing.
pub nothing_is_rebuilt : after [] true ≡ []
unfolding main_of_b first_body_of_b second_body_of_b third_body_of_b last_body_of_b codestream_of_b main_header main_header_of_three take_frames drained settle found_packet from_place number_bits number_of carried_after sound_after bytes_of_bits read_tile read_main head_of read_label read_passes read_lblock read_number read_block known_label read_inclusion read_planes read_seats read_grids read_bits header_of sum_below placed sorted siz_tests cap_tests cod_tests tile_tests halvings levels_from segment_tests skipped_tests first_frames segments_of rebuilt
nothing_is_rebuilt = refl
