-- The lines that commands write on worked inputs.
use Rattle.std.specs.Prelude.{◌≡◌, ℕ, List, [], ◌∷◌, ◌++◌, refl, codes, true, false, Some, None, take}
use Rattle.std.specs.Fmt.{digits}
use Rattle.wire_model.proofs.Captures.{main_of_b, first_body_of_b, second_body_of_b, third_body_of_b, last_body_of_b, codestream_of_b, main_header, capture_a, main_header_of_three}
use Rattle.stream_model.specs.Receiver.{take_frames, drained}
use Rattle.stream_model.specs.Decoder.{settle, found_packet, from_place}
use Rattle.codestream_model.specs.StuffedBits.{number_bits, number_of, carried_after, sound_after, bytes_of_bits}
use Rattle.codestream_model.specs.MainHeaderReading.{read_tile, read_main, head_of}
use Rattle.codestream_model.specs.PacketHeaderReading.{read_label, read_passes, read_lblock, read_number, read_block, known_label, read_inclusion, read_planes, read_seats, read_grids, read_bits, header_of}
use Rattle.codestream_model.specs.PacketOrder.{sum_below, placed, sorted}
use Rattle.codestream_model.specs.SegmentTests.{siz_tests, cap_tests, cod_tests, tile_tests}
use Rattle.codestream_model.specs.TagTrees.{halvings, levels_from}
use Rattle.codestream_model.specs.RefusedHeader.{segment_tests, skipped_tests}
use Rattle.wire_model.specs.Framing.{first_frames}
use Rattle.stream_model.specs.Commands.{walk, parsed, thin_output, parse_lines, report_lines}

-- the codestream of one pixel, and its line and that of its code-block
abbrev pub codestream_of_a : List ℕ
codestream_of_a = main_header ++ (200 ∷ 128 ∷ 170 ∷ 187 ∷ 255 ∷ 217 ∷ [])

pub a_codestream_is_parsed : parse_lines 0 3600 codestream_of_a ≡ codes "P stamp=0 pid=0 c=0 r=0 k=0 blocks=1\nB band=0 col=0 row=0 planes=2 passes=1 cleanup=2 refine=0 bytes=aabb\n"
unfolding digits walk parsed main_of_b first_body_of_b second_body_of_b third_body_of_b last_body_of_b codestream_of_b main_header main_header_of_three capture_a take_frames drained settle found_packet from_place number_bits number_of carried_after sound_after bytes_of_bits read_tile read_main head_of read_label read_passes read_lblock read_number read_block known_label read_inclusion read_planes read_seats read_grids read_bits header_of sum_below placed sorted siz_tests cap_tests cod_tests tile_tests halvings levels_from segment_tests skipped_tests first_frames
a_codestream_is_parsed = refl

-- an empty packet
pub an_empty_packet_is_parsed : parse_lines 0 3600 (main_header ++ (0 ∷ 255 ∷ 217 ∷ [])) ≡ codes "P stamp=0 pid=0 c=0 r=0 k=0 blocks=0\n"
unfolding digits walk parsed main_of_b first_body_of_b second_body_of_b third_body_of_b last_body_of_b codestream_of_b main_header main_header_of_three capture_a take_frames drained settle found_packet from_place number_bits number_of carried_after sound_after bytes_of_bits read_tile read_main head_of read_label read_passes read_lblock read_number read_block known_label read_inclusion read_planes read_seats read_grids read_bits header_of sum_below placed sorted siz_tests cap_tests cod_tests tile_tests halvings levels_from segment_tests skipped_tests first_frames
an_empty_packet_is_parsed = refl

-- a stuffed bit inside the header, and Lblock 15
pub a_stuffed_header_is_parsed : parse_lines 0 3600 (main_header ++ (239 ∷ 255 ∷ 0 ∷ 1 ∷ 0 ∷ 1 ∷ 2 ∷ 255 ∷ 217 ∷ [])) ≡ codes "P stamp=0 pid=0 c=0 r=0 k=0 blocks=1\nB band=0 col=0 row=0 planes=0 passes=1 cleanup=2 refine=0 bytes=0102\n"
unfolding digits walk parsed main_of_b first_body_of_b second_body_of_b third_body_of_b last_body_of_b codestream_of_b main_header main_header_of_three capture_a take_frames drained settle found_packet from_place number_bits number_of carried_after sound_after bytes_of_bits read_tile read_main head_of read_label read_passes read_lblock read_number read_block known_label read_inclusion read_planes read_seats read_grids read_bits header_of sum_below placed sorted siz_tests cap_tests cod_tests tile_tests halvings levels_from segment_tests skipped_tests first_frames
a_stuffed_header_is_parsed = refl

-- nothing of a packet whose header is refused
pub a_refused_packet_gives_no_line : parse_lines 0 3600 (main_header ++ (250 ∷ [])) ≡ []
unfolding digits walk parsed main_of_b first_body_of_b second_body_of_b third_body_of_b last_body_of_b codestream_of_b main_header main_header_of_three capture_a take_frames drained settle found_packet from_place number_bits number_of carried_after sound_after bytes_of_bits read_tile read_main head_of read_label read_passes read_lblock read_number read_block known_label read_inclusion read_planes read_seats read_grids read_bits header_of sum_below placed sorted siz_tests cap_tests cod_tests tile_tests halvings levels_from segment_tests skipped_tests first_frames
a_refused_packet_gives_no_line = refl

-- the second codestream has the next stamp
pub two_codestreams_are_parsed : parse_lines 0 3600 ((main_header ++ (0 ∷ 255 ∷ 217 ∷ [])) ++ (main_header ++ (0 ∷ 255 ∷ 217 ∷ []))) ≡ codes "P stamp=0 pid=0 c=0 r=0 k=0 blocks=0\nP stamp=3600 pid=0 c=0 r=0 k=0 blocks=0\n"
unfolding digits walk parsed main_of_b first_body_of_b second_body_of_b third_body_of_b last_body_of_b codestream_of_b main_header main_header_of_three capture_a take_frames drained settle found_packet from_place number_bits number_of carried_after sound_after bytes_of_bits read_tile read_main head_of read_label read_passes read_lblock read_number read_block known_label read_inclusion read_planes read_seats read_grids read_bits header_of sum_below placed sorted siz_tests cap_tests cod_tests tile_tests halvings levels_from segment_tests skipped_tests first_frames
two_codestreams_are_parsed = refl

-- capture A reported: its precinct once its Body came, and the counts at the end
pub a_capture_is_reported : report_lines (record { kind = 96; source = Some 1; window = 64 }) capture_a true ≡ codes "P stamp=0 pid=0 c=0 r=0 k=0 blocks=1\nB band=0 col=0 row=0 planes=2 passes=1 cleanup=2 refine=0 bytes=aabb\nEND kept=2 old=0 refused=0 unsupported=0 disagreed=0 broken=0\n"
unfolding digits main_of_b first_body_of_b second_body_of_b third_body_of_b last_body_of_b codestream_of_b main_header main_header_of_three capture_a take_frames drained settle found_packet from_place number_bits number_of carried_after sound_after bytes_of_bits read_tile read_main head_of read_label read_passes read_lblock read_number read_block known_label read_inclusion read_planes read_seats read_grids read_bits header_of sum_below placed sorted siz_tests cap_tests cod_tests tile_tests halvings levels_from segment_tests skipped_tests first_frames
a_capture_is_reported = refl

-- .. of another source
pub another_source_is_refused : report_lines (record { kind = 96; source = Some 2; window = 16 }) capture_a true ≡ codes "END kept=0 old=0 refused=2 unsupported=0 disagreed=0 broken=0\n"
unfolding digits main_of_b first_body_of_b second_body_of_b third_body_of_b last_body_of_b codestream_of_b main_header main_header_of_three capture_a take_frames drained settle found_packet from_place number_bits number_of carried_after sound_after bytes_of_bits read_tile read_main head_of read_label read_passes read_lblock read_number read_block known_label read_inclusion read_planes read_seats read_grids read_bits header_of sum_below placed sorted siz_tests cap_tests cod_tests tile_tests halvings levels_from segment_tests skipped_tests first_frames
another_source_is_refused = refl

-- .. and before its end, once the Main alone was read
pub nothing_is_due_of_a_main : report_lines (record { kind = 96; source = None; window = 16 }) (take 111 capture_a) false ≡ []
unfolding digits main_of_b first_body_of_b second_body_of_b third_body_of_b last_body_of_b codestream_of_b main_header main_header_of_three capture_a take_frames drained settle found_packet from_place number_bits number_of carried_after sound_after bytes_of_bits read_tile read_main head_of read_label read_passes read_lblock read_number read_block known_label read_inclusion read_planes read_seats read_grids read_bits header_of sum_below placed sorted siz_tests cap_tests cod_tests tile_tests halvings levels_from segment_tests skipped_tests first_frames
nothing_is_due_of_a_main = refl

-- an empty capture reported
pub an_empty_capture_is_reported : report_lines (record { kind = 96; source = None; window = 16 }) [] true ≡ codes "END kept=0 old=0 refused=0 unsupported=0 disagreed=0 broken=0\n"
unfolding digits main_of_b first_body_of_b second_body_of_b third_body_of_b last_body_of_b codestream_of_b main_header main_header_of_three capture_a take_frames drained settle found_packet from_place number_bits number_of carried_after sound_after bytes_of_bits read_tile read_main head_of read_label read_passes read_lblock read_number read_block known_label read_inclusion read_planes read_seats read_grids read_bits header_of sum_below placed sorted siz_tests cap_tests cod_tests tile_tests halvings levels_from segment_tests skipped_tests first_frames
an_empty_capture_is_reported = refl

-- capture A thinned
pub a_capture_is_thinned : (thin_output 7 capture_a ≡ capture_a) × (thin_output 0 capture_a ≡ take 111 capture_a) × (thin_output 7 (take 120 capture_a) ≡ take 111 capture_a)
unfolding main_of_b first_body_of_b second_body_of_b third_body_of_b last_body_of_b codestream_of_b main_header main_header_of_three capture_a take_frames drained settle found_packet from_place number_bits number_of carried_after sound_after bytes_of_bits read_tile read_main head_of read_label read_passes read_lblock read_number read_block known_label read_inclusion read_planes read_seats read_grids read_bits header_of sum_below placed sorted siz_tests cap_tests cod_tests tile_tests halvings levels_from segment_tests skipped_tests first_frames
a_capture_is_thinned = (refl, refl, refl)
