-- What `pack` and `send` have written of a codestream of three packets.
use Rattle.std.specs.Prelude.{◌≡◌, true, false, [], ◌∷◌, take, replicate, refl, codes}
use Rattle.std.specs.Fmt.{digits}
use Rattle.wire_model.specs.LinkAnswers.{Sent, NotReady, Failed}
use Rattle.wire_model.proofs.Captures.{main_header_of_three, codestream_of_b, main_of_b, first_body_of_b, second_body_of_b, third_body_of_b, last_body_of_b, capture_b}
use Rattle.relay_model.specs.Queue.{send_tale}
use Rattle.codestream_model.specs.StuffedBits.{number_bits, number_of, carried_after, sound_after, bytes_of_bits}
use Rattle.codestream_model.specs.MainHeaderReading.{read_tile, read_main, head_of}
use Rattle.codestream_model.specs.PacketHeaderReading.{read_label, read_passes, read_lblock, read_number, read_block, known_label, read_inclusion, read_planes, read_seats, read_grids, read_bits, header_of}
use Rattle.codestream_model.specs.PacketOrder.{sum_below, placed, sorted}
use Rattle.codestream_model.specs.SegmentTests.{siz_tests, cap_tests, cod_tests, tile_tests}
use Rattle.codestream_model.specs.TagTrees.{halvings, levels_from}
use Rattle.codestream_model.specs.RefusedHeader.{segment_tests, skipped_tests}
use Rattle.stream_model.specs.Decoder.{found_packet}
use Rattle.stream_model.specs.Commands.{walk}
use Rattle.stream_model.proofs.WorkedCuts.{plan_of}
use Rattle.sender_model.specs.Closing.{pieces_at, known}
use Rattle.sender_model.specs.Outputs.{pack_output, send_output}

-- in datagrams of 110 bytes: the second capture, or its first frames
pub three_are_packed : (pack_output (plan_of 110 false) codestream_of_b ≡ capture_b) × (pack_output (plan_of 110 false) (take 200 codestream_of_b) ≡ take 224 capture_b)
unfolding digits send_tale capture_b main_header_of_three codestream_of_b main_of_b first_body_of_b second_body_of_b third_body_of_b last_body_of_b known pieces_at walk found_packet number_bits number_of carried_after sound_after bytes_of_bits read_tile read_main head_of read_label read_passes read_lblock read_number read_block known_label read_inclusion read_planes read_seats read_grids read_bits header_of sum_below placed sorted siz_tests cap_tests cod_tests tile_tests halvings levels_from segment_tests skipped_tests
three_are_packed = (refl, refl)

-- a link that is always ready
pub all_are_sent : send_output (plan_of 110 false) 3 codestream_of_b (replicate 5 Sent) true ≡ codes "SEND datagrams=5 sent=5 lost=0 failed=0\n"
unfolding digits send_tale capture_b main_header_of_three codestream_of_b main_of_b first_body_of_b second_body_of_b third_body_of_b last_body_of_b known pieces_at walk found_packet number_bits number_of carried_after sound_after bytes_of_bits read_tile read_main head_of read_label read_passes read_lblock read_number read_block known_label read_inclusion read_planes read_seats read_grids read_bits header_of sum_below placed sorted siz_tests cap_tests cod_tests tile_tests halvings levels_from segment_tests skipped_tests
all_are_sent = refl

-- one that is never ready
pub none_is_sent : send_output (plan_of 110 false) 3 codestream_of_b (replicate 15 NotReady) true ≡ codes "SEND datagrams=5 sent=0 lost=5 failed=0\n"
unfolding digits send_tale capture_b main_header_of_three codestream_of_b main_of_b first_body_of_b second_body_of_b third_body_of_b last_body_of_b known pieces_at walk found_packet number_bits number_of carried_after sound_after bytes_of_bits read_tile read_main head_of read_label read_passes read_lblock read_number read_block known_label read_inclusion read_planes read_seats read_grids read_bits header_of sum_below placed sorted siz_tests cap_tests cod_tests tile_tests halvings levels_from segment_tests skipped_tests
none_is_sent = refl

-- one that isn't ready twice for the first datagram, fails the second, isn't ready three times for the third, and then is ready
pub some_are_sent : send_output (plan_of 110 false) 3 codestream_of_b (NotReady ∷ NotReady ∷ Sent ∷ Failed ∷ NotReady ∷ NotReady ∷ NotReady ∷ Sent ∷ Sent ∷ []) true ≡ codes "SEND datagrams=5 sent=3 lost=1 failed=1\n"
unfolding digits send_tale capture_b main_header_of_three codestream_of_b main_of_b first_body_of_b second_body_of_b third_body_of_b last_body_of_b known pieces_at walk found_packet number_bits number_of carried_after sound_after bytes_of_bits read_tile read_main head_of read_label read_passes read_lblock read_number read_block known_label read_inclusion read_planes read_seats read_grids read_bits header_of sum_below placed sorted siz_tests cap_tests cod_tests tile_tests halvings levels_from segment_tests skipped_tests
some_are_sent = refl

-- nothing is written before the end
pub nothing_before_the_end : send_output (plan_of 110 false) 3 codestream_of_b (replicate 5 Sent) false ≡ []
unfolding digits send_tale capture_b main_header_of_three codestream_of_b main_of_b first_body_of_b second_body_of_b third_body_of_b last_body_of_b known pieces_at walk found_packet number_bits number_of carried_after sound_after bytes_of_bits read_tile read_main head_of read_label read_passes read_lblock read_number read_block known_label read_inclusion read_planes read_seats read_grids read_bits header_of sum_below placed sorted siz_tests cap_tests cod_tests tile_tests halvings levels_from segment_tests skipped_tests
nothing_before_the_end = refl
