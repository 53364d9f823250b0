-- How a generated codestream is packed, and what its first bytes close, against the values of another program.
use Rattle.std.specs.Prelude.{◌≡◌, ℕ, Bool, true, false, [], ◌∷◌, map, length, take, refl}
use Rattle.wire_model.specs.Payload.{PayloadFields, Main, Body}
use Rattle.wire_model.specs.Datagram.{Datagram}
use Rattle.codestream_model.specs.StuffedBits.{number_bits, number_of, carried_after, sound_after, bytes_of_bits}
use Rattle.codestream_model.specs.MainHeaderReading.{read_tile, read_main, head_of}
use Rattle.codestream_model.specs.PacketHeaderReading.{read_label, read_passes, read_lblock, read_number, read_block, known_label, read_inclusion, read_planes, read_seats, read_grids, read_bits, header_of}
use Rattle.codestream_model.specs.PacketOrder.{sum_below, placed, sorted}
use Rattle.codestream_model.specs.SegmentTests.{siz_tests, cap_tests, cod_tests, tile_tests}
use Rattle.codestream_model.specs.TagTrees.{halvings, levels_from}
use Rattle.codestream_model.specs.RefusedHeader.{segment_tests, skipped_tests}
use Rattle.stream_model.specs.Decoder.{found_packet}
use Rattle.stream_model.specs.Commands.{walk}
use Rattle.stream_model.proofs.WorkedCuts.{plan_of}
use Rattle.sender_model.specs.Closing.{pieces_at, known, due_by}
use Rattle.trial_model.proofs.WorkedDraws.{codestream_of_marked}

-- RES, ORDB, POS and PID, which a Main hasn't
abbrev pub marks_of : PayloadFields → ℕ × Bool × ℕ × ℕ
marks_of (Main h) = (0, false, 0, 0)
marks_of (Body h) = (h.res, h.ordb, h.pos, h.pid)

-- of a datagram: the number of its codestream bytes, M, RES, ORDB, POS and PID
abbrev pub outline : Datagram → ℕ × Bool × ℕ × Bool × ℕ × ℕ
outline x = (length x.codestream, x.rtp.marker, (marks_of x.payload).0, (marks_of x.payload).1, (marks_of x.payload).2, (marks_of x.payload).3)

-- In datagrams of 130 bytes, for which the main header just fits, split by resolution,
pub marked_is_split : map outline (due_by (plan_of 130 true) codestream_of_marked) ≡ (110, false, 0, false, 0, 0) ∷ (67, false, 6, true, 0, 0) ∷ (110, false, 7, true, 0, 3) ∷ (110, false, 7, false, 0, 0) ∷ (110, false, 7, true, 75, 5) ∷ (35, true, 7, false, 0, 0) ∷ []
unfolding known pieces_at walk found_packet number_bits number_of carried_after sound_after bytes_of_bits read_tile read_main head_of read_label read_passes read_lblock read_number read_block known_label read_inclusion read_planes read_seats read_grids read_bits header_of sum_below placed sorted siz_tests cap_tests cod_tests tile_tests halvings levels_from segment_tests skipped_tests
marked_is_split = refl

-- and plain
pub marked_is_plain : map outline (due_by (plan_of 130 false) codestream_of_marked) ≡ (110, false, 0, false, 0, 0) ∷ (110, false, 6, true, 0, 0) ∷ (110, false, 7, false, 0, 0) ∷ (110, false, 7, false, 0, 0) ∷ (102, true, 7, true, 32, 5) ∷ []
unfolding known pieces_at walk found_packet number_bits number_of carried_after sound_after bytes_of_bits read_tile read_main head_of read_label read_passes read_lblock read_number read_block known_label read_inclusion read_planes read_seats read_grids read_bits header_of sum_below placed sorted siz_tests cap_tests cod_tests tile_tests halvings levels_from segment_tests skipped_tests
marked_is_plain = refl

-- the numbers of datagrams that first bytes of these numbers close
pub marked_closes : map (λ n. length (due_by (plan_of 130 true) (take n codestream_of_marked))) (109 ∷ 110 ∷ 112 ∷ 113 ∷ 115 ∷ 116 ∷ 118 ∷ 119 ∷ 123 ∷ 126 ∷ 170 ∷ 171 ∷ 176 ∷ 177 ∷ 178 ∷ 200 ∷ 210 ∷ 211 ∷ 212 ∷ 250 ∷ 290 ∷ 291 ∷ 292 ∷ 400 ∷ 463 ∷ 464 ∷ 470 ∷ 475 ∷ 476 ∷ 536 ∷ 540 ∷ 541 ∷ 542 ∷ []) ≡ 0 ∷ 1 ∷ 1 ∷ 1 ∷ 1 ∷ 1 ∷ 1 ∷ 1 ∷ 1 ∷ 1 ∷ 1 ∷ 1 ∷ 1 ∷ 1 ∷ 1 ∷ 2 ∷ 2 ∷ 2 ∷ 2 ∷ 2 ∷ 3 ∷ 3 ∷ 3 ∷ 4 ∷ 4 ∷ 4 ∷ 4 ∷ 4 ∷ 4 ∷ 5 ∷ 5 ∷ 5 ∷ 6 ∷ []
unfolding known pieces_at walk found_packet number_bits number_of carried_after sound_after bytes_of_bits read_tile read_main head_of read_label read_passes read_lblock read_number read_block known_label read_inclusion read_planes read_seats read_grids read_bits header_of sum_below placed sorted siz_tests cap_tests cod_tests tile_tests halvings levels_from segment_tests skipped_tests
marked_closes = refl

-- and none where the main header needs one byte more than there is room for
pub marked_has_no_room : due_by (plan_of 129 true) codestream_of_marked ≡ []
unfolding known pieces_at walk found_packet number_bits number_of carried_after sound_after bytes_of_bits read_tile read_main head_of read_label read_passes read_lblock read_number read_block known_label read_inclusion read_planes read_seats read_grids read_bits header_of sum_below placed sorted siz_tests cap_tests cod_tests tile_tests halvings levels_from segment_tests skipped_tests
marked_has_no_room = refl
