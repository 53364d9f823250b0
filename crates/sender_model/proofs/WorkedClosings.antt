-- The datagrams that bytes fix, whole codestreams and unfinished ones.
use Rattle.std.specs.Prelude.{◌≡◌, ◌≤◌, ◌++◌, ℕ, true, false, [], ◌∷◌, map, length, take, drop, refl}
use Rattle.std.proofs.Common.{arith}
use Rattle.wire_model.proofs.Captures.{main_header, main_header_of_three, main_of_a, body_of_a, codestream_of_b, main_of_b, first_body_of_b, second_body_of_b, third_body_of_b, last_body_of_b}
use Rattle.codestream_model.specs.StuffedBits.{number_bits, number_of, carried_after, sound_after, bytes_of_bits}
use Rattle.codestream_model.specs.MainHeaderReading.{read_tile, read_main, head_of}
use Rattle.codestream_model.specs.PacketHeaderReading.{read_label, read_passes, read_lblock, read_number, read_block, known_label, read_inclusion, read_planes, read_seats, read_grids, read_bits, header_of}
use Rattle.codestream_model.specs.PacketOrder.{sum_below, placed, sorted}
use Rattle.codestream_model.specs.SegmentTests.{siz_tests, cap_tests, cod_tests, tile_tests}
use Rattle.codestream_model.specs.TagTrees.{halvings, levels_from}
use Rattle.codestream_model.specs.RefusedHeader.{segment_tests, skipped_tests}
use Rattle.stream_model.specs.Decoder.{found_packet}
use Rattle.stream_model.specs.Commands.{walk}
use Rattle.stream_model.proofs.WorkedCuts.{plan_of, outline, header_of_levels, parts_of_levels, written}
use Rattle.codestream_model.proofs.WorkedGeometry.{one_sample}
use Rattle.stream_model.proofs.WorkedHeads.{header_of_one_spells}
use Rattle.stream_model.proofs.CapturesAreStreams.{codestream_of_one}
use Rattle.sender_model.specs.Closing.{pieces_at, known, due_by, closed}
use Rattle.sender_model.specs.Refusals.{HeaderTooLong, SenderRefuses}

-- a codestream of one packet in datagrams of 1,400 bytes: the first capture
pub one_is_closed : closed (plan_of 1400 false) codestream_of_one ≡ main_of_a ∷ body_of_a ∷ []
unfolding main_header main_header_of_three main_of_a body_of_a codestream_of_b main_of_b first_body_of_b second_body_of_b third_body_of_b last_body_of_b header_of_levels known pieces_at walk found_packet number_bits number_of carried_after sound_after bytes_of_bits read_tile read_main head_of read_label read_passes read_lblock read_number read_block known_label read_inclusion read_planes read_seats read_grids read_bits header_of sum_below placed sorted siz_tests cap_tests cod_tests tile_tests halvings levels_from segment_tests skipped_tests
one_is_closed = refl

-- without its last byte the Main alone
pub without_last_byte : closed (plan_of 1400 false) (take 94 codestream_of_one) ≡ main_of_a ∷ []
unfolding main_header main_header_of_three main_of_a body_of_a codestream_of_b main_of_b first_body_of_b second_body_of_b third_body_of_b last_body_of_b header_of_levels known pieces_at walk found_packet number_bits number_of carried_after sound_after bytes_of_bits read_tile read_main head_of read_label read_passes read_lblock read_number read_block known_label read_inclusion read_planes read_seats read_grids read_bits header_of sum_below placed sorted siz_tests cap_tests cod_tests tile_tests halvings levels_from segment_tests skipped_tests
without_last_byte = refl

-- and so with a Psot that names another place, here one byte too far
pub wrong_psot : map (λ x. length x.codestream) (due_by (plan_of 1400 false) (take 84 main_header ++ 19 ∷ drop 85 main_header ++ (200 ∷ 128 ∷ 170 ∷ 187 ∷ 255 ∷ 217 ∷ []))) ≡ 89 ∷ []
unfolding main_header main_header_of_three main_of_a body_of_a codestream_of_b main_of_b first_body_of_b second_body_of_b third_body_of_b last_body_of_b header_of_levels known pieces_at walk found_packet number_bits number_of carried_after sound_after bytes_of_bits read_tile read_main head_of read_label read_passes read_lblock read_number read_block known_label read_inclusion read_planes read_seats read_grids read_bits header_of sum_below placed sorted siz_tests cap_tests cod_tests tile_tests halvings levels_from segment_tests skipped_tests
wrong_psot = refl

-- nothing of a main header that isn't whole
pub without_header : closed (plan_of 1400 false) (take 88 codestream_of_one) ≡ []
unfolding main_header main_header_of_three main_of_a body_of_a codestream_of_b main_of_b first_body_of_b second_body_of_b third_body_of_b last_body_of_b header_of_levels known pieces_at walk found_packet number_bits number_of carried_after sound_after bytes_of_bits read_tile read_main head_of read_label read_passes read_lblock read_number read_block known_label read_inclusion read_planes read_seats read_grids read_bits header_of sum_below placed sorted siz_tests cap_tests cod_tests tile_tests halvings levels_from segment_tests skipped_tests
without_header = refl

-- three packets in datagrams of 110 bytes: the second capture
pub three_are_closed : closed (plan_of 110 false) codestream_of_b ≡ main_of_b ∷ first_body_of_b ∷ second_body_of_b ∷ third_body_of_b ∷ last_body_of_b ∷ []
unfolding main_header main_header_of_three main_of_a body_of_a codestream_of_b main_of_b first_body_of_b second_body_of_b third_body_of_b last_body_of_b header_of_levels known pieces_at walk found_packet number_bits number_of carried_after sound_after bytes_of_bits read_tile read_main head_of read_label read_passes read_lblock read_number read_block known_label read_inclusion read_planes read_seats read_grids read_bits header_of sum_below placed sorted siz_tests cap_tests cod_tests tile_tests halvings levels_from segment_tests skipped_tests
three_are_closed = refl

-- a payload is closed once it is full,
pub full_payload : closed (plan_of 110 false) (take 180 codestream_of_b) ≡ main_of_b ∷ first_body_of_b ∷ []
unfolding main_header main_header_of_three main_of_a body_of_a codestream_of_b main_of_b first_body_of_b second_body_of_b third_body_of_b last_body_of_b header_of_levels known pieces_at walk found_packet number_bits number_of carried_after sound_after bytes_of_bits read_tile read_main head_of read_label read_passes read_lblock read_number read_block known_label read_inclusion read_planes read_seats read_grids read_bits header_of sum_below placed sorted siz_tests cap_tests cod_tests tile_tests halvings levels_from segment_tests skipped_tests
full_payload = refl

-- and one byte before it isn't
pub open_payload : closed (plan_of 110 false) (take 179 codestream_of_b) ≡ main_of_b ∷ []
unfolding main_header main_header_of_three main_of_a body_of_a codestream_of_b main_of_b first_body_of_b second_body_of_b third_body_of_b last_body_of_b header_of_levels known pieces_at walk found_packet number_bits number_of carried_after sound_after bytes_of_bits read_tile read_main head_of read_label read_passes read_lblock read_number read_block known_label read_inclusion read_planes read_seats read_grids read_bits header_of sum_below placed sorted siz_tests cap_tests cod_tests tile_tests halvings levels_from segment_tests skipped_tests
open_payload = refl

-- where the room ends before EOC, EOC is a payload of its own,
pub room_before_eoc : map outline (due_by (plan_of 326 false) codestream_of_b) ≡ (90, false, 0, false) ∷ (306, false, 7, true) ∷ (2, true, 0, false) ∷ []
unfolding main_header main_header_of_three main_of_a body_of_a codestream_of_b main_of_b first_body_of_b second_body_of_b third_body_of_b last_body_of_b header_of_levels known pieces_at walk found_packet number_bits number_of carried_after sound_after bytes_of_bits read_tile read_main head_of read_label read_passes read_lblock read_number read_block known_label read_inclusion read_planes read_seats read_grids read_bits header_of sum_below placed sorted siz_tests cap_tests cod_tests tile_tests halvings levels_from segment_tests skipped_tests
room_before_eoc = refl

-- where it ends inside EOC, EOC is cut,
pub room_inside_eoc : map outline (due_by (plan_of 327 false) codestream_of_b) ≡ (90, false, 0, false) ∷ (307, false, 7, true) ∷ (1, true, 0, false) ∷ []
unfolding main_header main_header_of_three main_of_a body_of_a codestream_of_b main_of_b first_body_of_b second_body_of_b third_body_of_b last_body_of_b header_of_levels known pieces_at walk found_packet number_bits number_of carried_after sound_after bytes_of_bits read_tile read_main head_of read_label read_passes read_lblock read_number read_block known_label read_inclusion read_planes read_seats read_grids read_bits header_of sum_below placed sorted siz_tests cap_tests cod_tests tile_tests halvings levels_from segment_tests skipped_tests
room_inside_eoc = refl

-- and EOC without its last byte joins nothing
pub half_of_eoc : map outline (due_by (plan_of 327 false) (take 397 codestream_of_b)) ≡ (90, false, 0, false) ∷ []
unfolding main_header main_header_of_three main_of_a body_of_a codestream_of_b main_of_b first_body_of_b second_body_of_b third_body_of_b last_body_of_b header_of_levels known pieces_at walk found_packet number_bits number_of carried_after sound_after bytes_of_bits read_tile read_main head_of read_label read_passes read_lblock read_number read_block known_label read_inclusion read_planes read_seats read_grids read_bits header_of sum_below placed sorted siz_tests cap_tests cod_tests tile_tests halvings levels_from segment_tests skipped_tests
half_of_eoc = refl

-- two packets of two resolutions in `split` mode
pub levels_are_closed : closed (plan_of 1400 true) (header_of_levels ++ (0 ∷ 0 ∷ 255 ∷ 217 ∷ [])) ≡ written (plan_of 1400 true) (parts_of_levels ∷ [])
unfolding main_header main_header_of_three main_of_a body_of_a codestream_of_b main_of_b first_body_of_b second_body_of_b third_body_of_b last_body_of_b header_of_levels known pieces_at walk found_packet number_bits number_of carried_after sound_after bytes_of_bits read_tile read_main head_of read_label read_passes read_lblock read_number read_block known_label read_inclusion read_planes read_seats read_grids read_bits header_of sum_below placed sorted siz_tests cap_tests cod_tests tile_tests halvings levels_from segment_tests skipped_tests
levels_are_closed = refl

-- a packet that is refused closes no payload before it,
pub refused_packet_closes_nothing : map outline (due_by (plan_of 1400 true) (header_of_levels ++ (0 ∷ 250 ∷ []))) ≡ (92, false, 0, false) ∷ []
unfolding main_header main_header_of_three main_of_a body_of_a codestream_of_b main_of_b first_body_of_b second_body_of_b third_body_of_b last_body_of_b header_of_levels known pieces_at walk found_packet number_bits number_of carried_after sound_after bytes_of_bits read_tile read_main head_of read_label read_passes read_lblock read_number read_block known_label read_inclusion read_planes read_seats read_grids read_bits header_of sum_below placed sorted siz_tests cap_tests cod_tests tile_tests halvings levels_from segment_tests skipped_tests
refused_packet_closes_nothing = refl

-- and one of which a part is there does
pub begun_packet_closes : map outline (due_by (plan_of 1400 true) (header_of_levels ++ (0 ∷ 200 ∷ 128 ∷ 170 ∷ []))) ≡ (92, false, 0, false) ∷ (1, false, 6, true) ∷ []
unfolding main_header main_header_of_three main_of_a body_of_a codestream_of_b main_of_b first_body_of_b second_body_of_b third_body_of_b last_body_of_b header_of_levels known pieces_at walk found_packet number_bits number_of carried_after sound_after bytes_of_bits read_tile read_main head_of read_label read_passes read_lblock read_number read_block known_label read_inclusion read_planes read_seats read_grids read_bits header_of sum_below placed sorted siz_tests cap_tests cod_tests tile_tests halvings levels_from segment_tests skipped_tests
begun_packet_closes = refl

-- two codestreams, and the second has the second stamp
pub two_are_closed : map (λ x. x.rtp.stamp) (due_by (plan_of 1400 false) (codestream_of_one ++ codestream_of_one)) ≡ 0 ∷ 0 ∷ 3600 ∷ 3600 ∷ []
unfolding main_header main_header_of_three main_of_a body_of_a codestream_of_b main_of_b first_body_of_b second_body_of_b third_body_of_b last_body_of_b header_of_levels known pieces_at walk found_packet number_bits number_of carried_after sound_after bytes_of_bits read_tile read_main head_of read_label read_passes read_lblock read_number read_block known_label read_inclusion read_planes read_seats read_grids read_bits header_of sum_below placed sorted siz_tests cap_tests cod_tests tile_tests halvings levels_from segment_tests skipped_tests
two_are_closed = refl

-- a datagram has no room for the main header
pub long_header_closes_nothing : closed (plan_of 64 false) codestream_of_one ≡ []
unfolding main_header main_header_of_three main_of_a body_of_a codestream_of_b main_of_b first_body_of_b second_body_of_b third_body_of_b last_body_of_b header_of_levels known pieces_at walk found_packet number_bits number_of carried_after sound_after bytes_of_bits read_tile read_main head_of read_label read_passes read_lblock read_number read_block known_label read_inclusion read_planes read_seats read_grids read_bits header_of sum_below placed sorted siz_tests cap_tests cod_tests tile_tests halvings levels_from segment_tests skipped_tests
long_header_closes_nothing = refl

-- which is refused where it begins
few_are_due : (n : ℕ) → n ≡ 0 → n ≤ 8388607
few_are_due n e = omega (arith, e)

pub long_header_is_refused : SenderRefuses (plan_of 64 false) codestream_of_one 0 HeaderTooLong
unfolding main_header main_header_of_three main_of_a body_of_a codestream_of_b main_of_b first_body_of_b second_body_of_b third_body_of_b last_body_of_b header_of_levels known pieces_at walk found_packet number_bits number_of carried_after sound_after bytes_of_bits read_tile read_main head_of read_label read_passes read_lblock read_number read_block known_label read_inclusion read_planes read_seats read_grids read_bits header_of sum_below placed sorted siz_tests cap_tests cod_tests tile_tests halvings levels_from segment_tests skipped_tests
long_header_is_refused = (
  few_are_due (length (due_by (plan_of 64 false) codestream_of_one)) refl,
  record {
    codestreams = [];
    parts = [];
    head = one_sample;
    header = main_header;
    more = 200 ∷ 128 ∷ 170 ∷ 187 ∷ 255 ∷ 217 ∷ [];
    whole = refl;
    are_parts = tt;
    fit = tt;
    few = omega arith;
    is_head = header_of_one_spells;
    long = omega arith;
    place = refl;
  },
)
