-- What the rules of a receiver make of the worked capture of three packets, whole, with losses, late and twice, and forged.
use Rattle.std.specs.Prelude.{◌≡◌, ◌*◌, ℕ, List, [], ◌∷◌, ◌++◌, map, refl, take, drop, None, length}
use Rattle.wire_model.proofs.Captures.{main_of_b, first_body_of_b, second_body_of_b, third_body_of_b, last_body_of_b, codestream_of_b, main_header, main_header_of_three}
use Rattle.stream_model.specs.Receiver.{take_frames, drained, Pick, received, flushed, counts_of}
use Rattle.stream_model.specs.Decoder.{settle, found_packet, from_place}
use Rattle.codestream_model.specs.StuffedBits.{number_bits, number_of, carried_after, sound_after, bytes_of_bits}
use Rattle.codestream_model.specs.MainHeaderReading.{read_tile, read_main, head_of}
use Rattle.codestream_model.specs.PacketHeaderReading.{read_label, read_passes, read_lblock, read_number, read_block, known_label, read_inclusion, read_planes, read_seats, read_grids, read_bits, header_of}
use Rattle.codestream_model.specs.PacketOrder.{sum_below, placed, sorted}
use Rattle.codestream_model.specs.SegmentTests.{siz_tests, cap_tests, cod_tests, tile_tests}
use Rattle.codestream_model.specs.TagTrees.{halvings, levels_from}
use Rattle.codestream_model.specs.RefusedHeader.{segment_tests, skipped_tests}
use Rattle.wire_model.specs.Framing.{first_frames}
use Rattle.stream_model.specs.Report.{Counts}

-- a receiver of payload type 96, of any source, with a window of this size
abbrev pub any_of : ℕ → Pick
any_of size = record { kind = 96; source = None; window = size }

-- the numbers of the precincts that a receiver has given at the end
abbrev pub pids_at_end : ℕ → List (List ℕ) → List ℕ
pids_at_end size frames = map (λ x. x.precinct.pid) (flushed (received (any_of size) frames)).releases

-- what it has counted then
abbrev pub counts_at_end : ℕ → List (List ℕ) → Counts
counts_at_end size frames = counts_of (flushed (received (any_of size) frames))

abbrev pub counted : ℕ → ℕ → ℕ → ℕ → ℕ → ℕ → Counts
counted kept old refused unsupported disagreed broken = record { kept = kept; old = old; refused = refused; unsupported = unsupported; disagreed = disagreed; broken = broken }

-- all five datagrams in order
pub all_frames_give_all_precincts : (pids_at_end 16 (main_of_b ∷ first_body_of_b ∷ second_body_of_b ∷ third_body_of_b ∷ last_body_of_b ∷ []) ≡ (0 ∷ 1 ∷ 2 ∷ [])) × (counts_at_end 16 (main_of_b ∷ first_body_of_b ∷ second_body_of_b ∷ third_body_of_b ∷ last_body_of_b ∷ []) ≡ counted 5 0 0 0 0 0)
unfolding main_of_b first_body_of_b second_body_of_b third_body_of_b last_body_of_b codestream_of_b main_header main_header_of_three take_frames drained settle found_packet from_place number_bits number_of carried_after sound_after bytes_of_bits read_tile read_main head_of read_label read_passes read_lblock read_number read_block known_label read_inclusion read_planes read_seats read_grids read_bits header_of sum_below placed sorted siz_tests cap_tests cod_tests tile_tests halvings levels_from segment_tests skipped_tests first_frames
all_frames_give_all_precincts = (refl, refl)

-- the first Body is lost: its precinct is too
pub without_the_first_body : (pids_at_end 16 (main_of_b ∷ second_body_of_b ∷ third_body_of_b ∷ last_body_of_b ∷ []) ≡ (1 ∷ 2 ∷ [])) × (counts_at_end 16 (main_of_b ∷ second_body_of_b ∷ third_body_of_b ∷ last_body_of_b ∷ []) ≡ counted 4 0 0 0 0 0)
unfolding main_of_b first_body_of_b second_body_of_b third_body_of_b last_body_of_b codestream_of_b main_header main_header_of_three take_frames drained settle found_packet from_place number_bits number_of carried_after sound_after bytes_of_bits read_tile read_main head_of read_label read_passes read_lblock read_number read_block known_label read_inclusion read_planes read_seats read_grids read_bits header_of sum_below placed sorted siz_tests cap_tests cod_tests tile_tests halvings levels_from segment_tests skipped_tests first_frames
without_the_first_body = (refl, refl)

-- the second Body is lost, and with it the precincts that it has bytes of
pub without_the_second_body : (pids_at_end 16 (main_of_b ∷ first_body_of_b ∷ third_body_of_b ∷ last_body_of_b ∷ []) ≡ (2 ∷ [])) × (counts_at_end 16 (main_of_b ∷ first_body_of_b ∷ third_body_of_b ∷ last_body_of_b ∷ []) ≡ counted 4 0 0 0 0 0)
unfolding main_of_b first_body_of_b second_body_of_b third_body_of_b last_body_of_b codestream_of_b main_header main_header_of_three take_frames drained settle found_packet from_place number_bits number_of carried_after sound_after bytes_of_bits read_tile read_main head_of read_label read_passes read_lblock read_number read_block known_label read_inclusion read_planes read_seats read_grids read_bits header_of sum_below placed sorted siz_tests cap_tests cod_tests tile_tests halvings levels_from segment_tests skipped_tests first_frames
without_the_second_body = (refl, refl)

-- the third Body is lost
pub without_the_third_body : (pids_at_end 16 (main_of_b ∷ first_body_of_b ∷ second_body_of_b ∷ last_body_of_b ∷ []) ≡ (0 ∷ [])) × (counts_at_end 16 (main_of_b ∷ first_body_of_b ∷ second_body_of_b ∷ last_body_of_b ∷ []) ≡ counted 4 0 0 0 0 0)
unfolding main_of_b first_body_of_b second_body_of_b third_body_of_b last_body_of_b codestream_of_b main_header main_header_of_three take_frames drained settle found_packet from_place number_bits number_of carried_after sound_after bytes_of_bits read_tile read_main head_of read_label read_passes read_lblock read_number read_block known_label read_inclusion read_planes read_seats read_grids read_bits header_of sum_below placed sorted siz_tests cap_tests cod_tests tile_tests halvings levels_from segment_tests skipped_tests first_frames
without_the_third_body = (refl, refl)

-- the last Body is lost
pub without_the_last_body : (pids_at_end 16 (main_of_b ∷ first_body_of_b ∷ second_body_of_b ∷ third_body_of_b ∷ []) ≡ (0 ∷ 1 ∷ [])) × (counts_at_end 16 (main_of_b ∷ first_body_of_b ∷ second_body_of_b ∷ third_body_of_b ∷ []) ≡ counted 4 0 0 0 0 0)
unfolding main_of_b first_body_of_b second_body_of_b third_body_of_b last_body_of_b codestream_of_b main_header main_header_of_three take_frames drained settle found_packet from_place number_bits number_of carried_after sound_after bytes_of_bits read_tile read_main head_of read_label read_passes read_lblock read_number read_block known_label read_inclusion read_planes read_seats read_grids read_bits header_of sum_below placed sorted siz_tests cap_tests cod_tests tile_tests halvings levels_from segment_tests skipped_tests first_frames
without_the_last_body = (refl, refl)

-- the Main is lost, and with it everything
pub without_the_main : (pids_at_end 16 (first_body_of_b ∷ second_body_of_b ∷ third_body_of_b ∷ last_body_of_b ∷ []) ≡ []) × (counts_at_end 16 (first_body_of_b ∷ second_body_of_b ∷ third_body_of_b ∷ last_body_of_b ∷ []) ≡ counted 4 0 0 0 0 0)
unfolding main_of_b first_body_of_b second_body_of_b third_body_of_b last_body_of_b codestream_of_b main_header main_header_of_three take_frames drained settle found_packet from_place number_bits number_of carried_after sound_after bytes_of_bits read_tile read_main head_of read_label read_passes read_lblock read_number read_block known_label read_inclusion read_planes read_seats read_grids read_bits header_of sum_below placed sorted siz_tests cap_tests cod_tests tile_tests halvings levels_from segment_tests skipped_tests first_frames
without_the_main = (refl, refl)

-- the third Body comes after the last in a window of two, and the second too late
pub late_and_in_time : (pids_at_end 2 (main_of_b ∷ first_body_of_b ∷ last_body_of_b ∷ second_body_of_b ∷ third_body_of_b ∷ []) ≡ (2 ∷ [])) × (counts_at_end 2 (main_of_b ∷ first_body_of_b ∷ last_body_of_b ∷ second_body_of_b ∷ third_body_of_b ∷ []) ≡ counted 4 1 0 0 0 0)
unfolding main_of_b first_body_of_b second_body_of_b third_body_of_b last_body_of_b codestream_of_b main_header main_header_of_three take_frames drained settle found_packet from_place number_bits number_of carried_after sound_after bytes_of_bits read_tile read_main head_of read_label read_passes read_lblock read_number read_block known_label read_inclusion read_planes read_seats read_grids read_bits header_of sum_below placed sorted siz_tests cap_tests cod_tests tile_tests halvings levels_from segment_tests skipped_tests first_frames
late_and_in_time = (refl, refl)

-- a datagram before the first that came is old, and there is no Main
pub before_the_first_arrival : (pids_at_end 16 (first_body_of_b ∷ main_of_b ∷ second_body_of_b ∷ third_body_of_b ∷ last_body_of_b ∷ []) ≡ []) × (counts_at_end 16 (first_body_of_b ∷ main_of_b ∷ second_body_of_b ∷ third_body_of_b ∷ last_body_of_b ∷ []) ≡ counted 4 1 0 0 0 0)
unfolding main_of_b first_body_of_b second_body_of_b third_body_of_b last_body_of_b codestream_of_b main_header main_header_of_three take_frames drained settle found_packet from_place number_bits number_of carried_after sound_after bytes_of_bits read_tile read_main head_of read_label read_passes read_lblock read_number read_block known_label read_inclusion read_planes read_seats read_grids read_bits header_of sum_below placed sorted siz_tests cap_tests cod_tests tile_tests halvings levels_from segment_tests skipped_tests first_frames
before_the_first_arrival = (refl, refl)

-- two datagrams before the first that came are old
pub two_before_the_first_arrival : (pids_at_end 16 (second_body_of_b ∷ main_of_b ∷ first_body_of_b ∷ third_body_of_b ∷ last_body_of_b ∷ []) ≡ []) × (counts_at_end 16 (second_body_of_b ∷ main_of_b ∷ first_body_of_b ∷ third_body_of_b ∷ last_body_of_b ∷ []) ≡ counted 3 2 0 0 0 0)
unfolding main_of_b first_body_of_b second_body_of_b third_body_of_b last_body_of_b codestream_of_b main_header main_header_of_three take_frames drained settle found_packet from_place number_bits number_of carried_after sound_after bytes_of_bits read_tile read_main head_of read_label read_passes read_lblock read_number read_block known_label read_inclusion read_planes read_seats read_grids read_bits header_of sum_below placed sorted siz_tests cap_tests cod_tests tile_tests halvings levels_from segment_tests skipped_tests first_frames
two_before_the_first_arrival = (refl, refl)

-- a datagram that comes twice is old the second time
pub each_once : (pids_at_end 16 (main_of_b ∷ second_body_of_b ∷ first_body_of_b ∷ first_body_of_b ∷ third_body_of_b ∷ last_body_of_b ∷ []) ≡ (0 ∷ 1 ∷ 2 ∷ [])) × (counts_at_end 16 (main_of_b ∷ second_body_of_b ∷ first_body_of_b ∷ first_body_of_b ∷ third_body_of_b ∷ last_body_of_b ∷ []) ≡ counted 5 1 0 0 0 0)
unfolding main_of_b first_body_of_b second_body_of_b third_body_of_b last_body_of_b codestream_of_b main_header main_header_of_three take_frames drained settle found_packet from_place number_bits number_of carried_after sound_after bytes_of_bits read_tile read_main head_of read_label read_passes read_lblock read_number read_block known_label read_inclusion read_planes read_seats read_grids read_bits header_of sum_below placed sorted siz_tests cap_tests cod_tests tile_tests halvings levels_from segment_tests skipped_tests first_frames
each_once = (refl, refl)

-- a datagram with another extended number
abbrev pub renumbered : ℕ → ℕ → ℕ → List ℕ → List ℕ
renumbered eseq high low d = take 2 d ++ (high ∷ low ∷ []) ++ take 11 (drop 4 d) ++ (eseq ∷ []) ++ drop 16 d

-- a datagram of the picture with the stamp 3600
abbrev pub restamped : List ℕ → List ℕ
restamped d = take 4 d ++ (0 ∷ 0 ∷ 14 ∷ 16 ∷ []) ++ drop 8 d

-- the extended numbers run from FFFFFE over 0 to 2; the first Body comes twice, after the second
pub numbers_run_over : (pids_at_end 16 (renumbered 255 255 254 main_of_b ∷ renumbered 0 0 0 second_body_of_b ∷ renumbered 255 255 255 first_body_of_b ∷ renumbered 255 255 255 first_body_of_b ∷ renumbered 0 0 1 third_body_of_b ∷ renumbered 0 0 2 last_body_of_b ∷ []) ≡ (0 ∷ 1 ∷ 2 ∷ []))
    × (counts_at_end 16 (renumbered 255 255 254 main_of_b ∷ renumbered 0 0 0 second_body_of_b ∷ renumbered 255 255 255 first_body_of_b ∷ renumbered 255 255 255 first_body_of_b ∷ renumbered 0 0 1 third_body_of_b ∷ renumbered 0 0 2 last_body_of_b ∷ []) ≡ counted 5 1 0 0 0 0)
unfolding main_of_b first_body_of_b second_body_of_b third_body_of_b last_body_of_b codestream_of_b main_header main_header_of_three take_frames drained settle found_packet from_place number_bits number_of carried_after sound_after bytes_of_bits read_tile read_main head_of read_label read_passes read_lblock read_number read_block known_label read_inclusion read_planes read_seats read_grids read_bits header_of sum_below placed sorted siz_tests cap_tests cod_tests tile_tests halvings levels_from segment_tests skipped_tests first_frames
numbers_run_over = (refl, refl)

-- the second of two pictures, whose Main is lost
abbrev pub second_picture : List (List ℕ)
second_picture = renumbered 0 0 6 (restamped first_body_of_b) ∷ renumbered 0 0 7 (restamped second_body_of_b) ∷ renumbered 0 0 8 (restamped third_body_of_b) ∷ renumbered 0 0 9 (restamped last_body_of_b) ∷ []

-- nothing is given of a picture whose Main is lost, although its Bodies have marks
pub a_picture_without_its_main : (pids_at_end 16 (main_of_b ∷ first_body_of_b ∷ second_body_of_b ∷ third_body_of_b ∷ last_body_of_b ∷ second_picture) ≡ (0 ∷ 1 ∷ 2 ∷ []))
    × (counts_at_end 16 (main_of_b ∷ first_body_of_b ∷ second_body_of_b ∷ third_body_of_b ∷ last_body_of_b ∷ second_picture) ≡ counted 9 0 0 0 0 0)
unfolding main_of_b first_body_of_b second_body_of_b third_body_of_b last_body_of_b codestream_of_b main_header main_header_of_three take_frames drained settle found_packet from_place number_bits number_of carried_after sound_after bytes_of_bits read_tile read_main head_of read_label read_passes read_lblock read_number read_block known_label read_inclusion read_planes read_seats read_grids read_bits header_of sum_below placed sorted siz_tests cap_tests cod_tests tile_tests halvings levels_from segment_tests skipped_tests first_frames
a_picture_without_its_main = (refl, refl)

-- .. and where the first one's Main and first Body are lost, the second is given alone, with its stamp
pub the_second_picture_alone : map (λ x. x.precinct.stamp) (flushed (received (any_of 16) (second_body_of_b ∷ third_body_of_b ∷ last_body_of_b ∷ renumbered 0 0 5 (restamped main_of_b) ∷ second_picture))).releases ≡ (3600 ∷ 3600 ∷ 3600 ∷ [])
unfolding main_of_b first_body_of_b second_body_of_b third_body_of_b last_body_of_b codestream_of_b main_header main_header_of_three take_frames drained settle found_packet from_place number_bits number_of carried_after sound_after bytes_of_bits read_tile read_main head_of read_label read_passes read_lblock read_number read_block known_label read_inclusion read_planes read_seats read_grids read_bits header_of sum_below placed sorted siz_tests cap_tests cod_tests tile_tests halvings levels_from segment_tests skipped_tests first_frames
the_second_picture_alone = refl

-- a mark that disagrees with the run is followed: POS of the second Body is 13 where 12 is right
pub a_forged_mark_is_followed : (pids_at_end 16 (main_of_b ∷ first_body_of_b ∷ (take 16 second_body_of_b ++ (0 ∷ 208 ∷ []) ++ drop 18 second_body_of_b) ∷ third_body_of_b ∷ last_body_of_b ∷ []) ≡ (0 ∷ 1 ∷ 2 ∷ 2 ∷ []))
    × (counts_at_end 16 (main_of_b ∷ first_body_of_b ∷ (take 16 second_body_of_b ++ (0 ∷ 208 ∷ []) ++ drop 18 second_body_of_b) ∷ third_body_of_b ∷ last_body_of_b ∷ []) ≡ counted 5 0 0 0 1 0)
    × (map (λ x. length x.precinct.blocks) (flushed (received (any_of 16) (main_of_b ∷ first_body_of_b ∷ (take 16 second_body_of_b ++ (0 ∷ 208 ∷ []) ++ drop 18 second_body_of_b) ∷ third_body_of_b ∷ last_body_of_b ∷ []))).releases ≡ (1 ∷ 0 ∷ 0 ∷ 1 ∷ []))
unfolding main_of_b first_body_of_b second_body_of_b third_body_of_b last_body_of_b codestream_of_b main_header main_header_of_three take_frames drained settle found_packet from_place number_bits number_of carried_after sound_after bytes_of_bits read_tile read_main head_of read_label read_passes read_lblock read_number read_block known_label read_inclusion read_planes read_seats read_grids read_bits header_of sum_below placed sorted siz_tests cap_tests cod_tests tile_tests halvings levels_from segment_tests skipped_tests first_frames
a_forged_mark_is_followed = (refl, refl, refl)

-- a Body with the sequence number 1, this POS and PID 1, and these codestream bytes
abbrev pub marked_body : ℕ → List ℕ → List ℕ
marked_body pos bytes = 128 ∷ 96 ∷ 0 ∷ 1 ∷ 0 ∷ 0 ∷ 0 ∷ 0 ∷ 0 ∷ 0 ∷ 0 ∷ 1 ∷ 7 ∷ 128 ∷ 0 ∷ 0 ∷ 0 ∷ (pos * 16) ∷ 0 ∷ 1 ∷ bytes

-- what is refused as a packet drops the run, also where a mark is inside it; at the mark it is refused again
pub refused_before_a_mark : counts_at_end 16 (main_of_b ∷ marked_body 1 (239 ∷ 255 ∷ 128 ∷ 0 ∷ 0 ∷ []) ∷ []) ≡ counted 2 0 0 0 0 2
unfolding main_of_b first_body_of_b second_body_of_b third_body_of_b last_body_of_b codestream_of_b main_header main_header_of_three take_frames drained settle found_packet from_place number_bits number_of carried_after sound_after bytes_of_bits read_tile read_main head_of read_label read_passes read_lblock read_number read_block known_label read_inclusion read_planes read_seats read_grids read_bits header_of sum_below placed sorted siz_tests cap_tests cod_tests tile_tests halvings levels_from segment_tests skipped_tests first_frames
refused_before_a_mark = refl

-- a whole packet that ends past a mark disagrees with it
pub a_packet_past_a_mark : (pids_at_end 16 (main_of_b ∷ marked_body 3 (200 ∷ 128 ∷ 0 ∷ 0 ∷ 0 ∷ 0 ∷ []) ∷ []) ≡ (1 ∷ 2 ∷ [])) × (counts_at_end 16 (main_of_b ∷ marked_body 3 (200 ∷ 128 ∷ 0 ∷ 0 ∷ 0 ∷ 0 ∷ []) ∷ []) ≡ counted 2 0 0 0 1 0)
unfolding main_of_b first_body_of_b second_body_of_b third_body_of_b last_body_of_b codestream_of_b main_header main_header_of_three take_frames drained settle found_packet from_place number_bits number_of carried_after sound_after bytes_of_bits read_tile read_main head_of read_label read_passes read_lblock read_number read_block known_label read_inclusion read_planes read_seats read_grids read_bits header_of sum_below placed sorted siz_tests cap_tests cod_tests tile_tests halvings levels_from segment_tests skipped_tests first_frames
a_packet_past_a_mark = (refl, refl)

-- a refused packet before a mark is broken, and doesn't disagree
pub broken_before_a_mark : (pids_at_end 16 (main_of_b ∷ marked_body 1 (238 ∷ 0 ∷ 0 ∷ []) ∷ []) ≡ (1 ∷ 2 ∷ [])) × (counts_at_end 16 (main_of_b ∷ marked_body 1 (238 ∷ 0 ∷ 0 ∷ []) ∷ []) ≡ counted 2 0 0 0 0 1)
unfolding main_of_b first_body_of_b second_body_of_b third_body_of_b last_body_of_b codestream_of_b main_header main_header_of_three take_frames drained settle found_packet from_place number_bits number_of carried_after sound_after bytes_of_bits read_tile read_main head_of read_label read_passes read_lblock read_number read_block known_label read_inclusion read_planes read_seats read_grids read_bits header_of sum_below placed sorted siz_tests cap_tests cod_tests tile_tests halvings levels_from segment_tests skipped_tests first_frames
broken_before_a_mark = (refl, refl)

-- a mark after the last precinct begins a run anew, and nothing disagrees
pub a_mark_behind_the_last : (pids_at_end 16 (main_of_b ∷ marked_body 5 (0 ∷ 0 ∷ 0 ∷ 255 ∷ 217 ∷ 0 ∷ 0 ∷ []) ∷ []) ≡ (0 ∷ 1 ∷ 2 ∷ 1 ∷ 2 ∷ [])) × (counts_at_end 16 (main_of_b ∷ marked_body 5 (0 ∷ 0 ∷ 0 ∷ 255 ∷ 217 ∷ 0 ∷ 0 ∷ []) ∷ []) ≡ counted 2 0 0 0 0 0)
unfolding main_of_b first_body_of_b second_body_of_b third_body_of_b last_body_of_b codestream_of_b main_header main_header_of_three take_frames drained settle found_packet from_place number_bits number_of carried_after sound_after bytes_of_bits read_tile read_main head_of read_label read_passes read_lblock read_number read_block known_label read_inclusion read_planes read_seats read_grids read_bits header_of sum_below placed sorted siz_tests cap_tests cod_tests tile_tests halvings levels_from segment_tests skipped_tests first_frames
a_mark_behind_the_last = (refl, refl)

-- a Body of another stamp drops the main header: nothing more is given of its picture
pub a_stray_stamp : (pids_at_end 16 (main_of_b ∷ first_body_of_b ∷ renumbered 0 0 2 (restamped first_body_of_b) ∷ renumbered 0 0 3 second_body_of_b ∷ renumbered 0 0 4 third_body_of_b ∷ renumbered 0 0 5 last_body_of_b ∷ []) ≡ [])
unfolding main_of_b first_body_of_b second_body_of_b third_body_of_b last_body_of_b codestream_of_b main_header main_header_of_three take_frames drained settle found_packet from_place number_bits number_of carried_after sound_after bytes_of_bits read_tile read_main head_of read_label read_passes read_lblock read_number read_block known_label read_inclusion read_planes read_seats read_grids read_bits header_of sum_below placed sorted siz_tests cap_tests cod_tests tile_tests halvings levels_from segment_tests skipped_tests first_frames
a_stray_stamp = refl

-- a Main with a byte too many is none, and leaves none
pub a_main_with_a_byte_more : (pids_at_end 16 ((main_of_b ++ 0 ∷ []) ∷ first_body_of_b ∷ []) ≡ []) × (counts_at_end 16 ((main_of_b ++ 0 ∷ []) ∷ first_body_of_b ∷ []) ≡ counted 2 0 0 1 0 0)
unfolding main_of_b first_body_of_b second_body_of_b third_body_of_b last_body_of_b codestream_of_b main_header main_header_of_three take_frames drained settle found_packet from_place number_bits number_of carried_after sound_after bytes_of_bits read_tile read_main head_of read_label read_passes read_lblock read_number read_block known_label read_inclusion read_planes read_seats read_grids read_bits header_of sum_below placed sorted siz_tests cap_tests cod_tests tile_tests halvings levels_from segment_tests skipped_tests first_frames
a_main_with_a_byte_more = (refl, refl)
