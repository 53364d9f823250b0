-- Packet headers byte by byte, and what is read of them.
use Rattle.std.specs.Prelude.{◌≡◌, ◌++◌, ℕ, true, false, List, [], ◌∷◌}
use Rattle.std.proofs.Common.{refl}
use Rattle.codestream_model.specs.Values.{Grid, Block}
use Rattle.codestream_model.specs.StuffedBits.{number_bits, number_of, carried_after, sound_after, packed_after, bytes_of_bits, packing}
use Rattle.codestream_model.specs.TagTrees.{halvings, levels_from}
use Rattle.codestream_model.specs.HeaderPieces.{Stuffed, ZeroPlanes, Passes, LengthBits, CleanupShort, CleanupLong, RefineLong, run_of}
use Rattle.codestream_model.specs.PacketHeader.{written_header}
use Rattle.codestream_model.specs.PacketHeaderReading.{Done, Need, Bad, header_of, read_label, read_passes, read_lblock, read_number, read_block, known_label, read_inclusion, read_planes, read_seats, read_grids, read_bits}

-- one code-block of the band LL
abbrev pub one_grid : List Grid
one_grid = record { band = 0; cols = 1; rows = 1 } ∷ []

-- two code-blocks of the band LL, side by side
abbrev pub two_columns : List Grid
two_columns = record { band = 0; cols = 2; rows = 1 } ∷ []

-- the first code-block of the band LL, with these zero bit-planes, passes and lengths
abbrev pub block : ℕ → ℕ → ℕ → ℕ → Block
block planes passes cleanup refine = record { band = 0; col = 0; row = 0; planes = planes; passes = passes; cleanup = cleanup; refine = refine }

-- the second code-block of the band LL, with 1 zero bit-plane, 1 pass and 2 bytes
abbrev pub second_block : Block
second_block = record { band = 0; col = 1; row = 0; planes = 1; passes = 1; cleanup = 2; refine = 0 }

-- no bytes want one
pub no_bytes_need_one : header_of one_grid ([]) ≡ Need
unfolding number_bits number_of carried_after sound_after bytes_of_bits halvings levels_from header_of read_label read_passes read_lblock read_number read_block known_label read_inclusion read_planes read_seats read_grids read_bits
no_bytes_need_one = refl

-- a first bit 0 is an empty packet, whatever follows
pub a_zero_bit_is_an_empty_packet : header_of one_grid (0 ∷ 255 ∷ []) ≡ Done 1 []
unfolding number_bits number_of carried_after sound_after bytes_of_bits halvings levels_from header_of read_label read_passes read_lblock read_number read_block known_label read_inclusion read_planes read_seats read_grids read_bits
a_zero_bit_is_an_empty_packet = refl

-- bits 1, 1, 001, 0, 0, 010: 2 zero bit-planes, 1 pass, Lblock 3, cleanup 2
pub one_block : header_of one_grid (200 ∷ 128 ∷ 170 ∷ 187 ∷ []) ≡ Done 2 (block 2 1 2 0 ∷ [])
unfolding number_bits number_of carried_after sound_after bytes_of_bits halvings levels_from header_of read_label read_passes read_lblock read_number read_block known_label read_inclusion read_planes read_seats read_grids read_bits
one_block = refl

-- bits 1, 1, 1, 0, 11110, 1100100: no zero bit-planes, 1 pass, Lblock 7, cleanup 100
pub a_long_block : header_of one_grid (239 ∷ 100 ∷ []) ≡ Done 2 (block 0 1 100 0 ∷ [])
unfolding number_bits number_of carried_after sound_after bytes_of_bits halvings levels_from header_of read_label read_passes read_lblock read_number read_block known_label read_inclusion read_planes read_seats read_grids read_bits
a_long_block = refl

-- two passes
pub two_passes : header_of one_grid (241 ∷ 48 ∷ []) ≡ Done 2 (block 0 2 2 3 ∷ [])
unfolding number_bits number_of carried_after sound_after bytes_of_bits halvings levels_from header_of read_label read_passes read_lblock read_number read_block known_label read_inclusion read_planes read_seats read_grids read_bits
two_passes = refl

-- three passes, whose refinement length has a bit more
pub three_passes : header_of one_grid (248 ∷ 70 ∷ []) ≡ Done 2 (block 0 3 2 3 ∷ [])
unfolding number_bits number_of carried_after sound_after bytes_of_bits halvings levels_from header_of read_label read_passes read_lblock read_number read_block known_label read_inclusion read_planes read_seats read_grids read_bits
three_passes = refl

-- a bit is stuffed inside a header of Lblock 15
pub a_stuffed_bit : header_of one_grid (239 ∷ 255 ∷ 0 ∷ 1 ∷ 0 ∷ []) ≡ Done 5 (block 0 1 2 0 ∷ [])
unfolding number_bits number_of carried_after sound_after bytes_of_bits halvings levels_from header_of read_label read_passes read_lblock read_number read_block known_label read_inclusion read_planes read_seats read_grids read_bits
a_stuffed_bit = refl

-- a header ends after FF
pub an_unfinished_header : header_of one_grid (239 ∷ 255 ∷ []) ≡ Need
unfolding number_bits number_of carried_after sound_after bytes_of_bits halvings levels_from header_of read_label read_passes read_lblock read_number read_block known_label read_inclusion read_planes read_seats read_grids read_bits
an_unfinished_header = refl

-- and its next byte has a top bit 1
pub a_broken_stuffing : header_of one_grid (239 ∷ 255 ∷ 128 ∷ []) ≡ Bad Stuffed
unfolding number_bits number_of carried_after sound_after bytes_of_bits halvings levels_from header_of read_label read_passes read_lblock read_number read_block known_label read_inclusion read_planes read_seats read_grids read_bits
a_broken_stuffing = refl

-- a whole header whose last byte is FF wants one byte more
pub a_header_that_ends_with_ff : header_of one_grid (239 ∷ 240 ∷ 255 ∷ []) ≡ Need
unfolding number_bits number_of carried_after sound_after bytes_of_bits halvings levels_from header_of read_label read_passes read_lblock read_number read_block known_label read_inclusion read_planes read_seats read_grids read_bits
a_header_that_ends_with_ff = refl

-- which closes it
pub a_closed_header : header_of one_grid (239 ∷ 240 ∷ 255 ∷ 0 ∷ []) ≡ Done 4 (block 0 1 255 0 ∷ [])
unfolding number_bits number_of carried_after sound_after bytes_of_bits halvings levels_from header_of read_label read_passes read_lblock read_number read_block known_label read_inclusion read_planes read_seats read_grids read_bits
a_closed_header = refl

-- unless its top bit is 1
pub a_header_closed_with_a_top_bit : header_of one_grid (239 ∷ 240 ∷ 255 ∷ 128 ∷ []) ≡ Bad Stuffed
unfolding number_bits number_of carried_after sound_after bytes_of_bits halvings levels_from header_of read_label read_passes read_lblock read_number read_block known_label read_inclusion read_planes read_seats read_grids read_bits
a_header_closed_with_a_top_bit = refl

-- the code 1101
pub four_passes : header_of one_grid (250 ∷ []) ≡ Bad Passes
unfolding number_bits number_of carried_after sound_after bytes_of_bits halvings levels_from header_of read_label read_passes read_lblock read_number read_block known_label read_inclusion read_planes read_seats read_grids read_bits
four_passes = refl

-- a cleanup length of 1
pub a_short_cleanup : header_of one_grid (225 ∷ []) ≡ Bad CleanupShort
unfolding number_bits number_of carried_after sound_after bytes_of_bits halvings levels_from header_of read_label read_passes read_lblock read_number read_block known_label read_inclusion read_planes read_seats read_grids read_bits
a_short_cleanup = refl

-- a packet that begins with 1 and includes no code-block
pub nothing_included : header_of one_grid (128 ∷ []) ≡ Done 1 []
unfolding number_bits number_of carried_after sound_after bytes_of_bits halvings levels_from header_of read_label read_passes read_lblock read_number read_block known_label read_inclusion read_planes read_seats read_grids read_bits
nothing_included = refl

-- 22 ones of Lblock
pub lblock_25 : header_of one_grid (239 ∷ 255 ∷ 127 ∷ 224 ∷ []) ≡ Bad LengthBits
unfolding number_bits number_of carried_after sound_after bytes_of_bits halvings levels_from header_of read_label read_passes read_lblock read_number read_block known_label read_inclusion read_planes read_seats read_grids read_bits
lblock_25 = refl

-- 21 ones are Lblock 24
pub lblock_24 : header_of one_grid (239 ∷ 255 ∷ 127 ∷ 192 ∷ 0 ∷ 0 ∷ 64 ∷ []) ≡ Done 7 (block 0 1 2 0 ∷ [])
unfolding number_bits number_of carried_after sound_after bytes_of_bits halvings levels_from header_of read_label read_passes read_lblock read_number read_block known_label read_inclusion read_planes read_seats read_grids read_bits
lblock_24 = refl

-- bits 1, 1, 01, 10, 1110, 111011, 100110: 1 zero bit-plane, 2 passes, Lblock 6, cleanup 59, refinement 38
pub a_drawn_block : header_of one_grid (219 ∷ 187 ∷ 152 ∷ []) ≡ Done 3 (block 1 2 59 38 ∷ [])
unfolding number_bits number_of carried_after sound_after bytes_of_bits halvings levels_from header_of read_label read_passes read_lblock read_number read_block known_label read_inclusion read_planes read_seats read_grids read_bits
a_drawn_block = refl

-- the second of two code-blocks: bits 1, 1, 0, 1, 01, 1, 0, 0, 010
pub the_second_of_two : header_of two_columns (214 ∷ 32 ∷ []) ≡ Done 2 (second_block ∷ [])
unfolding number_bits number_of carried_after sound_after bytes_of_bits halvings levels_from header_of read_label read_passes read_lblock read_number read_block known_label read_inclusion read_planes read_seats read_grids read_bits
the_second_of_two = refl

-- the same with the label 0 at the root of the value tree
pub a_lower_label_of_a_root : header_of two_columns (218 ∷ 32 ∷ []) ≡ Done 2 (second_block ∷ [])
unfolding number_bits number_of carried_after sound_after bytes_of_bits halvings levels_from header_of read_label read_passes read_lblock read_number read_block known_label read_inclusion read_planes read_seats read_grids read_bits
a_lower_label_of_a_root = refl

-- our writer's header of 2 zero bit-planes, 1 pass and 2 bytes
pub written_one_block : written_header one_grid (block 2 1 2 0 ∷ []) ≡ 200 ∷ 128 ∷ []
unfolding number_bits number_of packed_after halvings levels_from
written_one_block = refl

-- of 100 bytes
pub written_long_block : written_header one_grid (block 0 1 100 0 ∷ []) ≡ 239 ∷ 100 ∷ []
unfolding number_bits number_of packed_after halvings levels_from
written_long_block = refl

-- of 255 bytes
pub written_closed_block : written_header one_grid (block 0 1 255 0 ∷ []) ≡ 239 ∷ 191 ∷ 192 ∷ []
unfolding number_bits number_of packed_after halvings levels_from
written_closed_block = refl

-- of 1 zero bit-plane, 2 passes, 59 and 38 bytes
pub written_drawn_block : written_header one_grid (block 1 2 59 38 ∷ []) ≡ 219 ∷ 187 ∷ 152 ∷ []
unfolding number_bits number_of packed_after halvings levels_from
written_drawn_block = refl

-- of no code-block
pub written_nothing : written_header one_grid ([]) ≡ 0 ∷ []
unfolding number_bits number_of packed_after halvings levels_from
written_nothing = refl

-- of the second of two code-blocks
pub written_second : written_header two_columns (second_block ∷ []) ≡ 214 ∷ 32 ∷ []
unfolding number_bits number_of packed_after halvings levels_from
written_second = refl

-- 74 zero bit-planes are accepted: 82 bits in 11 bytes,
pub planes_74 : header_of one_grid (packing (true ∷ true ∷ run_of false 74 true ++ false ∷ false ∷ false ∷ true ∷ false ∷ [])) ≡ Done 11 (block 74 1 2 0 ∷ [])
unfolding number_bits number_of packed_after carried_after sound_after bytes_of_bits halvings levels_from header_of read_label read_passes read_lblock read_number read_block known_label read_inclusion read_planes read_seats read_grids read_bits
planes_74 = refl

-- and 75 aren't
pub planes_75 : header_of one_grid (packing (true ∷ true ∷ run_of false 75 true ++ false ∷ false ∷ false ∷ true ∷ false ∷ [])) ≡ Bad ZeroPlanes
unfolding number_bits number_of packed_after carried_after sound_after bytes_of_bits halvings levels_from header_of read_label read_passes read_lblock read_number read_block known_label read_inclusion read_planes read_seats read_grids read_bits
planes_75 = refl

-- a cleanup segment of 65,534 bytes is accepted: 34 bits, of which two bytes carry 7, in 5 bytes,
pub cleanup_65534 : header_of one_grid (packing (true ∷ true ∷ true ∷ false ∷ run_of true 13 false ++ number_bits 16 65534)) ≡ Done 5 (block 0 1 65534 0 ∷ [])
unfolding number_bits number_of packed_after carried_after sound_after bytes_of_bits halvings levels_from header_of read_label read_passes read_lblock read_number read_block known_label read_inclusion read_planes read_seats read_grids read_bits
cleanup_65534 = refl

-- and one of 65,535 isn't
pub cleanup_65535 : header_of one_grid (packing (true ∷ true ∷ true ∷ false ∷ run_of true 13 false ++ number_bits 16 65535)) ≡ Bad CleanupLong
unfolding number_bits number_of packed_after carried_after sound_after bytes_of_bits halvings levels_from header_of read_label read_passes read_lblock read_number read_block known_label read_inclusion read_planes read_seats read_grids read_bits
cleanup_65535 = refl

-- a refinement segment of 2,046 bytes is accepted: 36 bits in 5 bytes,
pub refine_2046 : header_of one_grid (packing (true ∷ true ∷ true ∷ true ∷ false ∷ run_of true 8 false ++ number_bits 11 2 ++ number_bits 11 2046)) ≡ Done 5 (block 0 2 2 2046 ∷ [])
unfolding number_bits number_of packed_after carried_after sound_after bytes_of_bits halvings levels_from header_of read_label read_passes read_lblock read_number read_block known_label read_inclusion read_planes read_seats read_grids read_bits
refine_2046 = refl

-- and one of 2,047 isn't
pub refine_2047 : header_of one_grid (packing (true ∷ true ∷ true ∷ true ∷ false ∷ run_of true 8 false ++ number_bits 11 2 ++ number_bits 11 2047)) ≡ Bad RefineLong
unfolding number_bits number_of packed_after carried_after sound_after bytes_of_bits halvings levels_from header_of read_label read_passes read_lblock read_number read_block known_label read_inclusion read_planes read_seats read_grids read_bits
refine_2047 = refl

-- nor of two code-blocks
pub nothing_included_of_two : header_of two_columns (128 ∷ []) ≡ Done 1 []
unfolding number_bits number_of carried_after sound_after bytes_of_bits halvings levels_from header_of read_label read_passes read_lblock read_number read_block known_label read_inclusion read_planes read_seats read_grids read_bits
nothing_included_of_two = refl
