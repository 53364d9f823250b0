-- What is computed of main headers: their values, and where and why others are refused.
use Rattle.std.specs.Prelude.{◌≡◌, ℕ, [], ◌∷◌, ◌++◌, take, slice_set, replicate, Result, Ok, Err}
use Rattle.std.proofs.Common.{refl}
use Rattle.codestream_model.specs.Values.{Head}
use Rattle.codestream_model.specs.PacketOrder.{sum_below}
use Rattle.codestream_model.specs.HeadRefusals.{HeadRefusal, Cut, NoSoc, NoSiz, Marker, Length, Twice, Missing, Components, Step, Area, Cap, Order, Levels, Quant, Sop, TileHeader, Ids, TooLong}
use Rattle.codestream_model.specs.SegmentTests.{siz_tests, cap_tests, cod_tests, tile_tests}
use Rattle.codestream_model.specs.RefusedHeader.{segment_tests, skipped_tests}
use Rattle.codestream_model.specs.MainHeaderReading.{Refused, read_tile, read_main, head_of}
use Rattle.codestream_model.proofs.Headers.{header, small_siz, small_cap, small_cod, small_qcd, small_sot, small_header, three_cod, header_of_three, packet_lengths, tile_lengths, header_with_more, header_of_two_components, header_of_odd_sample, many_siz, too_many_siz, far_tile_siz, no_step_siz, empty_siz, other_cap, short_cap}
use Rattle.codestream_model.proofs.WorkedGeometry.{two_components, odd_sample, plain_head, one_sample_with_eph, two_components_by_resolution}

-- a refusal with its place
abbrev pub refused_at : ℕ → HeadRefusal → Result Head Refused
refused_at at why = Err (record { at = at; why = why })

-- the small header has these values,
pub small_header_is_read : head_of small_header ≡ Ok (plain_head 0 1 1 15 75 89)
unfolding siz_tests cap_tests cod_tests tile_tests segment_tests skipped_tests sum_below read_tile read_main head_of
small_header_is_read = refl

-- whatever follows it,
pub no_byte_past_it_is_read : head_of (small_header ++ 0x00 ∷ 0xFF ∷ []) ≡ Ok (plain_head 0 1 1 15 75 89)
unfolding siz_tests cap_tests cod_tests tile_tests segment_tests skipped_tests sum_below read_tile read_main head_of
no_byte_past_it_is_read = refl

-- and so has that of three samples,
pub header_of_three_is_read : head_of header_of_three ≡ Ok (plain_head 0 3 1 0 76 90)
unfolding siz_tests cap_tests cod_tests tile_tests segment_tests skipped_tests sum_below read_tile read_main head_of
header_of_three_is_read = refl

-- one with segments that are passed over,
pub header_with_more_is_read : head_of header_with_more ≡ Ok (plain_head 0 1 1 15 102 116)
unfolding siz_tests cap_tests cod_tests tile_tests segment_tests skipped_tests sum_below read_tile read_main head_of
header_with_more_is_read = refl

-- one with PLT after SOT,
pub packet_lengths_behind_sot : head_of (header (small_siz ∷ small_cap ∷ small_cod ∷ small_qcd ∷ small_sot ∷ packet_lengths ∷ [])) ≡ Ok (plain_head 0 1 1 15 75 95)
unfolding siz_tests cap_tests cod_tests tile_tests segment_tests skipped_tests sum_below read_tile read_main head_of
packet_lengths_behind_sot = refl

-- that of two components,
pub header_of_two_components_is_read : head_of header_of_two_components ≡ Ok two_components
unfolding siz_tests cap_tests cod_tests tile_tests segment_tests skipped_tests sum_below read_tile read_main head_of two_components
header_of_two_components_is_read = refl

-- and that of one sample at an odd place
pub header_of_odd_sample_is_read : head_of header_of_odd_sample ≡ Ok odd_sample
unfolding siz_tests cap_tests cod_tests tile_tests segment_tests skipped_tests sum_below read_tile read_main head_of odd_sample
header_of_odd_sample_is_read = refl

-- EPH is read from the style,
pub header_with_eph_is_read : head_of (slice_set small_header 59 0x04) ≡ Ok one_sample_with_eph
unfolding siz_tests cap_tests cod_tests tile_tests segment_tests skipped_tests sum_below read_tile read_main head_of
header_with_eph_is_read = refl

-- and RPCL from the order.
pub header_by_resolution_is_read : head_of (slice_set header_of_two_components 63 0x02) ≡ Ok two_components_by_resolution
unfolding siz_tests cap_tests cod_tests tile_tests segment_tests skipped_tests sum_below read_tile read_main head_of two_components
header_by_resolution_is_read = refl

-- TNsot 0 is accepted,
pub unknown_number_of_tile_parts : head_of (slice_set small_header 86 0x00) ≡ Ok (plain_head 0 1 1 15 75 89)
unfolding siz_tests cap_tests cod_tests tile_tests segment_tests skipped_tests sum_below read_tile read_main head_of
unknown_number_of_tile_parts = refl

-- a tile that ends past 2^32,
pub a_tile_as_wide_as_can_be : head_of (header (far_tile_siz ∷ small_cap ∷ small_cod ∷ small_qcd ∷ small_sot ∷ [])) ≡ Ok (plain_head 1 2 1 15 75 89)
unfolding siz_tests cap_tests cod_tests tile_tests segment_tests skipped_tests sum_below read_tile read_main head_of
a_tile_as_wide_as_can_be = refl

-- and 2^20 precincts of one component,
pub as_many_precincts_as_can_be : head_of (header (many_siz ∷ small_cap ∷ three_cod ∷ small_qcd ∷ small_sot ∷ [])) ≡ Ok (plain_head 0 1024 1024 0 76 90)
unfolding siz_tests cap_tests cod_tests tile_tests segment_tests skipped_tests sum_below read_tile read_main head_of
as_many_precincts_as_can_be = refl

-- but not of two
pub one_component_too_many : head_of (header (too_many_siz ∷ small_cap ∷ three_cod ∷ small_qcd ∷ small_sot ∷ [])) ≡ refused_at 79 Ids
unfolding siz_tests cap_tests cod_tests tile_tests segment_tests skipped_tests sum_below read_tile read_main head_of
one_component_too_many = refl

-- a missing byte is refused where the bytes end: with none,
pub no_bytes : head_of [] ≡ refused_at 0 Cut
unfolding siz_tests cap_tests cod_tests tile_tests segment_tests skipped_tests sum_below read_tile read_main head_of
no_bytes = refl

-- with half a marker, even a wrong one,
pub half_a_marker : head_of (0x00 ∷ []) ≡ refused_at 1 Cut
unfolding siz_tests cap_tests cod_tests tile_tests segment_tests skipped_tests sum_below read_tile read_main head_of
half_a_marker = refl

-- with half the next one,
pub half_the_next_marker : head_of (0xFF ∷ 0x4F ∷ 0x00 ∷ []) ≡ refused_at 3 Cut
unfolding siz_tests cap_tests cod_tests tile_tests segment_tests skipped_tests sum_below read_tile read_main head_of
half_the_next_marker = refl

-- with 60 of the 89 bytes,
pub sixty_bytes : head_of (take 60 small_header) ≡ refused_at 60 Cut
unfolding siz_tests cap_tests cod_tests tile_tests segment_tests skipped_tests sum_below read_tile read_main head_of
sixty_bytes = refl

-- with a length far past the end,
pub a_long_length : head_of (0xFF ∷ 0x4F ∷ 0xFF ∷ 0x51 ∷ 0xFF ∷ 0xFF ∷ []) ≡ refused_at 6 Cut
unfolding siz_tests cap_tests cod_tests tile_tests segment_tests skipped_tests sum_below read_tile read_main head_of
a_long_length = refl

-- with the least length,
pub the_least_length : head_of (0xFF ∷ 0x4F ∷ 0xFF ∷ 0x51 ∷ 0x00 ∷ 0x29 ∷ []) ≡ refused_at 6 Cut
unfolding siz_tests cap_tests cod_tests tile_tests segment_tests skipped_tests sum_below read_tile read_main head_of
the_least_length = refl

-- which is judged before the segment is whole
pub less_than_the_least_length : head_of (0xFF ∷ 0x4F ∷ 0xFF ∷ 0x51 ∷ 0x00 ∷ 0x28 ∷ []) ≡ refused_at 2 Length
unfolding siz_tests cap_tests cod_tests tile_tests segment_tests skipped_tests sum_below read_tile read_main head_of
less_than_the_least_length = refl

-- a comment that is longer than the bytes,
pub a_long_comment : head_of (take 75 small_header ++ 0xFF ∷ 0x64 ∷ 0xFF ∷ 0xFF ∷ []) ≡ refused_at 79 Cut
unfolding siz_tests cap_tests cod_tests tile_tests segment_tests skipped_tests sum_below read_tile read_main head_of
a_long_comment = refl

-- also where they are 8,191,
pub a_long_comment_in_8191_bytes : head_of (take 75 small_header ++ (0xFF ∷ 0x64 ∷ 0xFF ∷ 0xFF ∷ replicate 8112 0)) ≡ refused_at 8191 Cut
unfolding siz_tests cap_tests cod_tests tile_tests segment_tests skipped_tests sum_below read_tile read_main head_of
a_long_comment_in_8191_bytes = refl

-- passes 8,192 bytes where they are as many
pub a_long_comment_in_8192_bytes : head_of (take 75 small_header ++ (0xFF ∷ 0x64 ∷ 0xFF ∷ 0xFF ∷ replicate 8113 0)) ≡ refused_at 8192 TooLong
unfolding siz_tests cap_tests cod_tests tile_tests segment_tests skipped_tests sum_below read_tile read_main head_of
a_long_comment_in_8192_bytes = refl

-- the first two bytes are SOC,
pub no_soc : head_of (0xFF ∷ 0x4E ∷ []) ≡ refused_at 0 NoSoc
unfolding siz_tests cap_tests cod_tests tile_tests segment_tests skipped_tests sum_below read_tile read_main head_of
no_soc = refl

-- and the next two are SIZ
pub no_siz : head_of (0xFF ∷ 0x4F ∷ 0xFF ∷ 0x52 ∷ []) ≡ refused_at 2 NoSiz
unfolding siz_tests cap_tests cod_tests tile_tests segment_tests skipped_tests sum_below read_tile read_main head_of
no_siz = refl

-- no component,
pub no_component : head_of (slice_set small_header 41 0x00) ≡ refused_at 2 Components
unfolding siz_tests cap_tests cod_tests tile_tests segment_tests skipped_tests sum_below read_tile read_main head_of
no_component = refl

-- a step of 0 in any component, judged before an empty component,
pub no_step : head_of (header (no_step_siz ∷ small_cap ∷ small_cod ∷ small_qcd ∷ small_sot ∷ [])) ≡ refused_at 2 Step
unfolding siz_tests cap_tests cod_tests tile_tests segment_tests skipped_tests sum_below read_tile read_main head_of
no_step = refl

-- and an empty component are refused at SIZ
pub an_empty_component : head_of (header (empty_siz ∷ small_cap ∷ small_cod ∷ small_qcd ∷ small_sot ∷ [])) ≡ refused_at 2 Area
unfolding siz_tests cap_tests cod_tests tile_tests segment_tests skipped_tests sum_below read_tile read_main head_of
an_empty_component = refl

-- another Pcap, judged before the length,
pub another_part : head_of (header (small_siz ∷ other_cap ∷ small_cod ∷ small_qcd ∷ small_sot ∷ [])) ≡ refused_at 45 Cap
unfolding siz_tests cap_tests cod_tests tile_tests segment_tests skipped_tests sum_below read_tile read_main head_of
another_part = refl

-- and another length of CAP are refused at CAP
pub a_short_cap : head_of (header (small_siz ∷ short_cap ∷ small_cod ∷ small_qcd ∷ small_sot ∷ [])) ≡ refused_at 45 Length
unfolding siz_tests cap_tests cod_tests tile_tests segment_tests skipped_tests sum_below read_tile read_main head_of
a_short_cap = refl

-- SOP,
pub sop : head_of (slice_set small_header 59 0x02) ≡ refused_at 55 Sop
unfolding siz_tests cap_tests cod_tests tile_tests segment_tests skipped_tests sum_below read_tile read_main head_of
sop = refl

-- another order than RPCL and PCRL,
pub another_order : head_of (slice_set small_header 60 0x01) ≡ refused_at 55 Order
unfolding siz_tests cap_tests cod_tests tile_tests segment_tests skipped_tests sum_below read_tile read_main head_of
another_order = refl

-- and sixteen levels, judged before the length, are refused at COD
pub sixteen_levels : head_of (slice_set small_header 64 0x10) ≡ refused_at 55 Levels
unfolding siz_tests cap_tests cod_tests tile_tests segment_tests skipped_tests sum_below read_tile read_main head_of
sixteen_levels = refl

-- a length of QCD that is not that of its style is refused at QCD,
pub another_quantisation : head_of (slice_set small_header 73 0x42) ≡ refused_at 69 Quant
unfolding siz_tests cap_tests cod_tests tile_tests segment_tests skipped_tests sum_below read_tile read_main head_of
another_quantisation = refl

-- but judged after the tile-part
pub another_tile_part : head_of (slice_set (slice_set small_header 73 0x42) 85 0x01) ≡ refused_at 75 TileHeader
unfolding siz_tests cap_tests cod_tests tile_tests segment_tests skipped_tests sum_below read_tile read_main head_of
another_tile_part = refl

-- and after what is missing,
pub no_cap_and_another_quantisation : head_of (slice_set (header (small_siz ∷ small_cod ∷ small_qcd ∷ small_sot ∷ [])) 63 0x42) ≡ refused_at 65 (Missing 0xFF50)
unfolding siz_tests cap_tests cod_tests tile_tests segment_tests skipped_tests sum_below read_tile read_main head_of
no_cap_and_another_quantisation = refl

-- which is at SOT
pub no_cap : head_of (header (small_siz ∷ small_cod ∷ small_qcd ∷ small_sot ∷ [])) ≡ refused_at 65 (Missing 0xFF50)
unfolding siz_tests cap_tests cod_tests tile_tests segment_tests skipped_tests sum_below read_tile read_main head_of
no_cap = refl

-- a second QCD,
pub two_quantisations : head_of (header (small_siz ∷ small_cap ∷ small_cod ∷ small_qcd ∷ small_qcd ∷ small_sot ∷ [])) ≡ refused_at 75 (Twice 0xFF5C)
unfolding siz_tests cap_tests cod_tests tile_tests segment_tests skipped_tests sum_below read_tile read_main head_of
two_quantisations = refl

-- COC,
pub component_style : head_of (take 75 small_header ++ (0xFF ∷ 0x53 ∷ 0x00 ∷ 0x05 ∷ 0x00 ∷ 0x00 ∷ small_sot)) ≡ refused_at 75 (Marker 0xFF53)
unfolding siz_tests cap_tests cod_tests tile_tests segment_tests skipped_tests sum_below read_tile read_main head_of
component_style = refl

-- PLT before SOT,
pub packet_lengths_before_sot : head_of (header (small_siz ∷ small_cap ∷ small_cod ∷ small_qcd ∷ packet_lengths ∷ small_sot ∷ [])) ≡ refused_at 75 (Marker 0xFF58)
unfolding siz_tests cap_tests cod_tests tile_tests segment_tests skipped_tests sum_below read_tile read_main head_of
packet_lengths_before_sot = refl

-- and TLM after it are refused,
pub tile_lengths_behind_sot : head_of (header (small_siz ∷ small_cap ∷ small_cod ∷ small_qcd ∷ small_sot ∷ tile_lengths ∷ [])) ≡ refused_at 87 (Marker 0xFF55)
unfolding siz_tests cap_tests cod_tests tile_tests segment_tests skipped_tests sum_below read_tile read_main head_of
tile_lengths_behind_sot = refl

-- the earlier segment first
pub sop_before_component_style : head_of (slice_set (take 75 small_header ++ (0xFF ∷ 0x53 ∷ 0x00 ∷ 0x05 ∷ 0x00 ∷ 0x00 ∷ small_sot)) 59 0x02) ≡ refused_at 55 Sop
unfolding siz_tests cap_tests cod_tests tile_tests segment_tests skipped_tests sum_below read_tile read_main head_of
sop_before_component_style = refl
