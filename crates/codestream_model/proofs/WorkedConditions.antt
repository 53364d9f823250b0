-- The conditions on a main header one by one, in the order in which they are judged: each is met by a change of a header.
use Rattle.std.specs.Prelude.{◌≡◌, ◌++◌, [], ◌∷◌, take, slice_set, Ok}
use Rattle.std.proofs.Common.{refl}
use Rattle.codestream_model.specs.PacketOrder.{sum_below}
use Rattle.codestream_model.specs.HeadRefusals.{Marker, Length, Twice, Missing, Tiles, Components, Area, Rsiz, Cap, Layers, Blocks, Style, Precinct, Quant, TileHeader}
use Rattle.codestream_model.specs.SegmentTests.{siz_tests, cap_tests, cod_tests, tile_tests}
use Rattle.codestream_model.specs.RefusedHeader.{segment_tests, skipped_tests}
use Rattle.codestream_model.specs.MainHeaderReading.{read_tile, read_main, head_of}
use Rattle.codestream_model.proofs.Headers.{header, small_siz, small_cap, small_cod, small_qcd, small_sot, small_header, header_of_two_components}
use Rattle.codestream_model.proofs.WorkedGeometry.{plain_head}
use Rattle.codestream_model.proofs.WorkedHeaders.{refused_at}

-- in front of SOT: SOD,
pub no_sot : head_of (header (small_siz ∷ small_cap ∷ small_cod ∷ small_qcd ∷ [])) ≡ refused_at 75 (Marker 0xFF93)
unfolding siz_tests cap_tests cod_tests tile_tests segment_tests skipped_tests sum_below read_tile read_main head_of
no_sot = refl

-- a second SIZ,
pub two_sizes : head_of (header (small_siz ∷ small_siz ∷ small_cap ∷ small_cod ∷ small_qcd ∷ small_sot ∷ [])) ≡ refused_at 45 (Twice 0xFF51)
unfolding siz_tests cap_tests cod_tests tile_tests segment_tests skipped_tests sum_below read_tile read_main head_of
two_sizes = refl

-- no COD,
pub no_cod : head_of (header (small_siz ∷ small_cap ∷ small_qcd ∷ small_sot ∷ [])) ≡ refused_at 61 (Missing 0xFF52)
unfolding siz_tests cap_tests cod_tests tile_tests segment_tests skipped_tests sum_below read_tile read_main head_of
no_cod = refl

-- no QCD,
pub no_qcd : head_of (header (small_siz ∷ small_cap ∷ small_cod ∷ small_sot ∷ [])) ≡ refused_at 69 (Missing 0xFF5C)
unfolding siz_tests cap_tests cod_tests tile_tests segment_tests skipped_tests sum_below read_tile read_main head_of
no_qcd = refl

-- a length below 2,
pub a_length_below_two : head_of (take 75 small_header ++ (0xFF ∷ 0x64 ∷ 0x00 ∷ 0x01 ∷ small_sot)) ≡ refused_at 75 Length
unfolding siz_tests cap_tests cod_tests tile_tests segment_tests skipped_tests sum_below read_tile read_main head_of
a_length_below_two = refl

-- a length of SOT other than 10
pub another_length_of_sot : head_of (slice_set small_header 78 0x0B) ≡ refused_at 75 Length
unfolding siz_tests cap_tests cod_tests tile_tests segment_tests skipped_tests sum_below read_tile read_main head_of
another_length_of_sot = refl

-- SIZ: seventeen components,
pub seventeen_components : head_of (slice_set small_header 41 0x11) ≡ refused_at 2 Components
unfolding siz_tests cap_tests cod_tests tile_tests segment_tests skipped_tests sum_below read_tile read_main head_of
seventeen_components = refl

-- a length for fewer components,
pub two_components_in_the_length_of_one : head_of (slice_set small_header 41 0x02) ≡ refused_at 2 Length
unfolding siz_tests cap_tests cod_tests tile_tests segment_tests skipped_tests sum_below read_tile read_main head_of
two_components_in_the_length_of_one = refl

-- no high throughput,
pub no_high_throughput : head_of (slice_set small_header 6 0x00) ≡ refused_at 2 Rsiz
unfolding siz_tests cap_tests cod_tests tile_tests segment_tests skipped_tests sum_below read_tile read_main head_of
no_high_throughput = refl

-- a width of 2^31,
pub too_wide : head_of (slice_set small_header 8 0x80) ≡ refused_at 2 Area
unfolding siz_tests cap_tests cod_tests tile_tests segment_tests skipped_tests sum_below read_tile read_main head_of
too_wide = refl

-- a height of 2^31,
pub too_high : head_of (slice_set small_header 12 0x80) ≡ refused_at 2 Area
unfolding siz_tests cap_tests cod_tests tile_tests segment_tests skipped_tests sum_below read_tile read_main head_of
too_high = refl

-- no width,
pub no_width : head_of (slice_set small_header 19 0x01) ≡ refused_at 2 Area
unfolding siz_tests cap_tests cod_tests tile_tests segment_tests skipped_tests sum_below read_tile read_main head_of
no_width = refl

-- no height,
pub no_height : head_of (slice_set small_header 23 0x01) ≡ refused_at 2 Area
unfolding siz_tests cap_tests cod_tests tile_tests segment_tests skipped_tests sum_below read_tile read_main head_of
no_height = refl

-- a tile that begins right of the image,
pub tile_right_of_the_image : head_of (slice_set small_header 35 0x01) ≡ refused_at 2 Tiles
unfolding siz_tests cap_tests cod_tests tile_tests segment_tests skipped_tests sum_below read_tile read_main head_of
tile_right_of_the_image = refl

-- or below it,
pub tile_below_the_image : head_of (slice_set small_header 39 0x01) ≡ refused_at 2 Tiles
unfolding siz_tests cap_tests cod_tests tile_tests segment_tests skipped_tests sum_below read_tile read_main head_of
tile_below_the_image = refl

-- or ends in it, in x,
pub tile_ends_left : head_of (slice_set small_header 27 0x00) ≡ refused_at 2 Tiles
unfolding siz_tests cap_tests cod_tests tile_tests segment_tests skipped_tests sum_below read_tile read_main head_of
tile_ends_left = refl

-- or in y
pub tile_ends_above : head_of (slice_set small_header 31 0x00) ≡ refused_at 2 Tiles
unfolding siz_tests cap_tests cod_tests tile_tests segment_tests skipped_tests sum_below read_tile read_main head_of
tile_ends_above = refl

-- CAP: more than one HT set in a code-block
pub multiple_ht_sets : head_of (slice_set small_header 53 0x20) ≡ refused_at 45 Cap
unfolding siz_tests cap_tests cod_tests tile_tests segment_tests skipped_tests sum_below read_tile read_main head_of
multiple_ht_sets = refl

-- COD: an unknown bit of Scod,
pub unknown_coding_style : head_of (slice_set small_header 59 0x08) ≡ refused_at 55 Style
unfolding siz_tests cap_tests cod_tests tile_tests segment_tests skipped_tests sum_below read_tile read_main head_of
unknown_coding_style = refl

-- two layers,
pub two_layers : head_of (slice_set small_header 62 0x02) ≡ refused_at 55 Layers
unfolding siz_tests cap_tests cod_tests tile_tests segment_tests skipped_tests sum_below read_tile read_main head_of
two_layers = refl

-- precinct sizes that the length has no room for,
pub no_room_for_precinct_sizes : head_of (slice_set small_header 59 0x01) ≡ refused_at 55 Length
unfolding siz_tests cap_tests cod_tests tile_tests segment_tests skipped_tests sum_below read_tile read_main head_of
no_room_for_precinct_sizes = refl

-- code-blocks too wide,
pub code_blocks_too_wide : head_of (slice_set small_header 65 0x09) ≡ refused_at 55 Blocks
unfolding siz_tests cap_tests cod_tests tile_tests segment_tests skipped_tests sum_below read_tile read_main head_of
code_blocks_too_wide = refl

-- too high,
pub code_blocks_too_high : head_of (slice_set small_header 66 0x09) ≡ refused_at 55 Blocks
unfolding siz_tests cap_tests cod_tests tile_tests segment_tests skipped_tests sum_below read_tile read_main head_of
code_blocks_too_high = refl

-- or too large,
pub code_blocks_too_large : head_of (slice_set (slice_set small_header 65 0x05) 66 0x04) ≡ refused_at 55 Blocks
unfolding siz_tests cap_tests cod_tests tile_tests segment_tests skipped_tests sum_below read_tile read_main head_of
code_blocks_too_large = refl

-- no HT code-blocks,
pub no_ht_code_blocks : head_of (slice_set small_header 67 0x00) ≡ refused_at 55 Style
unfolding siz_tests cap_tests cod_tests tile_tests segment_tests skipped_tests sum_below read_tile read_main head_of
no_ht_code_blocks = refl

-- which may be vertically causal,
pub vertically_causal : head_of (slice_set small_header 67 0x48) ≡ Ok (plain_head 0 1 1 15 75 89)
unfolding siz_tests cap_tests cod_tests tile_tests segment_tests skipped_tests sum_below read_tile read_main head_of
vertically_causal = refl

-- and precincts of one sample above resolution 0
pub precincts_of_one_sample : head_of (slice_set header_of_two_components 73 0x30) ≡ refused_at 58 Precinct
unfolding siz_tests cap_tests cod_tests tile_tests segment_tests skipped_tests sum_below read_tile read_main head_of
precincts_of_one_sample = refl

-- SOT: another tile,
pub another_tile : head_of (slice_set small_header 80 0x01) ≡ refused_at 75 TileHeader
unfolding siz_tests cap_tests cod_tests tile_tests segment_tests skipped_tests sum_below read_tile read_main head_of
another_tile = refl

-- two tile-parts,
pub two_tile_parts : head_of (slice_set small_header 86 0x02) ≡ refused_at 75 TileHeader
unfolding siz_tests cap_tests cod_tests tile_tests segment_tests skipped_tests sum_below read_tile read_main head_of
two_tile_parts = refl

-- and an unknown quantisation
pub unknown_quantisation : head_of (slice_set small_header 73 0x43) ≡ refused_at 69 Quant
unfolding siz_tests cap_tests cod_tests tile_tests segment_tests skipped_tests sum_below read_tile read_main head_of
unknown_quantisation = refl

-- after SOT a length below 2
pub a_length_below_two_behind_sot : head_of (take 87 small_header ++ 0xFF ∷ 0x58 ∷ 0x00 ∷ 0x01 ∷ []) ≡ refused_at 87 Length
unfolding siz_tests cap_tests cod_tests tile_tests segment_tests skipped_tests sum_below read_tile read_main head_of
a_length_below_two_behind_sot = refl
