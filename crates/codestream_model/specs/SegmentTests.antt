-- The conditions on the content of each marker segment, in the order in which they are judged (T.800 Annex A, T.814).
use Rattle.std.specs.Prelude.{◌+◌, ◌-◌, ◌*◌, ◌/◌, ◌%◌, ◌^◌, ◌==◌, ◌||◌, ℕ, Bool, not, List, [], ◌∷◌, map, length, drop, slice_index, nat_le, nat_lt, if◌then◌else◌}
use Rattle.std.specs.List.{list_any, range_with_len}
use Rattle.codestream_model.specs.Values.{Pair, Head}
use Rattle.codestream_model.specs.Areas.{ceil_div}
use Rattle.codestream_model.specs.PacketOrder.{precincts_below}
use Rattle.codestream_model.specs.Bytes.{two_at, four_at}
use Rattle.codestream_model.specs.Segments.{SIZ, COD, QCD, Segment, stated_length, segments_bytes, content_of}
use Rattle.codestream_model.specs.HeadRefusals.{Test, refuses, Length, Tiles, Components, Step, Area, Rsiz, Cap, Order, Layers, Levels, Blocks, Style, Precinct, Quant, Sop, TileHeader, Ids}

-- Rsiz, the first value of SIZ (A.5.1). Image and tile size has, in bits: Rsiz 16; Xsiz, Ysiz, XOsiz, YOsiz, XTsiz,
-- YTsiz, XTOsiz, YTOsiz 32 each; Csiz 16; and Ssiz, XRsiz and YRsiz of each component, 8 each.
abbrev pub rsiz : List ℕ → ℕ
rsiz c = two_at c 0

-- Xsiz, where the image ends in x.
abbrev pub xsiz : List ℕ → ℕ
xsiz c = four_at c 2

-- Ysiz, where the image ends in y.
abbrev pub ysiz : List ℕ → ℕ
ysiz c = four_at c 6

-- XOsiz, where the image begins in x.
abbrev pub xosiz : List ℕ → ℕ
xosiz c = four_at c 10

-- YOsiz, where the image begins in y.
abbrev pub yosiz : List ℕ → ℕ
yosiz c = four_at c 14

-- XTsiz, the width of a tile.
abbrev pub xtsiz : List ℕ → ℕ
xtsiz c = four_at c 18

-- YTsiz, the height of a tile.
abbrev pub ytsiz : List ℕ → ℕ
ytsiz c = four_at c 22

-- XTOsiz, where the first tile begins in x.
abbrev pub xtosiz : List ℕ → ℕ
xtosiz c = four_at c 26

-- YTOsiz, where the first tile begins in y.
abbrev pub ytosiz : List ℕ → ℕ
ytosiz c = four_at c 30

-- Csiz, the number of components.
abbrev pub csiz : List ℕ → ℕ
csiz c = two_at c 34

-- XRsiz and YRsiz of each component.
abbrev pub siz_steps : List ℕ → List Pair
siz_steps c = map (λ i. record { x = slice_index c (37 + 3 * i); y = slice_index c (38 + 3 * i) }) (range_with_len 0 (csiz c))

-- A component with these steps has no sample in the image area.
abbrev pub is_empty : List ℕ → Pair → Bool
is_empty c step = nat_le (ceil_div (xsiz c) step.x) (ceil_div (xosiz c) step.x) || nat_le (ceil_div (ysiz c) step.y) (ceil_div (yosiz c) step.y)

-- The greatest number of components of the profile.
abbrev pub most_components : ℕ
most_components = 16

-- The conditions on SIZ: one to sixteen components, high throughput, one tile over the whole image, and no empty
-- component.
unfoldable pub siz_tests : List ℕ → List Test
siz_tests c =
    refuses Components (csiz c == 0)
    ∷ refuses Components (nat_lt most_components (csiz c))
    ∷ refuses Length (not (stated_length c == 38 + 3 * csiz c))
    ∷ refuses Rsiz (rsiz c / 0x4000 % 2 == 0)
    ∷ refuses Area (nat_le (2 ^ 31) (xsiz c))
    ∷ refuses Area (nat_le (2 ^ 31) (ysiz c))
    ∷ refuses Area (nat_le (xsiz c) (xosiz c))
    ∷ refuses Area (nat_le (ysiz c) (yosiz c))
    ∷ refuses Tiles (nat_lt (xosiz c) (xtosiz c))
    ∷ refuses Tiles (nat_lt (yosiz c) (ytosiz c))
    ∷ refuses Tiles (nat_lt (xtosiz c + xtsiz c) (xsiz c))
    ∷ refuses Tiles (nat_lt (ytosiz c + ytsiz c) (ysiz c))
    ∷ refuses Step (list_any (λ step. step.x == 0 || step.y == 0) (siz_steps c))
    ∷ refuses Area (list_any (is_empty c) (siz_steps c))
    ∷ []

-- The conditions on CAP, extended capabilities (A.5.2 of later editions; T.814): Pcap 32, with the bit of part 15
-- alone; Ccap15 16, whose upper three bits are 0, so that there are only HT code-blocks and one set in each.
unfoldable pub cap_tests : List ℕ → List Test
cap_tests c =
    refuses Cap (not (four_at c 0 == 0x0002_0000))
    ∷ refuses Length (not (stated_length c == 8))
    ∷ refuses Cap (nat_le 0x2000 (two_at c 4))
    ∷ []

-- The numbers of the two progression orders of the profile (table A.16): resolution, position, component, layer; and position,
-- component, resolution, layer.
abbrev pub RPCL : ℕ
RPCL = 2

-- The progression order position, component, resolution, layer.
abbrev pub PCRL : ℕ
PCRL = 3

-- Scod, the first value of COD (A.6.1). Coding style default has, in bits: Scod 8; progression order 8; layers 16;
-- component transform 8; N_L 8; xcb - 2 and ycb - 2, 8 each; code-block style 8; wavelet 8; and with bit 0 of Scod PPx
-- and PPy of each resolution, 4 bits each, PPy first.
abbrev pub scod : List ℕ → ℕ
scod c = slice_index c 0

-- The progression order.
abbrev pub cod_order : List ℕ → ℕ
cod_order c = slice_index c 1

-- The number of layers.
abbrev pub cod_layers : List ℕ → ℕ
cod_layers c = two_at c 2

-- N_L, the number of decomposition levels.
abbrev pub cod_levels : List ℕ → ℕ
cod_levels c = slice_index c 5

-- The exponents xcb and ycb of the code-block size.
abbrev pub cod_block : List ℕ → Pair
cod_block c = record { x = slice_index c 6 + 2; y = slice_index c 7 + 2 }

-- The code-block style.
abbrev pub cod_style : List ℕ → ℕ
cod_style c = slice_index c 8

-- The precinct sizes are given.
abbrev pub has_sizes : List ℕ → Bool
has_sizes c = scod c % 2 == 1

-- An EPH marker follows each packet header, that of an empty packet too.
abbrev pub has_eph : List ℕ → Bool
has_eph c = scod c / 4 % 2 == 1

-- PPx and PPy of a resolution; without sizes both are 15.
abbrev pub cod_precinct : List ℕ → ℕ → Pair
cod_precinct c r = if has_sizes c then record { x = slice_index c (10 + r) % 16; y = slice_index c (10 + r) / 16 } else record { x = 15; y = 15 }

-- PPx and PPy of each resolution, from the lowest on.
abbrev pub cod_precincts : List ℕ → List Pair
cod_precincts c = map (cod_precinct c) (range_with_len 0 (cod_levels c + 1))

-- The tests of COD: no SOP, RPCL or PCRL order, one layer, at most 15 levels, code-blocks of at most 1024 by 1024 and 4096
-- samples, the HT style, vertically causal or not, and no PPx or PPy of 0 above resolution 0.
unfoldable pub cod_tests : List ℕ → List Test
cod_tests c =
    refuses Style (nat_le 8 (scod c))
    ∷ refuses Sop (scod c / 2 % 2 == 1)
    ∷ refuses Order (not (cod_order c == RPCL || cod_order c == PCRL))
    ∷ refuses Layers (not (cod_layers c == 1))
    ∷ refuses Levels (nat_lt 15 (cod_levels c))
    ∷ refuses Length (not (stated_length c == (if has_sizes c then 13 + cod_levels c else 12)))
    ∷ refuses Blocks (nat_lt 8 (slice_index c 6))
    ∷ refuses Blocks (nat_lt 8 (slice_index c 7))
    ∷ refuses Blocks (nat_lt 12 ((cod_block c).x + (cod_block c).y))
    ∷ refuses Style (not (cod_style c == 0x40 || cod_style c == 0x48))
    ∷ refuses Precinct (list_any (λ e. e.x == 0 || e.y == 0) (drop 1 (cod_precincts c)))
    ∷ []

-- The quantisation style: the low five bits of Sqcd, the first value of QCD (A.6.4), after which come the step values.
abbrev pub quant_style : List ℕ → ℕ
quant_style c = slice_index c 0 % 32

-- The length that QCD states with no quantisation, with derived steps and with given ones.
abbrev pub quant_length : ℕ → ℕ → ℕ
quant_length style levels = if style == 0 then 4 + 3 * levels else if style == 1 then 5 else 5 + 6 * levels

-- Isot, the first value of SOT (A.4.2). Start of tile-part has, in bits: Isot 16, Psot 32, TPsot 8, TNsot 8.
abbrev pub isot : List ℕ → ℕ
isot c = two_at c 0

-- Psot, the length of the tile-part.
abbrev pub sot_psot : List ℕ → ℕ
sot_psot c = four_at c 2

-- TPsot, the number of the tile-part.
abbrev pub tpsot : List ℕ → ℕ
tpsot c = slice_index c 6

-- TNsot, the number of tile-parts, or 0.
abbrev pub tnsot : List ℕ → ℕ
tnsot c = slice_index c 7

-- The values of a header with these segments before SOT, this content of SOT, and this length.
abbrev pub head_values : List Segment → List ℕ → ℕ → Head
head_values main tile n = record {
  x0 = xosiz (content_of SIZ main);
  y0 = yosiz (content_of SIZ main);
  x1 = xsiz (content_of SIZ main);
  y1 = ysiz (content_of SIZ main);
  steps = siz_steps (content_of SIZ main);
  levels = cod_levels (content_of COD main);
  block = cod_block (content_of COD main);
  precincts = cod_precincts (content_of COD main);
  order = cod_order (content_of COD main);
  eph = has_eph (content_of COD main);
  psot = sot_psot tile;
  sot = 2 + length (segments_bytes main);
  length = n;
}

-- One more than the greatest PID of a component's precincts, or c + 1 if the component has none. The law
-- `GreatPidsAreFound` says that the threshold 2^20 is judged rightly in either case.
abbrev pub pids_end : Head → ℕ → ℕ
pids_end h c = (precincts_below h c (h.levels + 1) - 1) * length h.steps + c + 1

-- A precinct would have a PID of 2^20 or more.
abbrev pub has_great_pid : Head → Bool
has_great_pid h = list_any (λ c. nat_lt (2 ^ 20) (pids_end h c)) (range_with_len 0 (length h.steps))

-- The tests of SOT and of what needs the whole header: the one tile-part of the one tile, a known quantisation style whose
-- length is the one that `quant_length` gives, and PIDs below 2^20.
unfoldable pub tile_tests : List Segment → List ℕ → List Test
tile_tests main c =
    refuses TileHeader (not (isot c == 0))
    ∷ refuses TileHeader (not (tpsot c == 0))
    ∷ refuses TileHeader (nat_lt 1 (tnsot c))
    ∷ refuses Quant (nat_lt 2 (quant_style (content_of QCD main)))
    ∷ refuses Quant (not (stated_length (content_of QCD main) == quant_length (quant_style (content_of QCD main)) (cod_levels (content_of COD main))))
    ∷ refuses Ids (has_great_pid (head_values main c 0))
    ∷ []
