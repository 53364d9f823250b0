-- Areas, precincts, grids and the packet order of two images, computed.
use Rattle.std.specs.Prelude.{◌≡◌, ◌==◌, ℕ, true, false, List, [], ◌∷◌, map}
use Rattle.std.specs.List.{list_any}
use Rattle.std.proofs.Common.{refl}
use Rattle.codestream_model.specs.Values.{Head, Place, Grid}
use Rattle.codestream_model.specs.Areas.{Area, resolution_area}
use Rattle.codestream_model.specs.Precincts.{precinct_columns, precinct_rows, part_x, part_y, grids}
use Rattle.codestream_model.specs.PacketOrder.{sum_below, pid, anchor, placed, sorted, packet_order}

-- an image from (3, 5) to (19, 13) of two components, the second with half the columns, at two resolutions
unfoldable pub two_components : Head
two_components = record {
  x0 = 3;
  y0 = 5;
  x1 = 19;
  y1 = 13;
  steps = record { x = 1; y = 1 } ∷ record { x = 2; y = 1 } ∷ [];
  levels = 1;
  block = record { x = 6; y = 6 };
  precincts = record { x = 3; y = 3 } ∷ record { x = 3; y = 3 } ∷ [];
  order = 3;
  eph = false;
  psot = 0;
  sot = 83;
  length = 97;
}

-- an image of the one sample at (1, 0), at two resolutions in precincts as large as can be
unfoldable pub odd_sample : Head
odd_sample = record {
  x0 = 1;
  y0 = 0;
  x1 = 2;
  y1 = 1;
  steps = record { x = 1; y = 1 } ∷ [];
  levels = 1;
  block = record { x = 6; y = 6 };
  precincts = record { x = 15; y = 15 } ∷ record { x = 15; y = 15 } ∷ [];
  order = 3;
  eph = false;
  psot = 0;
  sot = 78;
  length = 92;
}

-- The same in RPCL order.
abbrev pub two_components_by_resolution : Head
two_components_by_resolution = record two_components { order = 2 }

-- The values of a header of one component with N_L 0, code-blocks of 64 by 64, PCRL order, no EPH and Psot 0.
abbrev pub plain_head : ℕ → ℕ → ℕ → ℕ → ℕ → ℕ → Head
plain_head x0 x1 y1 exponent sot n = record {
  x0 = x0;
  y0 = 0;
  x1 = x1;
  y1 = y1;
  steps = record { x = 1; y = 1 } ∷ [];
  levels = 0;
  block = record { x = 6; y = 6 };
  precincts = record { x = exponent; y = exponent } ∷ [];
  order = 3;
  eph = false;
  psot = 0;
  sot = sot;
  length = n;
}

-- An image of one sample.
abbrev pub one_sample : Head
one_sample = plain_head 0 1 1 15 75 89

-- An image of one sample with EPH after each packet header.
abbrev pub one_sample_with_eph : Head
one_sample_with_eph = record one_sample { eph = true }

-- An image of three samples side by side, in precincts of one sample.
abbrev pub three_samples : Head
three_samples = plain_head 0 3 1 0 76 90

-- an area by its four bounds
abbrev pub area : ℕ → ℕ → ℕ → ℕ → Area
area x0 x1 y0 y1 = record { x = record { from = x0; to = x1 }; y = record { from = y0; to = y1 } }

-- a precinct by its three numbers
abbrev pub place : ℕ → ℕ → ℕ → Place
place c r k = record { c = c; r = r; k = k }

-- a line of the packet order: PID, component, resolution, number, and the anchor's y and x
abbrev pub line : Head → Place → List ℕ
line h p = pid h p ∷ p.c ∷ p.r ∷ p.k ∷ (anchor h p).y ∷ (anchor h p).x ∷ []

-- the columns and rows of precincts of a component at a resolution
abbrev pub counts : Head → ℕ → ℕ → List ℕ
counts h c r = precinct_columns h c r ∷ precinct_rows h c r ∷ []

-- a precinct's part of a band
abbrev pub band_part : Head → Place → ℕ → Area
band_part h p band = record { x = part_x h p band; y = part_y h p band }

-- a grid by its three numbers
abbrev pub grid_of : ℕ → ℕ → ℕ → Grid
grid_of band cols rows = record { band = band; cols = cols; rows = rows }

-- the areas of the four resolutions,
pub area_of_0_0 : resolution_area two_components 0 0 ≡ area 2 10 3 7
unfolding two_components
area_of_0_0 = refl

-- component 0 at the higher,
pub area_of_0_1 : resolution_area two_components 0 1 ≡ area 3 19 5 13
unfolding two_components
area_of_0_1 = refl

-- component 1 at the lower,
pub area_of_1_0 : resolution_area two_components 1 0 ≡ area 1 5 3 7
unfolding two_components
area_of_1_0 = refl

-- and at the higher
pub area_of_1_1 : resolution_area two_components 1 1 ≡ area 2 10 5 13
unfolding two_components
area_of_1_1 = refl

-- the thirteen packets in their order
pub packets : map (line two_components) (packet_order two_components) ≡
    (0 ∷ 0 ∷ 0 ∷ 0 ∷ 5 ∷ 3 ∷ [])
    ∷ (4 ∷ 0 ∷ 1 ∷ 0 ∷ 5 ∷ 3 ∷ [])
    ∷ (1 ∷ 1 ∷ 0 ∷ 0 ∷ 5 ∷ 3 ∷ [])
    ∷ (3 ∷ 1 ∷ 1 ∷ 0 ∷ 5 ∷ 3 ∷ [])
    ∷ (6 ∷ 0 ∷ 1 ∷ 1 ∷ 5 ∷ 8 ∷ [])
    ∷ (2 ∷ 0 ∷ 0 ∷ 1 ∷ 5 ∷ 16 ∷ [])
    ∷ (8 ∷ 0 ∷ 1 ∷ 2 ∷ 5 ∷ 16 ∷ [])
    ∷ (5 ∷ 1 ∷ 1 ∷ 1 ∷ 5 ∷ 16 ∷ [])
    ∷ (10 ∷ 0 ∷ 1 ∷ 3 ∷ 8 ∷ 3 ∷ [])
    ∷ (7 ∷ 1 ∷ 1 ∷ 2 ∷ 8 ∷ 3 ∷ [])
    ∷ (12 ∷ 0 ∷ 1 ∷ 4 ∷ 8 ∷ 8 ∷ [])
    ∷ (14 ∷ 0 ∷ 1 ∷ 5 ∷ 8 ∷ 16 ∷ [])
    ∷ (9 ∷ 1 ∷ 1 ∷ 3 ∷ 8 ∷ 16 ∷ [])
    ∷ []
unfolding two_components sum_below placed sorted
packets = refl

-- The thirteen packets in RPCL order.
pub packets_by_resolution : map (pid two_components_by_resolution) (packet_order two_components_by_resolution) ≡
    0 ∷ 1 ∷ 2 ∷ 4 ∷ 3 ∷ 6 ∷ 8 ∷ 5 ∷ 10 ∷ 7 ∷ 12 ∷ 14 ∷ 9 ∷ []
unfolding two_components sum_below placed sorted
packets_by_resolution = refl

-- the fourteenth number is that of component 0, resolution 1, the last precinct there,
pub pid_14 : pid two_components (place 0 1 5) ≡ 14
unfolding two_components sum_below
pid_14 = refl

-- and no packet has the number 11
pub pid_11 : list_any (λ p. pid two_components p == 11) (packet_order two_components) ≡ false
unfolding two_components sum_below placed sorted
pid_11 = refl

-- how many columns and rows of precincts there are,
pub counts_of_0_0 : counts two_components 0 0 ≡ 2 ∷ 1 ∷ []
unfolding two_components
counts_of_0_0 = refl

-- of component 0 at the higher resolution,
pub counts_of_0_1 : counts two_components 0 1 ≡ 3 ∷ 2 ∷ []
unfolding two_components
counts_of_0_1 = refl

-- of component 1 at the lower,
pub counts_of_1_0 : counts two_components 1 0 ≡ 1 ∷ 1 ∷ []
unfolding two_components
counts_of_1_0 = refl

-- and at the higher
pub counts_of_1_1 : counts two_components 1 1 ≡ 2 ∷ 2 ∷ []
unfolding two_components
counts_of_1_1 = refl

-- a precinct's parts of HL, LH and HH,
pub part_of_hl : band_part two_components (place 0 1 0) 1 ≡ area 1 4 3 4
unfolding two_components
part_of_hl = refl

-- in LH,
pub part_of_lh : band_part two_components (place 0 1 0) 2 ≡ area 2 4 2 4
unfolding two_components
part_of_lh = refl

-- and in HH,
pub part_of_hh : band_part two_components (place 0 1 0) 3 ≡ area 1 4 2 4
unfolding two_components
part_of_hh = refl

-- each in one code-block
pub grids_of_0_1_0 : grids two_components (place 0 1 0) ≡ grid_of 1 1 1 ∷ grid_of 2 1 1 ∷ grid_of 3 1 1 ∷ []
unfolding two_components
grids_of_0_1_0 = refl

-- the lower resolution of the odd sample has a row of precincts, but no column,
pub counts_of_odd_sample : counts odd_sample 0 0 ≡ 0 ∷ 1 ∷ []
unfolding odd_sample
counts_of_odd_sample = refl

-- so there is one packet,
pub packets_of_odd_sample : map (line odd_sample) (packet_order odd_sample) ≡ (0 ∷ 0 ∷ 1 ∷ 0 ∷ 0 ∷ 1 ∷ []) ∷ []
unfolding odd_sample sum_below placed sorted
packets_of_odd_sample = refl

-- with one code-block in HL
pub grids_of_odd_sample : grids odd_sample (place 0 1 0) ≡ grid_of 1 1 1 ∷ grid_of 2 0 0 ∷ grid_of 3 0 0 ∷ []
unfolding odd_sample
grids_of_odd_sample = refl

-- three precincts side by side, one code-block in each
pub packets_of_three : map (line three_samples) (packet_order three_samples) ≡ (0 ∷ 0 ∷ 0 ∷ 0 ∷ 0 ∷ 0 ∷ []) ∷ (1 ∷ 0 ∷ 0 ∷ 1 ∷ 0 ∷ 1 ∷ []) ∷ (2 ∷ 0 ∷ 0 ∷ 2 ∷ 0 ∷ 2 ∷ []) ∷ []
unfolding sum_below placed sorted
packets_of_three = refl

-- one code-block in each
pub grids_of_three : map (grids three_samples) (packet_order three_samples) ≡ (grid_of 0 1 1 ∷ []) ∷ (grid_of 0 1 1 ∷ []) ∷ (grid_of 0 1 1 ∷ []) ∷ []
unfolding placed sorted
grids_of_three = refl
