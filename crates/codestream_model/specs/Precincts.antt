-- The precincts of a resolution, and the code-blocks that each has in a band (T.800 B.6 and B.7).
use Rattle.std.specs.Prelude.{◌<◌, ◌≤◌, ◌+◌, ◌-◌, ◌*◌, ◌/◌, ◌%◌, ◌^◌, ◌==◌, ℕ, min, max, List, [], ◌∷◌, length, slice_index_or, nat_le, if◌then◌else◌}
use Rattle.codestream_model.specs.Values.{Pair, Head, Place, Grid}
use Rattle.codestream_model.specs.Areas.{ceil_div, Span, resolution_area, band_area}

-- PPx and PPy of a resolution.
abbrev pub precinct_exponents : Head → ℕ → Pair
precinct_exponents h r = slice_index_or h.precincts r (record { x = 15; y = 15 })

-- How many strips of 2^e places, laid from 0 on, a stretch has places in (B.6, equation B-16). The law `StripsAreReached`
-- says so.
abbrev pub strips : ℕ → Span → ℕ
strips e s = if s.to == s.from then 0 else ceil_div s.to (2 ^ e) - s.from / 2 ^ e

-- The number of columns of precincts of a resolution.
abbrev pub precinct_columns : Head → ℕ → ℕ → ℕ
precinct_columns h c r = strips (precinct_exponents h r).x (resolution_area h c r).x

-- The number of rows of precincts of a resolution.
abbrev pub precinct_rows : Head → ℕ → ℕ → ℕ
precinct_rows h c r = strips (precinct_exponents h r).y (resolution_area h c r).y

-- The number of precincts of a resolution.
abbrev pub precinct_count : Head → ℕ → ℕ → ℕ
precinct_count h c r = precinct_columns h c r * precinct_rows h c r

-- This is a precinct of the image.
pub record IsPrecinct (h : Head) (p : Place) : Type 0 where
  pub component : p.c < length h.steps
  pub resolution : p.r ≤ h.levels
  pub number : p.k < precinct_count h p.c p.r

-- px is which strip of 2^PPx coordinates, counted from 0, a precinct is of its resolution.
abbrev pub strip_x : Head → Place → ℕ
strip_x h p = (resolution_area h p.c p.r).x.from / 2 ^ (precinct_exponents h p.r).x + p.k % precinct_columns h p.c p.r

-- py is which strip of 2^PPy coordinates, counted from 0, a precinct is of its resolution.
abbrev pub strip_y : Head → Place → ℕ
strip_y h p = (resolution_area h p.c p.r).y.from / 2 ^ (precinct_exponents h p.r).y + p.k / precinct_columns h p.c p.r

-- The exponent of a precinct in a band of its resolution: a band above resolution 0 has half the coordinates (B.7).
abbrev pub band_exponent : ℕ → ℕ → ℕ
band_exponent r e = if r == 0 then e else e - 1

-- The part of a range that lies in a strip of 2^e coordinates.
abbrev pub part : ℕ → ℕ → Span → Span
part strip e s = record { from = max s.from (strip * 2 ^ e); to = min s.to ((strip + 1) * 2 ^ e) }

-- A precinct's part of a band, in x.
abbrev pub part_x : Head → Place → ℕ → Span
part_x h p band = part (strip_x h p) (band_exponent p.r (precinct_exponents h p.r).x) (band_area h p.c p.r band).x

-- A precinct's part of a band, in y.
abbrev pub part_y : Head → Place → ℕ → Span
part_y h p band = part (strip_y h p) (band_exponent p.r (precinct_exponents h p.r).y) (band_area h p.c p.r band).y

-- The code-blocks of a precinct in a band: as many columns and rows as the part has places in strips of a code-block's size,
-- which is no larger than the precinct's in the band (B.7, equations B-17 and B-18).
abbrev pub grid : Head → Place → ℕ → Grid
grid h p band =
    if nat_le (part_x h p band).to (part_x h p band).from
    then record { band = band; cols = 0; rows = 0 }
    else
    if nat_le (part_y h p band).to (part_y h p band).from
    then record { band = band; cols = 0; rows = 0 }
    else record {
      band = band;
      cols = strips (min h.block.x (band_exponent p.r (precinct_exponents h p.r).x)) (part_x h p band);
      rows = strips (min h.block.y (band_exponent p.r (precinct_exponents h p.r).y)) (part_y h p band);
    }

-- The code-blocks of a precinct, band after band: LL, or HL, LH and HH (B.9).
abbrev pub grids : Head → Place → List Grid
grids h p = if p.r == 0 then grid h p 0 ∷ [] else grid h p 1 ∷ grid h p 2 ∷ grid h p 3 ∷ []
