-- The areas that the image has in a component, in a resolution of it and in a band of that (T.800 B.2, B.3 and B.5).
use Rattle.std.specs.Prelude.{◌+◌, ◌-◌, ◌*◌, ◌/◌, ◌%◌, ◌^◌, ◌==◌, ℕ, slice_index_or, if◌then◌else◌}
use Rattle.codestream_model.specs.Values.{Pair, Head}

-- A quotient, rounded up to a whole number; `/` rounds down. The law `QuotientIsRoundedUp` says so.
abbrev pub ceil_div : ℕ → ℕ → ℕ
ceil_div a b = (a + (b - 1)) / b

-- A range of coordinates in one direction, from `from` up to but not including `to`.
pub record Span : Type 0 where
  pub from : ℕ
  pub to : ℕ

-- An area is a range of x and one of y.
pub record Area : Type 0 where
  pub x : Span
  pub y : Span

-- `divided by s` is the range after keeping every `by`-th coordinate.
abbrev pub divided : ℕ → Span → Span
divided by s = record { from = ceil_div s.from by; to = ceil_div s.to by }

-- The area of the image on the reference grid (B.2).
abbrev pub image_area : Head → Area
image_area h = record { x = record { from = h.x0; to = h.x1 }; y = record { from = h.y0; to = h.y1 } }

-- XRsiz and YRsiz of a component.
abbrev pub step_of : Head → ℕ → Pair
step_of h c = slice_index_or h.steps c (record { x = 1; y = 1 })

-- The area of a component, tcx0 to tcx1 and tcy0 to tcy1; the one tile is the whole image (B.3, equation B-12).
abbrev pub component_area : Head → ℕ → Area
component_area h c = record { x = divided (step_of h c).x (image_area h).x; y = divided (step_of h c).y (image_area h).y }

-- The area of a resolution of a component, trx0 to trx1 and try0 to try1 (B.5, equation B-14).
abbrev pub resolution_area : Head → ℕ → ℕ → Area
resolution_area h c r = record {
  x = divided (2 ^ (h.levels - r)) (component_area h c).x;
  y = divided (2 ^ (h.levels - r)) (component_area h c).y;
}

-- The decomposition level of the bands of a resolution (B.5).
abbrev pub band_level : Head → ℕ → ℕ
band_level h r = if r == 0 then h.levels else h.levels - r + 1

-- The range of a band of level n, of the odd coordinates if odd is 1 (B.5, equation B-15). A coordinate below the half step
-- is taken as 0: the quotient is then above -1 and at most 0, and rounded up it is 0 as well. The law
-- `BandSpansAreSampled` says which coordinates are in it.
abbrev pub band_span : ℕ → ℕ → Span → Span
band_span n odd s = record {
  from = ceil_div (s.from - 2 ^ (n - 1) * odd) (2 ^ n);
  to = ceil_div (s.to - 2 ^ (n - 1) * odd) (2 ^ n);
}

-- The area of a band, tbx0 to tbx1 and tby0 to tby1; HL and HH have the odd coordinates of x, LH and HH those of y.
abbrev pub band_area : Head → ℕ → ℕ → ℕ → Area
band_area h c r band = record {
  x = band_span (band_level h r) (band % 2) (component_area h c).x;
  y = band_span (band_level h r) (band / 2) (component_area h c).y;
}
