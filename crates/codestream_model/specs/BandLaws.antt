-- What is promised of the coordinates of bands.
use Rattle.std.specs.Prelude.{◌↔◌, ◌+◌, ◌-◌, ◌*◌, ◌^◌, ℕ}
use Rattle.codestream_model.specs.Areas.{Span, band_span}
use Rattle.codestream_model.specs.GeometryLaws.{IsWithin}

-- A coordinate u is in a band of level n exactly where 2^n × u + 2^(n-1) × odd is in the component (B.5, equation B-15).
abbrev pub BandSpansAreSampled : Type 0
BandSpansAreSampled =
    (n odd u : ℕ) (s : Span)
    → IsWithin (band_span n odd s) u ↔ IsWithin s (2 ^ n * u + 2 ^ (n - 1) * odd)
