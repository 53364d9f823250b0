-- Segments of main headers.
use Rattle.std.specs.Prelude.{◌≡◌, ◌≤◌, length}
use Rattle.codestream_model.specs.Segments.{SOT, Segment}

-- An SOT segment has the bytes of Psot (T.800 A.4.2).
abbrev pub HasPsot : Segment → Type 0
HasPsot s = s.marker ≡ SOT → 6 ≤ length s.content
