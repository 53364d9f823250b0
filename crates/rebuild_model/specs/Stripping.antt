-- Stripped main headers: those whose codestreams may have other packets than the ones that they were sent with.
use Rattle.std.specs.Prelude.{◌==◌, ◌||◌, ◌++◌, ℕ, zero, suc, Bool, List, [], ◌∷◌, length, take, drop, if◌then◌else◌}
use Rattle.std.specs.List.{flat_map}
use Rattle.codestream_model.specs.Bytes.{two_bytes, two_at}
use Rattle.codestream_model.specs.Segments.{SOC, SOD, SOT, TLM, PLM, PLT, Segment, segments_bytes, segment_at, behind_segment}

-- The segment tells lengths of tile-parts or of packets (T.800 A.7): TLM, PLM, PLT.
abbrev pub tells_lengths : ℕ → Bool
tells_lengths m = m == TLM || m == PLM || m == PLT

-- SOT with Psot 0: the tile-part goes on up to EOC (A.4.2). Psot is the third to the sixth byte of the content.
abbrev pub without_psot : Segment → Segment
without_psot s = record s { content = take 2 s.content ++ (0 ∷ 0 ∷ 0 ∷ 0 ∷ drop 6 s.content) }

-- What a stripped header has of a segment.
abbrev pub kept_segment : Segment → List Segment
kept_segment s = if tells_lengths s.marker then [] else (if s.marker == SOT then without_psot s else s) ∷ []

-- The segments at the start of bytes, up to SOD or at most n of them.
unfoldable pub segments_of : ℕ → List ℕ → List Segment
segments_of zero b = []
segments_of (suc n) b = if two_at b 0 == SOD then [] else segment_at b ∷ segments_of n (behind_segment b)

-- A main header without segments that tell lengths, and with Psot 0. There are fewer segments than bytes.
abbrev pub stripped : List ℕ → List ℕ
stripped header =
    two_bytes SOC
    ++ (segments_bytes (flat_map kept_segment (segments_of (length header) (drop 2 header)))
    ++ two_bytes SOD)
