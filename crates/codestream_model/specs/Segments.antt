-- Marker segments (T.800 A.1): a marker, a length that counts itself and the content, and the content.
use Rattle.std.specs.Prelude.{◌+◌, ◌==◌, ℕ, Bool, List, [], ◌∷◌, ◌++◌, length, slice_range, drop, if◌then◌else◌}
use Rattle.std.specs.List.{flat_map, list_any}
use Rattle.codestream_model.specs.Bytes.{two_bytes, two_at}

-- Start of codestream (table A.2, which has all these markers).
abbrev pub SOC : ℕ
SOC = 0xFF4F

-- Extended capabilities.
abbrev pub CAP : ℕ
CAP = 0xFF50

-- Image and tile size.
abbrev pub SIZ : ℕ
SIZ = 0xFF51

-- Coding style default.
abbrev pub COD : ℕ
COD = 0xFF52

-- Tile-part lengths.
abbrev pub TLM : ℕ
TLM = 0xFF55

-- Profile.
abbrev pub PRF : ℕ
PRF = 0xFF56

-- Packet lengths, main header.
abbrev pub PLM : ℕ
PLM = 0xFF57

-- Packet lengths, tile-part header.
abbrev pub PLT : ℕ
PLT = 0xFF58

-- Corresponding profile.
abbrev pub CPF : ℕ
CPF = 0xFF59

-- Quantisation default.
abbrev pub QCD : ℕ
QCD = 0xFF5C

-- Quantisation component.
abbrev pub QCC : ℕ
QCC = 0xFF5D

-- Component registration.
abbrev pub CRG : ℕ
CRG = 0xFF63

-- Comment.
abbrev pub COM : ℕ
COM = 0xFF64

-- Start of tile-part.
abbrev pub SOT : ℕ
SOT = 0xFF90

-- Start of data.
abbrev pub SOD : ℕ
SOD = 0xFF93

-- A segment: its marker and its content.
pub record Segment : Type 0 where
  pub marker : ℕ
  pub content : List ℕ

-- The length that a segment with this content states.
abbrev pub stated_length : List ℕ → ℕ
stated_length content = length content + 2

-- A segment in bytes.
abbrev pub segment_bytes : Segment → List ℕ
segment_bytes s = two_bytes s.marker ++ (two_bytes (stated_length s.content) ++ s.content)

-- Segments in bytes, one after another.
abbrev pub segments_bytes : List Segment → List ℕ
segments_bytes segments = flat_map segment_bytes segments

-- A segment with this marker is among these.
abbrev pub stands : ℕ → List Segment → Bool
stands m segments = list_any (λ s. s.marker == m) segments

-- The content of the first segment with this marker, and none where there is none.
abbrev pub content_of : ℕ → List Segment → List ℕ
content_of m [] = []
content_of m (s ∷ more) = if s.marker == m then s.content else content_of m more

-- The offset of the first segment with this marker, where the segments follow the two bytes of SOC.
abbrev pub offset_of : ℕ → List Segment → ℕ
offset_of m [] = 2
offset_of m (s ∷ more) = if s.marker == m then 2 else length (segment_bytes s) + offset_of m more

-- The segment at the start of bytes.
abbrev pub segment_at : List ℕ → Segment
segment_at b = record { marker = two_at b 0; content = slice_range b 4 (2 + two_at b 2) }

-- The bytes after the segment at the start of bytes.
abbrev pub behind_segment : List ℕ → List ℕ
behind_segment b = drop (2 + two_at b 2) b
