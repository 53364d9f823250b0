-- The main header with the header of the one tile-part, from SOC up to and including SOD (T.800 Annex A).
use Rattle.std.specs.Prelude.{◌≡◌, ◌<◌, ◌≤◌, ◌^◌, ◌==◌, ◌||◌, ℕ, Bool, true, List, [], ◌∷◌, ◌++◌, length, filter, None, if◌then◌else◌}
use Rattle.std.specs.List.{AllByRecursion}
use Rattle.codestream_model.specs.Values.{Head}
use Rattle.codestream_model.specs.Bytes.{two_bytes}
use Rattle.codestream_model.specs.Segments.{SOC, CAP, SIZ, COD, TLM, PRF, PLM, PLT, CPF, QCD, QCC, CRG, COM, SOT, SOD, Segment, stated_length, segments_bytes, stands}
use Rattle.codestream_model.specs.HeadRefusals.{Test, first_refusal}
use Rattle.codestream_model.specs.SegmentTests.{siz_tests, cap_tests, cod_tests, head_values, tile_tests}

-- The marker is one that a main header has at most once.
abbrev pub stands_once : ℕ → Bool
stands_once m = m == SIZ || m == CAP || m == COD || m == QCD

-- The marker is allowed before SOT; those of skipped segments are among these.
abbrev pub is_main_marker : ℕ → Bool
is_main_marker m = stands_once m || m == QCC || m == TLM || m == PLM || m == CPF || m == PRF || m == CRG || m == COM

-- The marker is allowed after SOT; all of these segments are skipped.
abbrev pub is_tile_marker : ℕ → Bool
is_tile_marker m = m == PLT || m == COM

-- The least length that a segment states.
abbrev pub least_length : ℕ → ℕ
least_length m = if m == SIZ then 41 else if m == CAP then 6 else if m == COD then 12 else if m == QCD then 4 else 2

-- The conditions on the content of a segment before SOT.
abbrev pub content_tests : ℕ → List ℕ → List Test
content_tests m c = if m == SIZ then siz_tests c else if m == CAP then cap_tests c else if m == COD then cod_tests c else []

-- None of these conditions is met.
abbrev pub Passes : List Test → Type 0
Passes tests = first_refusal tests ≡ None

-- The segment is a sound one before SOT.
pub record IsMainSegment (s : Segment) : Type 0 where
  pub known : is_main_marker s.marker ≡ true
  pub fits : stated_length s.content < 2 ^ 16
  pub least : least_length s.marker ≤ stated_length s.content
  pub content : Passes (content_tests s.marker s.content)

-- The first of these segments, if there is one, is SIZ.
abbrev pub StartsWithSiz : List Segment → Type 0
StartsWithSiz [] = Unit {0}
StartsWithSiz (s ∷ more) = s.marker ≡ SIZ

-- The number of segments with a marker.
abbrev pub count_of : ℕ → List Segment → ℕ
count_of m segments = length (filter (λ s. s.marker == m) segments)

-- These are sound segments after SOC: the first is SIZ, and there is at most one each of SIZ, CAP, COD and QCD.
pub record IsMainPart (main : List Segment) : Type 0 where
  pub starts : StartsWithSiz main
  pub once : (m : ℕ) → stands_once m ≡ true → count_of m main ≤ 1
  pub each : AllByRecursion IsMainSegment main

-- A sound SOT segment follows these segments, among which are CAP, COD and QCD.
pub record IsTileStart (main : List Segment) (tile : Segment) : Type 0 where
  pub is_sot : tile.marker ≡ SOT
  pub ten : stated_length tile.content ≡ 10
  pub has_cap : stands CAP main ≡ true
  pub has_cod : stands COD main ≡ true
  pub has_qcd : stands QCD main ≡ true
  pub content : Passes (tile_tests main tile.content)

-- The segment is one that is skipped after SOT.
pub record IsTileSegment (s : Segment) : Type 0 where
  pub known : is_tile_marker s.marker ≡ true
  pub fits : stated_length s.content < 2 ^ 16

-- The bytes are a main header with these values: SOC, segments of which the first is SIZ, an SOT segment, segments that
-- are passed over, and SOD, all sound and in at most 8,192 bytes.
pub record SpellsHead (h : Head) (b : List ℕ) : Type 0 where
  pub main : List Segment
  pub tile : Segment
  pub skipped : List Segment
  pub whole : b ≡ two_bytes SOC ++ (segments_bytes (main ++ tile ∷ skipped) ++ two_bytes SOD)
  pub short : length b ≤ 8192
  pub is_main : IsMainPart main
  pub is_tile : IsTileStart main tile
  pub is_skipped : AllByRecursion IsTileSegment skipped
  pub values : h ≡ head_values main tile.content (length b)
