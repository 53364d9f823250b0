-- Where and why bytes do not begin with a main header: the first condition that is met, after sound segments.
use Rattle.std.specs.Prelude.{◌≡◌, ◌+◌, ◌⊎◌, ◌==◌, ◌&&◌, ◌||◌, ℕ, not, List, [], ◌∷◌, ◌++◌, length, take, Option, Some, nat_lt, if◌then◌else◌}
use Rattle.std.specs.List.{AllByRecursion}
use Rattle.codestream_model.specs.Bytes.{two_bytes, two_at}
use Rattle.codestream_model.specs.Segments.{SOC, CAP, SIZ, COD, QCD, SOT, SOD, Segment, segments_bytes, stands, offset_of, segment_at}
use Rattle.codestream_model.specs.HeadRefusals.{HeadRefusal, Cut, NoSoc, NoSiz, Marker, Length, Twice, Missing, Quant, TooLong, Test, refuses, first_refusal}
use Rattle.codestream_model.specs.SegmentTests.{tile_tests}
use Rattle.codestream_model.specs.MainHeader.{stands_once, is_main_marker, is_tile_marker, least_length, content_tests, IsMainPart, IsTileStart, IsTileSegment}

-- The first 8,192 bytes, past which no byte of a header is.
abbrev pub in_reach : List ℕ → List ℕ
in_reach b = take 8192 b

-- Why a header is refused where a byte past these is needed.
abbrev pub wanting : List ℕ → HeadRefusal
wanting b = if nat_lt (length b) 8192 then Cut else TooLong

-- The offset of a refusal: for missing bytes the end of the bytes, or 8,192; for SOC 0; for the quantisation that of
-- QCD; and for each other one that of its segment, after SOC and the segments before it.
abbrev pub place_of : List ℕ → List Segment → HeadRefusal → ℕ
place_of b before Cut = length b
place_of b before TooLong = 8192
place_of b before NoSoc = 0
place_of b before Quant = offset_of QCD before
place_of b before why = 2 + length (segments_bytes before)

-- The conditions on the first two bytes.
abbrev pub soc_tests : List ℕ → List Test
soc_tests b =
    refuses (wanting b) (nat_lt (length b) 2)
    ∷ refuses NoSoc (not (two_at b 0 == SOC))
    ∷ []

-- The conditions on a segment after SOC and sound segments, up to SOT, in the order in which they are judged. It has
-- marker m and states the length n, and there are `left` bytes from its start on.
unfoldable pub segment_tests : List ℕ → List Segment → ℕ → ℕ → ℕ → List ℕ → List Test
segment_tests b before m n there content =
    refuses (wanting b) (nat_lt there 2)
    ∷ refuses NoSiz (length before == 0 && not (m == SIZ))
    ∷ refuses (Marker m) (not (is_main_marker m || m == SOT))
    ∷ refuses (Twice m) (stands_once m && stands m before)
    ∷ refuses (Missing CAP) (m == SOT && not (stands CAP before))
    ∷ refuses (Missing COD) (m == SOT && not (stands COD before))
    ∷ refuses (Missing QCD) (m == SOT && not (stands QCD before))
    ∷ refuses (wanting b) (nat_lt there 4)
    ∷ refuses Length (nat_lt n (least_length m))
    ∷ refuses Length (m == SOT && not (n == 10))
    ∷ refuses (wanting b) (nat_lt there (2 + n))
    ∷ (if m == SOT then tile_tests before content else content_tests m content)

-- The conditions on what follows SOT and skipped segments, which is one more such segment or SOD.
unfoldable pub skipped_tests : List ℕ → ℕ → ℕ → ℕ → List Test
skipped_tests b m n there =
    refuses (wanting b) (nat_lt there 2)
    ∷ refuses (Marker m) (not (is_tile_marker m || m == SOD))
    ∷ refuses (wanting b) (is_tile_marker m && nat_lt there 4)
    ∷ refuses Length (is_tile_marker m && nat_lt n 2)
    ∷ refuses (wanting b) (is_tile_marker m && nat_lt there (2 + n))
    ∷ []

-- The first condition that is met at the start of these bytes, up to SOT.
abbrev pub refusal_next : List ℕ → List Segment → List ℕ → Option HeadRefusal
refusal_next b before rest = first_refusal (segment_tests b before (two_at rest 0) (two_at rest 2) (length rest) (segment_at rest).content)

-- The first condition that is met at the start of these bytes, after SOT.
abbrev pub refusal_behind : List ℕ → List ℕ → Option HeadRefusal
refusal_behind b rest = first_refusal (skipped_tests b (two_at rest 0) (two_at rest 2) (length rest))

-- The first two bytes are refused.
pub record RefusesStart (b : List ℕ) (at : ℕ) (why : HeadRefusal) : Type 0 where
  pub first : first_refusal (soc_tests b) ≡ Some why
  pub place : at ≡ place_of b [] why

-- After SOC and sound segments the next one is refused, be it SOT or before it.
pub record RefusesMain (b : List ℕ) (at : ℕ) (why : HeadRefusal) : Type 0 where
  pub before : List Segment
  pub rest : List ℕ
  pub whole : in_reach b ≡ two_bytes SOC ++ (segments_bytes before ++ rest)
  pub is_main : IsMainPart before
  pub first : refusal_next b before rest ≡ Some why
  pub place : at ≡ place_of b before why

-- After a sound SOT segment, and skipped segments, what follows is refused.
pub record RefusesTile (b : List ℕ) (at : ℕ) (why : HeadRefusal) : Type 0 where
  pub main : List Segment
  pub tile : Segment
  pub skipped : List Segment
  pub rest : List ℕ
  pub whole : in_reach b ≡ two_bytes SOC ++ (segments_bytes (main ++ tile ∷ skipped) ++ rest)
  pub is_main : IsMainPart main
  pub is_tile : IsTileStart main tile
  pub is_skipped : AllByRecursion IsTileSegment skipped
  pub first : refusal_behind b rest ≡ Some why
  pub place : at ≡ place_of b (main ++ tile ∷ skipped) why

-- The bytes do not begin with a main header: this is the first refusal, and its offset.
abbrev pub RefusesHead : List ℕ → ℕ → HeadRefusal → Type 0
RefusesHead b at why = RefusesStart b at why ⊎ (RefusesMain b at why ⊎ RefusesTile b at why)
