-- What the walk keeps of the segments before a place, and the conditions as they are judged from it.
use Rattle.std.specs.Prelude.{◌≡◌, ◌<◌, ◌≤◌, ◌+◌, ◌++◌, ◌==◌, ◌&&◌, ◌||◌, ℕ, not, true, List, [], ◌∷◌, length, nat_lt, if◌then◌else◌}
use Rattle.codestream_model.specs.Bytes.{two_at}
use Rattle.codestream_model.specs.Segments.{CAP, SIZ, COD, QCD, SOT, SOD, Segment, segments_bytes, stands, content_of, offset_of, segment_at}
use Rattle.codestream_model.specs.HeadRefusals.{Test, refuses, NoSiz, Marker, Twice, Missing, Length}
use Rattle.codestream_model.specs.MainHeader.{stands_once, is_main_marker, is_tile_marker, least_length, content_tests}
use Rattle.codestream_model.specs.RefusedHeader.{wanting}
use Rattle.codestream_model.specs.SegmentTests.{tile_tests}
use Rattle.j2k_markers.specs.declared.head.HeadWhy.{HeadWhy}
use Rattle.j2k_markers.specs.declared.head.HeadWhy.TheVariants as why
use Rattle.j2k_markers.specs.declared.segments.Before.{Before}
use Rattle.j2k_markers.specs.declared.segments.Segment.{Segment as Piece}
use Rattle.j2k_markers.specs.declared.segments.Turn.{Turn}
use Rattle.j2k_markers.specs.declared.segments.Turn.TheVariants as turn
use Rattle.j2k_markers.specs.Sound.{IsSoundSiz, IsSoundCod}

-- the content of a segment that is allowed once
abbrev pub content_kept : Before → ℕ → List ℕ
content_kept w m = if m == SIZ then w.siz.now else if m == CAP then w.cap.now else if m == COD then w.cod.now else if m == QCD then w.qcd.now else []

-- the place of QCD, or of the next segment where it was not there
abbrev pub place_of_qcd : Before → ℕ
place_of_qcd w = if nat_lt 0 (length w.qcd.now) then w.qcd_at else w.at

-- the place of a refusal
abbrev pub place_kept : List ℕ → Before → HeadWhy → ℕ
place_kept b w why.Cut = length b
place_kept b w why.TooLong = 8192
place_kept b w why.NoSoc = 0
place_kept b w why.Quant = place_of_qcd w
place_kept b w r = w.at

-- the conditions on a marker
abbrev pub marker_tests : Before → ℕ → List Test
marker_tests w m =
    refuses NoSiz (length w.siz.now == 0 && not (m == SIZ))
    ∷ refuses (Marker m) (not (is_main_marker m || m == SOT))
    ∷ refuses (Twice m) (stands_once m && nat_lt 0 (length (content_kept w m)))
    ∷ refuses (Missing CAP) (m == SOT && not (nat_lt 0 (length w.cap.now)))
    ∷ refuses (Missing COD) (m == SOT && not (nat_lt 0 (length w.cod.now)))
    ∷ refuses (Missing QCD) (m == SOT && not (nat_lt 0 (length w.qcd.now)))
    ∷ []

-- and on a length
abbrev pub length_tests : ℕ → ℕ → List Test
length_tests m n = refuses Length (nat_lt n (least_length m)) ∷ refuses Length (m == SOT && not (n == 10)) ∷ []

-- Segments of SIZ, COD and QCD with these contents.
abbrev pub segments_with : List ℕ → List ℕ → List ℕ → List Segment
segments_with siz cod qcd = record { marker = SIZ; content = siz } ∷ record { marker = COD; content = cod } ∷ record { marker = QCD; content = qcd } ∷ []

-- The conditions on a content of SOT that follows segments with these contents of SIZ, COD and QCD.
abbrev pub sot_tests : List ℕ → List ℕ → List ℕ → List ℕ → List Test
sot_tests siz cod qcd c = tile_tests (segments_with siz cod qcd) c

-- the conditions on a content
abbrev pub kept_content_tests : Before → ℕ → List ℕ → List Test
kept_content_tests w m c = if m == SOT then sot_tests w.siz.now w.cod.now w.qcd.now c else content_tests m c

-- the conditions on a segment, all in order
abbrev pub kept_tests : List ℕ → Before → List ℕ → List Test
kept_tests b w rest =
    refuses (wanting b) (nat_lt (length rest) 2)
    ∷ (marker_tests w (two_at rest 0)
    ++ (refuses (wanting b) (nat_lt (length rest) 4)
    ∷ (length_tests (two_at rest 0) (two_at rest 2)
    ++ (refuses (wanting b) (nat_lt (length rest) (2 + two_at rest 2)) ∷ kept_content_tests w (two_at rest 0) (segment_at rest).content))))

-- SIZ and COD are sound where they are there
pub record IsSoundBefore (w : Before) : Type 0 where
  pub siz : 0 < length w.siz.now → IsSoundSiz w.siz.now
  pub cod : 0 < length w.cod.now → IsSoundCod w.cod.now

-- the walk keeps this of these segments
pub record IsKept (w : Before) (before : List Segment) : Type 0 where
  pub place : w.at ≡ 2 + length (segments_bytes before)
  pub siz : w.siz.now ≡ content_of SIZ before
  pub cap : w.cap.now ≡ content_of CAP before
  pub cod : w.cod.now ≡ content_of COD before
  pub qcd : w.qcd.now ≡ content_of QCD before
  pub stood : (m : ℕ) → stands_once m ≡ true → stands m before ≡ nat_lt 0 (length (content_of m before))
  pub none : (length before == 0) ≡ (length w.siz.now == 0)
  pub quant : place_of_qcd w ≡ offset_of QCD before

-- the segment is the one at the front of the bytes, and is all there
pub record IsFront (s : Piece) (rest : List ℕ) : Type 0 where
  pub marker : s.marker ≡ two_at rest 0
  pub content : s.content.now ≡ (segment_at rest).content
  pub stated : 2 + length s.content.now ≡ two_at rest 2
  pub whole : 4 + length s.content.now ≤ length rest

-- what follows SOT: SOD, or a whole segment that is passed over
abbrev pub IsTurn : Turn → List ℕ → Type 0
IsTurn turn.End rest = two_at rest 0 ≡ SOD
IsTurn (turn.Passed s) rest = IsFront s rest × (is_tile_marker s.marker ≡ true)
