-- A stripped main header is a main header.
use Rattle.std.proofs.Common.{◌≡◌, ◌<◌, ◌≤◌, ◌+◌, ◌==◌, ◌||◌, ℕ, zero, suc, Bool, true, false, List, [], ◌∷◌, ◌++◌, length, take, drop, refl, sym, ◌∙◌, ap, inl, inr, arith, append_assoc}
use Rattle.std.specs.List.{AllByRecursion, flat_map}
use Rattle.std.proofs.lemmas.Bool.{cases_Bool, eqb-true, eq-eqb}
use Rattle.std.proofs.lemmas.List.{length-append}
use Rattle.std.proofs.lemmas.List.Concat.{flat_map-append}
use Rattle.codestream_model.specs.Values.{Head}
use Rattle.codestream_model.specs.Bytes.{two_bytes, two_at}
use Rattle.codestream_model.specs.Segments.{SOC, SIZ, CAP, COD, QCD, SOT, SOD, Segment, segment_bytes, segments_bytes, stands, content_of, segment_at, behind_segment}
use Rattle.codestream_model.specs.HeadRefusals.{first_refusal}
use Rattle.codestream_model.specs.SegmentTests.{head_values, tile_tests, isot, sot_psot, tpsot, tnsot}
use Rattle.codestream_model.specs.MainHeader.{is_main_marker, is_tile_marker, count_of, StartsWithSiz, IsMainSegment, IsMainPart, IsTileStart, IsTileSegment, SpellsHead}
use Rattle.codestream_model.proofs.SegmentBytes.{marker_there, segment_there, rest_there, few_segments, segments-append, length-segment}
use Rattle.codestream_model.proofs.HeaderSteps.{main_not_sot, tile_not_sod, count_here, count_not_here, each_append}
use Rattle.rebuild_model.specs.Stripping.{tells_lengths, without_psot, kept_segment, segments_of, stripped}
use Rattle.rebuild_model.specs.StrippingLaws.{StrippedIsHead, stripped_values}

-- a marker that passes a test isn't one that doesn't
not_this : (test : ℕ → Bool) (m k : ℕ) → test m ≡ true → test k ≡ false → (m == k) ≡ false
not_this test m k passes fails = elim (cases_Bool (m == k)) [
  | inl same ↦
      let there : test k ≡ true = ap test (sym (eqb-true m k same)) ∙ passes in
      absurd (cc)
  | inr other ↦ other
]

-- the segments of which none is SOD
abbrev NoneEnds : List Segment → Type 0
NoneEnds segments = AllByRecursion (λ s. (s.marker == SOD) ≡ false) segments

-- one segment that isn't SOD is read
segment_read : (n : ℕ) (b : List ℕ) → (two_at b 0 == SOD) ≡ false → segments_of (suc n) b ≡ segment_at b ∷ segments_of n (behind_segment b)
unfolding segments_of
segment_read n b e = rw e refl

-- SOD ends them
end_read : (n : ℕ) → segments_of (suc n) (two_bytes SOD) ≡ []
unfolding segments_of
end_read n = refl

-- all segments up to SOD are read
segments_read : (n : ℕ) (segments : List Segment) → NoneEnds segments → length segments < n → segments_of n (segments_bytes segments ++ two_bytes SOD) ≡ segments
segments_read zero segments none few = absurd (omega arith)
segments_read (suc n) [] none few = end_read n
segments_read (suc n) (s ∷ segments) none few =
    let rest = segments_bytes segments ++ two_bytes SOD in
    let apart : segments_bytes (s ∷ segments) ++ two_bytes SOD ≡ segment_bytes s ++ rest = append_assoc (segment_bytes s) (segments_bytes segments) (two_bytes SOD) in
    let other : (two_at (segment_bytes s ++ rest) 0 == SOD) ≡ false = ap (λ (m : ℕ). m == SOD) (marker_there s rest) ∙ none.0 in
    ap (segments_of (suc n)) apart
    ∙ (segment_read n (segment_bytes s ++ rest) other
    ∙ (ap (λ (t : Segment). t ∷ segments_of n (behind_segment (segment_bytes s ++ rest))) (segment_there s rest)
    ∙ (ap (λ (r : List ℕ). s ∷ segments_of n r) (rest_there s rest)
    ∙ ap (λ (l : List Segment). s ∷ l) (segments_read n segments none.1 (omega arith)))))

-- what is kept of segments
abbrev kept : List Segment → List Segment
kept segments = flat_map kept_segment segments

-- segments before SOT: none is SOT, and each is sound
abbrev NoneStarts : List Segment → Type 0
NoneStarts segments = AllByRecursion (λ s. (s.marker == SOT) ≡ false) segments

-- a segment that tells lengths isn't kept
kept_without : (s : Segment) (more : List Segment) → tells_lengths s.marker ≡ true → kept (s ∷ more) ≡ kept more
kept_without s more e = rw e refl

-- any other but SOT is
kept_with : (s : Segment) (more : List Segment) → tells_lengths s.marker ≡ false → (s.marker == SOT) ≡ false → kept (s ∷ more) ≡ s ∷ kept more
kept_with s more e f = rw (e, f) refl

-- what holds of each segment holds of each that is kept
each_kept : (P : Segment → Type 0) (segments : List Segment) → NoneStarts segments → AllByRecursion P segments → AllByRecursion P (kept segments)
each_kept P [] none all = tt
each_kept P (s ∷ more) none all = elim (cases_Bool (tells_lengths s.marker)) [
  | inl tells ↦ rw (kept_without s more tells) (each_kept P more none.1 all.1)
  | inr other ↦ rw (kept_with s more other none.0) (all.0, each_kept P more none.1 all.1)
]

-- there are no more with a marker than there were
kept_count : (m : ℕ) (segments : List Segment) → NoneStarts segments → count_of m (kept segments) ≤ count_of m segments
kept_count m [] none = omega arith
kept_count m (s ∷ more) none = elim (cases_Bool (tells_lengths s.marker)) [
  | inl tells ↦ rw (kept_without s more tells) (elim (cases_Bool (s.marker == m)) [
    | inl here ↦ rw (count_here m s more here) (omega (arith, kept_count m more none.1))
    | inr away ↦ rw (count_not_here m s more away) (kept_count m more none.1)
  ])
  | inr other ↦ rw (kept_with s more other none.0) (elim (cases_Bool (s.marker == m)) [
    | inl here ↦ rw (count_here m s more here, count_here m s (kept more) here) (omega (arith, kept_count m more none.1))
    | inr away ↦ rw (count_not_here m s more away, count_not_here m s (kept more) away) (kept_count m more none.1)
  ])
]

-- a segment that tells lengths has no marker of one that doesn't
tells_other : (m k : ℕ) → tells_lengths m ≡ true → tells_lengths k ≡ false → (m == k) ≡ false
tells_other m k tells other = not_this tells_lengths m k tells other

-- the first segment with a marker is as it was
content_kept : (m : ℕ) (segments : List Segment) → tells_lengths m ≡ false → NoneStarts segments → content_of m (kept segments) ≡ content_of m segments
content_kept m [] other none = refl
content_kept m (s ∷ more) other none = elim (cases_Bool (tells_lengths s.marker)) [
  | inl tells ↦ rw (kept_without s more tells, tells_other s.marker m tells other) (content_kept m more other none.1)
  | inr keeps ↦ rw (kept_with s more keeps none.0) (elim (cases_Bool (s.marker == m)) [
    | inl here ↦ rw here refl
    | inr away ↦ rw away (content_kept m more other none.1)
  ])
]

-- and so is whether there is one
stands_kept : (m : ℕ) (segments : List Segment) → tells_lengths m ≡ false → NoneStarts segments → stands m (kept segments) ≡ stands m segments
stands_kept m [] other none = refl
stands_kept m (s ∷ more) other none = elim (cases_Bool (tells_lengths s.marker)) [
  | inl tells ↦ rw (kept_without s more tells, tells_other s.marker m tells other) (stands_kept m more other none.1)
  | inr keeps ↦ rw (kept_with s more keeps none.0) (ap (λ (b : Bool). (s.marker == m) || b) (stands_kept m more other none.1))
]

-- the first is SIZ still
siz_kept : (segments : List Segment) → NoneStarts segments → StartsWithSiz segments → StartsWithSiz (kept segments)
siz_kept [] none first = tt
siz_kept (s ∷ more) none first =
    let siz : s.marker ≡ SIZ = first in
    let keeps : tells_lengths s.marker ≡ false = ap tells_lengths siz in
    rw (kept_with s more keeps none.0) siz

-- kept segments aren't longer
kept_short : (segments : List Segment) → NoneStarts segments → length (segments_bytes (kept segments)) ≤ length (segments_bytes segments)
kept_short [] none = omega arith
kept_short (s ∷ more) none = elim (cases_Bool (tells_lengths s.marker)) [
  | inl tells ↦ rw (kept_without s more tells) (omega (arith, kept_short more none.1, length-append (segment_bytes s) (segments_bytes more)))
  | inr keeps ↦ rw (kept_with s more keeps none.0) (omega (arith, kept_short more none.1, length-append (segment_bytes s) (segments_bytes more), length-append (segment_bytes s) (segments_bytes (kept more))))
]

-- no sound segment before SOT is SOT or SOD
main_starts : (segments : List Segment) → AllByRecursion IsMainSegment segments → NoneStarts segments
main_starts [] each = tt
main_starts (s ∷ more) each = (main_not_sot s.marker each.0.known, main_starts more each.1)

main_ends : (segments : List Segment) → AllByRecursion IsMainSegment segments → NoneEnds segments
main_ends [] each = tt
main_ends (s ∷ more) each = (not_this is_main_marker s.marker SOD each.0.known refl, main_ends more each.1)

-- nor one after it
tile_starts : (segments : List Segment) → AllByRecursion IsTileSegment segments → NoneStarts segments
tile_starts [] each = tt
tile_starts (s ∷ more) each = (not_this is_tile_marker s.marker SOT each.0.known refl, tile_starts more each.1)

tile_ends : (segments : List Segment) → AllByRecursion IsTileSegment segments → NoneEnds segments
tile_ends [] each = tt
tile_ends (s ∷ more) each = (tile_not_sod s.marker each.0.known, tile_ends more each.1)

-- sound segments before SOT are sound when those that tell lengths are left out
main_kept : (main : List Segment) → IsMainPart main → IsMainPart (kept main)
main_kept main part =
    let none = main_starts main part.each in
    record {
      starts = siz_kept main none part.starts;
      once = λ m bound. omega (arith, kept_count m main none, part.once m bound);
      each = each_kept IsMainSegment main none part.each;
    }

-- the content of SOT with Psot 0
abbrev cleared : List ℕ → List ℕ
cleared c = take 2 c ++ (0 ∷ 0 ∷ 0 ∷ 0 ∷ drop 6 c)

-- has the other values of SOT as they were
record IsCleared (c : List ℕ) : Type 0 where
  tile : isot (cleared c) ≡ isot c
  part : tpsot (cleared c) ≡ tpsot c
  parts : tnsot (cleared c) ≡ tnsot c
  none : sot_psot (cleared c) ≡ 0
  size : length (cleared c) ≡ 8

is_cleared : (c : List ℕ) → length c ≡ 8 → IsCleared c
is_cleared [] e = absurd (omega arith)
is_cleared (c1 ∷ []) e = absurd (omega arith)
is_cleared (c1 ∷ c2 ∷ []) e = absurd (omega arith)
is_cleared (c1 ∷ c2 ∷ c3 ∷ []) e = absurd (omega arith)
is_cleared (c1 ∷ c2 ∷ c3 ∷ c4 ∷ []) e = absurd (omega arith)
is_cleared (c1 ∷ c2 ∷ c3 ∷ c4 ∷ c5 ∷ []) e = absurd (omega arith)
is_cleared (c1 ∷ c2 ∷ c3 ∷ c4 ∷ c5 ∷ c6 ∷ []) e = absurd (omega arith)
is_cleared (c1 ∷ c2 ∷ c3 ∷ c4 ∷ c5 ∷ c6 ∷ c7 ∷ []) e = absurd (omega arith)
is_cleared (c1 ∷ c2 ∷ c3 ∷ c4 ∷ c5 ∷ c6 ∷ c7 ∷ c8 ∷ []) e = record { tile = refl; part = refl; parts = refl; none = refl; size = refl }
is_cleared (c1 ∷ c2 ∷ c3 ∷ c4 ∷ c5 ∷ c6 ∷ c7 ∷ c8 ∷ c9 ∷ more) e = absurd (omega arith)

-- the tests of SOT go by these values and by SIZ, COD and QCD
tests_same : (main other : List Segment) (c d : List ℕ) → content_of SIZ main ≡ content_of SIZ other → content_of COD main ≡ content_of COD other → content_of QCD main ≡ content_of QCD other
    → isot c ≡ isot d → tpsot c ≡ tpsot d → tnsot c ≡ tnsot d → tile_tests main c ≡ tile_tests other d
unfolding tile_tests
tests_same main other c d siz cod qcd tile part parts = rw (siz, cod, qcd, tile, part, parts) refl

-- SOT with Psot 0 is sound after the segments that are kept
tile_kept : (main : List Segment) (tile : Segment) → IsMainPart main → IsTileStart main tile → IsTileStart (kept main) (without_psot tile)
tile_kept main tile part start =
    let none = main_starts main part.each in
    let c = is_cleared tile.content (omega (arith, start.ten)) in
    record {
      is_sot = start.is_sot;
      ten = omega (arith, c.size);
      has_cap = stands_kept CAP main refl none ∙ start.has_cap;
      has_cod = stands_kept COD main refl none ∙ start.has_cod;
      has_qcd = stands_kept QCD main refl none ∙ start.has_qcd;
      content =
          ap first_refusal (tests_same (kept main) main (cleared tile.content) tile.content
          (content_kept SIZ main refl none) (content_kept COD main refl none) (content_kept QCD main refl none) c.tile c.part c.parts)
          ∙ start.content;
    }

-- the values of a header go by SIZ and COD, and by where SOT and the end are
values_same : (main other : List Segment) (c d : List ℕ) (n : ℕ) → content_of SIZ main ≡ content_of SIZ other → content_of COD main ≡ content_of COD other → sot_psot c ≡ 0
    → record (head_values other d n) { psot = 0; sot = 2 + length (segments_bytes main) } ≡ head_values main c n
values_same main other c d n siz cod psot = rw (siz, cod, psot) refl

-- what is kept of a whole header
header_kept : (main skipped : List Segment) (tile : Segment) → tile.marker ≡ SOT → kept (main ++ tile ∷ skipped) ≡ kept main ++ without_psot tile ∷ kept skipped
header_kept main skipped tile sot =
    let keeps : tells_lengths tile.marker ≡ false = ap tells_lengths sot in
    let is_sot : (tile.marker == SOT) ≡ true = eq-eqb tile.marker SOT sot in
    flat_map-append kept_segment main (tile ∷ skipped) ∙ rw (keeps, is_sot) refl

-- no segment of a header is SOD
header_ends : (main skipped : List Segment) (tile : Segment) → AllByRecursion IsMainSegment main → tile.marker ≡ SOT → AllByRecursion IsTileSegment skipped → NoneEnds (main ++ tile ∷ skipped)
header_ends main skipped tile each sot others =
    each_append (λ s. (s.marker == SOD) ≡ false) main (tile ∷ skipped) (main_ends main each) (ap (λ (m : ℕ). m == SOD) sot, tile_ends skipped others)

-- a stripped header has the segments that are kept
stripped_whole : (h : Head) (header : List ℕ) (s : SpellsHead h header) → stripped header ≡ two_bytes SOC ++ (segments_bytes (kept s.main ++ without_psot s.tile ∷ kept s.skipped) ++ two_bytes SOD)
stripped_whole h header s =
    let segments = s.main ++ s.tile ∷ s.skipped in
    let rest : drop 2 header ≡ segments_bytes segments ++ two_bytes SOD = ap (drop 2) s.whole in
    let few : length segments < length header = omega (arith, ap length s.whole, few_segments segments, length-append (segments_bytes segments) (two_bytes SOD)) in
    let read : segments_of (length header) (drop 2 header) ≡ segments =
    ap (segments_of (length header)) rest ∙ segments_read (length header) segments (header_ends s.main s.skipped s.tile s.is_main.each s.is_tile.is_sot s.is_skipped) few in
    ap (λ (l : List Segment). two_bytes SOC ++ (segments_bytes (kept l) ++ two_bytes SOD)) read
    ∙ ap (λ (l : List Segment). two_bytes SOC ++ (segments_bytes l ++ two_bytes SOD)) (header_kept s.main s.skipped s.tile s.is_tile.is_sot)

-- it is no longer than it was
stripped_short : (h : Head) (header : List ℕ) → SpellsHead h header → length (stripped header) ≤ length header
stripped_short h header s =
    let all = s.main ++ s.tile ∷ s.skipped in
    let left = kept s.main ++ without_psot s.tile ∷ kept s.skipped in
    let was : length header ≡ 2 + (length (segments_bytes all) + 2) = ap length s.whole ∙ omega (arith, length-append (segments_bytes all) (two_bytes SOD)) in
    let is : length (stripped header) ≡ 2 + (length (segments_bytes left) + 2) = ap length (stripped_whole h header s) ∙ omega (arith, length-append (segments_bytes left) (two_bytes SOD)) in
    let front = kept_short s.main (main_starts s.main s.is_main.each) in
    let back = kept_short s.skipped (tile_starts s.skipped s.is_skipped) in
    let c = is_cleared s.tile.content (omega (arith, s.is_tile.ten)) in
    let a : length (segments_bytes all) ≡ length (segments_bytes s.main) + (length (segment_bytes s.tile) + length (segments_bytes s.skipped)) =
    ap length (segments-append s.main (s.tile ∷ s.skipped)) ∙ omega (arith, length-append (segments_bytes s.main) (segments_bytes (s.tile ∷ s.skipped)), length-append (segment_bytes s.tile) (segments_bytes s.skipped)) in
    let b : length (segments_bytes left) ≡ length (segments_bytes (kept s.main)) + (length (segment_bytes (without_psot s.tile)) + length (segments_bytes (kept s.skipped))) =
    ap length (segments-append (kept s.main) (without_psot s.tile ∷ kept s.skipped))
    ∙ omega (arith, length-append (segments_bytes (kept s.main)) (segments_bytes (without_psot s.tile ∷ kept s.skipped)), length-append (segment_bytes (without_psot s.tile)) (segments_bytes (kept s.skipped))) in
    omega (arith, was, is, front, back, a, b, c.size, s.is_tile.ten, length-segment s.tile, length-segment (without_psot s.tile))

-- a stripped header is a header
pub stripped_is_head : StrippedIsHead
stripped_is_head h header s =
    let none = main_starts s.main s.is_main.each in
    let c = is_cleared s.tile.content (omega (arith, s.is_tile.ten)) in
    let short = stripped_short h header s in
    let sot = 2 + length (segments_bytes (kept s.main)) in (
      sot,
      record {
        main = kept s.main;
        tile = without_psot s.tile;
        skipped = kept s.skipped;
        whole = stripped_whole h header s;
        short = omega (arith, short, s.short);
        is_main = main_kept s.main s.is_main;
        is_tile = tile_kept s.main s.tile s.is_main s.is_tile;
        is_skipped = each_kept IsTileSegment s.skipped (tile_starts s.skipped s.is_skipped) s.is_skipped;
        values =
            ap (λ (g : Head). stripped_values g sot header) s.values
            ∙ values_same (kept s.main) s.main (cleared s.tile.content) s.tile.content (length (stripped header)) (content_kept SIZ s.main refl none) (content_kept COD s.main refl none) c.none;
      },
      short,
    )
