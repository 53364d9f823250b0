-- What a header spells is read, and what is refused is refused so.
use Rattle.std.proofs.Common.{◌≡◌, ◌≤◌, ◌+◌, ◌-◌, ◌&&◌, ◌||◌, ℕ, zero, suc, min, true, false, not, List, [], ◌∷◌, ◌++◌, length, get_or, take, drop, refl, sym, ◌∙◌, ap, inl, inr, subst, arith, append_assoc}
use Rattle.std.specs.Prelude.{◌==◌, nat_lt, Option, Some, None, Result, Ok, Err}
use Rattle.std.specs.List.{AllByRecursion}
use Rattle.std.proofs.lemmas.Bool.{le-ltb, eq-eqb, or_left, or_right, and_left, and_right, not_from_true, ne_eqb}
use Rattle.std.proofs.lemmas.List.{append-nil, length-append, length-take, get_or-take}
use Rattle.codestream_model.specs.Values.{Head}
use Rattle.codestream_model.specs.Bytes.{two_bytes, two_at}
use Rattle.codestream_model.specs.Segments.{SOC, SIZ, CAP, COD, QCD, SOT, SOD, Segment, stated_length, segment_bytes, segments_bytes, stands, segment_at, behind_segment}
use Rattle.codestream_model.specs.HeadRefusals.{HeadRefusal, first_refusal}
use Rattle.codestream_model.specs.SegmentTests.{head_values}
use Rattle.codestream_model.specs.MainHeader.{stands_once, is_main_marker, is_tile_marker, least_length, IsMainPart, IsMainSegment, IsTileStart, IsTileSegment}
use Rattle.codestream_model.specs.RefusedHeader.{RefusesStart, RefusesMain, RefusesTile, in_reach, soc_tests, segment_tests, skipped_tests, refusal_next, refusal_behind}
use Rattle.codestream_model.specs.MainHeaderReading.{Refused, refused, whole_head, read_tile, read_main, head_of}
use Rattle.codestream_model.specs.MainHeaderLaws.{HeaderIsReadOneWay, RefusalIsReadOneWay}
use Rattle.codestream_model.proofs.SegmentBytes.{marker_there, length_there, length-front, segment_there, rest_there, segments-append, few_segments}
use Rattle.codestream_model.proofs.TestLists.{MainFacts, TileFacts, main_passes, tile_passes}
use Rattle.codestream_model.proofs.HeaderSteps.{main_step, main_turns, main_stops, tile_step, tile_ends, tile_stops, main_not_sot, tile_not_sod, each_right, main_segment_facts}

-- a sound SOT segment meets no condition
some_main : (main : List Segment) (m : ℕ) → stands CAP main ≡ true → (length main == 0 && not (m == SIZ)) ≡ false
some_main [] m e = absurd (cc)
some_main (t ∷ main) m e = and_left (length (t ∷ main) == 0) (not (m == SIZ)) (ne_eqb (length (t ∷ main)) 0 (λ e. omega arith))

-- what is known of it
tile_start_facts : (main : List Segment) (tile : Segment) (there : ℕ) → IsTileStart main tile → 2 + stated_length tile.content ≤ there → MainFacts main tile.marker (stated_length tile.content) there tile.content
tile_start_facts main tile there start whole =
    let sot : (tile.marker == SOT) ≡ true = eq-eqb tile.marker SOT start.is_sot in
    let ten : stated_length tile.content ≡ 10 = start.ten in
    record {
      marker_there = le-ltb there 2 (omega arith);
      siz_first = some_main main tile.marker start.has_cap;
      known = not_from_true (is_main_marker tile.marker || tile.marker == SOT) (or_right (is_main_marker tile.marker) (tile.marker == SOT) sot);
      once = and_left (stands_once tile.marker) (stands tile.marker main) (ap stands_once start.is_sot);
      has_cap = and_right (tile.marker == SOT) (not (stands CAP main)) (not_from_true (stands CAP main) start.has_cap);
      has_cod = and_right (tile.marker == SOT) (not (stands COD main)) (not_from_true (stands COD main) start.has_cod);
      has_qcd = and_right (tile.marker == SOT) (not (stands QCD main)) (not_from_true (stands QCD main) start.has_qcd);
      length_there = le-ltb there 4 (omega arith);
      least = ap (λ (l : ℕ). nat_lt (stated_length tile.content) l) (ap least_length start.is_sot) ∙ le-ltb (stated_length tile.content) 2 (omega arith);
      ten = and_right (tile.marker == SOT) (not (stated_length tile.content == 10)) (not_from_true (stated_length tile.content == 10) (eq-eqb (stated_length tile.content) 10 ten));
      whole = le-ltb there (2 + stated_length tile.content) whole;
      content = rw sot start.content;
    }

-- nor does a segment that is passed over after it, or SOD
tile_segment_facts : (s : Segment) (there : ℕ) → IsTileSegment s → 2 + stated_length s.content ≤ there → TileFacts s.marker (stated_length s.content) there
tile_segment_facts s there sound whole = record {
  marker_there = le-ltb there 2 (omega arith);
  known = not_from_true (is_tile_marker s.marker || s.marker == SOD) (or_left (is_tile_marker s.marker) (s.marker == SOD) sound.known);
  length_there = and_right (is_tile_marker s.marker) (nat_lt there 4) (le-ltb there 4 (omega arith));
  least = and_right (is_tile_marker s.marker) (nat_lt (stated_length s.content) 2) (le-ltb (stated_length s.content) 2 (omega arith));
  whole = and_right (is_tile_marker s.marker) (nat_lt there (2 + stated_length s.content)) (le-ltb there (2 + stated_length s.content) whole);
}

-- what is known of SOD
end_facts : (n there : ℕ) → 2 ≤ there → TileFacts SOD n there
end_facts n there some = record { marker_there = le-ltb there 2 some; known = refl; length_there = refl; least = refl; whole = refl }

-- the conditions by what is read
next_of : (b : List ℕ) (before : List Segment) (rest : List ℕ) (m n : ℕ) (c : List ℕ) → two_at rest 0 ≡ m → two_at rest 2 ≡ n → (segment_at rest).content ≡ c → refusal_next b before rest ≡ first_refusal (segment_tests b before m n (length rest) c)
next_of b before rest m n c e f g =
    ap (λ (x : ℕ). first_refusal (segment_tests b before x (two_at rest 2) (length rest) (segment_at rest).content)) e
    ∙ (ap (λ (x : ℕ). first_refusal (segment_tests b before m x (length rest) (segment_at rest).content)) f
    ∙ ap (λ (x : List ℕ). first_refusal (segment_tests b before m n (length rest) x)) g)

-- and after SOT
behind_of : (b rest : List ℕ) (m n : ℕ) → two_at rest 0 ≡ m → two_at rest 2 ≡ n → refusal_behind b rest ≡ first_refusal (skipped_tests b m n (length rest))
behind_of b rest m n e f =
    ap (λ (x : ℕ). first_refusal (skipped_tests b x (two_at rest 2) (length rest))) e
    ∙ ap (λ (x : ℕ). first_refusal (skipped_tests b m x (length rest))) f

-- a sound segment in front is passed
next_passes : (b : List ℕ) (before : List Segment) (s : Segment) (rest : List ℕ) → MainFacts before s.marker (stated_length s.content) (length (segment_bytes s ++ rest)) s.content → refusal_next b before (segment_bytes s ++ rest) ≡ None
next_passes b before s rest facts =
    next_of b before (segment_bytes s ++ rest) s.marker (stated_length s.content) s.content (marker_there s rest) (length_there s rest) (ap (λ (t : Segment). t.content) (segment_there s rest))
    ∙ main_passes b before s.marker (stated_length s.content) (length (segment_bytes s ++ rest)) s.content facts

-- a segment is all there
long_enough : (s : Segment) (rest : List ℕ) → 2 + stated_length s.content ≤ length (segment_bytes s ++ rest)
long_enough s rest = omega (arith, length-front s rest)

-- one sound segment in front is passed
step_over : (n : ℕ) (b : List ℕ) (before : List Segment) (s : Segment) (todo : List Segment) (rest : List ℕ) → IsMainPart (before ++ s ∷ todo) → read_main (suc n) b before (segment_bytes s ++ rest) ≡ read_main n b (before ++ s ∷ []) rest
step_over n b before s todo rest part =
    let sound : IsMainSegment s = (each_right IsMainSegment before (s ∷ todo) part.each).0 in
    let none = next_passes b before s rest (main_segment_facts before s todo (length (segment_bytes s ++ rest)) part (long_enough s rest)) in
    let no_sot : (two_at (segment_bytes s ++ rest) 0 == SOT) ≡ false = ap (λ (m : ℕ). m == SOT) (marker_there s rest) ∙ main_not_sot s.marker sound.known in
    main_step n b before (segment_bytes s ++ rest) none no_sot
    ∙ (ap (λ (t : Segment). read_main n b (before ++ t ∷ []) (behind_segment (segment_bytes s ++ rest))) (segment_there s rest)
    ∙ ap (λ (r : List ℕ). read_main n b (before ++ s ∷ []) r) (rest_there s rest))

-- sound segments in front are all passed
step_over_all : (n k : ℕ) (b : List ℕ) (before todo : List Segment) (rest : List ℕ) → IsMainPart (before ++ todo) → n ≡ length todo + k → read_main n b before (segments_bytes todo ++ rest) ≡ read_main k b (before ++ todo) rest
step_over_all n k b before [] rest part e =
    let same : n ≡ k = omega arith in
    ap (λ (f : ℕ). read_main f b before rest) same ∙ ap (λ (p : List Segment). read_main k b p rest) (sym (append-nil before))
step_over_all zero k b before (s ∷ todo) rest part e = absurd (omega arith)
step_over_all (suc n) k b before (s ∷ todo) rest part e =
    let joined : (before ++ s ∷ []) ++ todo ≡ before ++ s ∷ todo = append_assoc before (s ∷ []) todo in
    ap (λ (r : List ℕ). read_main (suc n) b before r) (append_assoc (segment_bytes s) (segments_bytes todo) rest)
    ∙ (step_over n b before s todo (segments_bytes todo ++ rest) part
    ∙ (step_over_all n k b (before ++ s ∷ []) todo rest (let P : List Segment → Type 0 = λ p. IsMainPart p in subst P (sym joined) part) (omega arith)
    ∙ ap (λ (p : List Segment). read_main k b p rest) joined))

-- SOT is taken
take_tile : (n : ℕ) (b : List ℕ) (main : List Segment) (tile : Segment) (rest : List ℕ) → IsTileStart main tile → read_main (suc n) b main (segment_bytes tile ++ rest) ≡ read_tile n b main tile [] rest
take_tile n b main tile rest start =
    let none = next_passes b main tile rest (tile_start_facts main tile (length (segment_bytes tile ++ rest)) start (long_enough tile rest)) in
    let sot : (two_at (segment_bytes tile ++ rest) 0 == SOT) ≡ true = ap (λ (m : ℕ). m == SOT) (marker_there tile rest) ∙ eq-eqb tile.marker SOT start.is_sot in
    main_turns n b main (segment_bytes tile ++ rest) none sot
    ∙ (ap (λ (t : Segment). read_tile n b main t [] (behind_segment (segment_bytes tile ++ rest))) (segment_there tile rest)
    ∙ ap (λ (r : List ℕ). read_tile n b main tile [] r) (rest_there tile rest))

-- segments after it are passed over
skip_one : (n : ℕ) (b : List ℕ) (main : List Segment) (tile : Segment) (skipped : List Segment) (s : Segment) (rest : List ℕ) → IsTileSegment s → read_tile (suc n) b main tile skipped (segment_bytes s ++ rest) ≡ read_tile n b main tile (skipped ++ s ∷ []) rest
skip_one n b main tile skipped s rest sound =
    let none : refusal_behind b (segment_bytes s ++ rest) ≡ None =
    behind_of b (segment_bytes s ++ rest) s.marker (stated_length s.content) (marker_there s rest) (length_there s rest)
    ∙ tile_passes b s.marker (stated_length s.content) (length (segment_bytes s ++ rest)) (tile_segment_facts s (length (segment_bytes s ++ rest)) sound (long_enough s rest)) in
    let no_sod : (two_at (segment_bytes s ++ rest) 0 == SOD) ≡ false = ap (λ (m : ℕ). m == SOD) (marker_there s rest) ∙ tile_not_sod s.marker sound.known in
    tile_step n b main tile skipped (segment_bytes s ++ rest) none no_sod
    ∙ (ap (λ (t : Segment). read_tile n b main tile (skipped ++ t ∷ []) (behind_segment (segment_bytes s ++ rest))) (segment_there s rest)
    ∙ ap (λ (r : List ℕ). read_tile n b main tile (skipped ++ s ∷ []) r) (rest_there s rest))

-- all of them are
skip_all : (n k : ℕ) (b : List ℕ) (main : List Segment) (tile : Segment) (skipped todo : List Segment) (rest : List ℕ) → AllByRecursion IsTileSegment todo → n ≡ length todo + k → read_tile n b main tile skipped (segments_bytes todo ++ rest) ≡ read_tile k b main tile (skipped ++ todo) rest
skip_all n k b main tile skipped [] rest sound e =
    let same : n ≡ k = omega arith in
    ap (λ (f : ℕ). read_tile f b main tile skipped rest) same ∙ ap (λ (p : List Segment). read_tile k b main tile p rest) (sym (append-nil skipped))
skip_all zero k b main tile skipped (s ∷ todo) rest sound e = absurd (omega arith)
skip_all (suc n) k b main tile skipped (s ∷ todo) rest sound e =
    ap (λ (r : List ℕ). read_tile (suc n) b main tile skipped r) (append_assoc (segment_bytes s) (segments_bytes todo) rest)
    ∙ (skip_one n b main tile skipped s (segments_bytes todo ++ rest) sound.0
    ∙ (skip_all n k b main tile (skipped ++ s ∷ []) todo rest sound.1 (omega arith)
    ∙ ap (λ (p : List Segment). read_tile k b main tile p rest) (append_assoc skipped (s ∷ []) todo)))

-- SOD ends the header
end_there : (n : ℕ) (b : List ℕ) (main : List Segment) (tile : Segment) (skipped : List Segment) (rest : List ℕ) → read_tile (suc n) b main tile skipped (two_bytes SOD ++ rest) ≡ whole_head main tile skipped
end_there n b main tile skipped rest =
    let none : refusal_behind b (two_bytes SOD ++ rest) ≡ None = tile_passes b SOD (two_at (two_bytes SOD ++ rest) 2) (length (two_bytes SOD ++ rest)) (end_facts (two_at (two_bytes SOD ++ rest) 2) (length (two_bytes SOD ++ rest)) (omega arith)) in
    tile_ends n b main tile skipped (two_bytes SOD ++ rest) none refl

-- SOC is passed
starts : (b rest : List ℕ) → in_reach b ≡ two_bytes SOC ++ rest → first_refusal (soc_tests b) ≡ None
starts b rest e =
    let reach : min 8192 (length b) ≡ suc (suc (length rest)) = sym (length-take 8192 b) ∙ ap length e in
    let some : nat_lt (length b) 2 ≡ false = le-ltb (length b) 2 (omega arith) in
    let high : get_or b 0 0 ≡ 255 = sym (get_or-take 8192 b 0 0 (omega arith)) ∙ ap (λ (l : List ℕ). get_or l 0 0) e in
    let low : get_or b 1 0 ≡ 79 = sym (get_or-take 8192 b 1 0 (omega arith)) ∙ ap (λ (l : List ℕ). get_or l 1 0) e in
    rw (some, high, low) refl

-- reading goes on after it
pub head_goes_on : (b : List ℕ) → first_refusal (soc_tests b) ≡ None → head_of b ≡ read_main (length b) b [] (drop 2 (in_reach b))
unfolding head_of
head_goes_on b e = ap (λ (o : Option HeadRefusal). elim o as (λ x. Result Head Refused) [
  | Some why ↦ refused b [] why
  | None ↦ read_main (length b) b [] (drop 2 (in_reach b))
]) e

-- or stops
pub head_stops : (b : List ℕ) (why : HeadRefusal) → first_refusal (soc_tests b) ≡ Some why → head_of b ≡ refused b [] why
unfolding head_of
head_stops b why e = ap (λ (o : Option HeadRefusal). elim o as (λ x. Result Head Refused) [
  | Some w ↦ refused b [] w
  | None ↦ read_main (length b) b [] (drop 2 (in_reach b))
]) e

-- what is read after it
behind_soc : (b rest : List ℕ) → in_reach b ≡ two_bytes SOC ++ rest → head_of b ≡ read_main (length b) b [] rest
behind_soc b rest e = head_goes_on b (starts b rest e) ∙ ap (λ (r : List ℕ). read_main (length b) b [] (drop 2 r)) e

-- there is room for as many segments as are within reach
room : (b : List ℕ) (segments : List Segment) (rest : List ℕ) → in_reach b ≡ two_bytes SOC ++ (segments_bytes segments ++ rest) → length segments + 1 ≤ length b
room b segments rest e =
    let reach : min 8192 (length b) ≡ suc (suc (length (segments_bytes segments ++ rest))) = sym (length-take 8192 b) ∙ ap length e in
    omega (arith, length-append (segments_bytes segments) rest, few_segments segments)

-- sound segments up to SOT are read,
reach_main : (b : List ℕ) (before : List Segment) (rest : List ℕ) → in_reach b ≡ two_bytes SOC ++ (segments_bytes before ++ rest) → IsMainPart before → (k : ℕ) × (head_of b ≡ read_main (suc k) b before rest)
reach_main b before rest e part =
    let fits : length before + 1 ≤ length b = room b before rest e in
    let fuel : length b ≡ length before + suc (length b - length before - 1) = omega arith in
    (length b - length before - 1, behind_soc b (segments_bytes before ++ rest) e ∙ step_over_all (length b) (suc (length b - length before - 1)) b [] before rest part fuel)

-- and sound segments up to SOD
tile_bytes : (main : List Segment) (tile : Segment) (skipped : List Segment) (rest : List ℕ) → segments_bytes (main ++ tile ∷ skipped) ++ rest ≡ segments_bytes main ++ (segment_bytes tile ++ (segments_bytes skipped ++ rest))
tile_bytes main tile skipped rest =
    ap (λ (l : List ℕ). l ++ rest) (segments-append main (tile ∷ skipped))
    ∙ (append_assoc (segments_bytes main) (segment_bytes tile ++ segments_bytes skipped) rest
    ∙ ap (λ (l : List ℕ). segments_bytes main ++ l) (append_assoc (segment_bytes tile) (segments_bytes skipped) rest))

-- what is read after a sound SOT segment
reach_tile : (b : List ℕ) (main : List Segment) (tile : Segment) (skipped : List Segment) (rest : List ℕ) → in_reach b ≡ two_bytes SOC ++ (segments_bytes (main ++ tile ∷ skipped) ++ rest) → IsMainPart main → IsTileStart main tile → AllByRecursion IsTileSegment skipped → (k : ℕ) × (head_of b ≡ read_tile (suc k) b main tile skipped rest)
reach_tile b main tile skipped rest e part start passed =
    let count : length (main ++ tile ∷ skipped) ≡ length main + suc (length skipped) = length-append main (tile ∷ skipped) in
    let fits : length (main ++ tile ∷ skipped) + 1 ≤ length b = room b (main ++ tile ∷ skipped) rest e in
    let k = length b - length main - length skipped - 2 in
    let fuel : length b ≡ length main + suc (length skipped + suc k) = omega arith in
    let bytes : in_reach b ≡ two_bytes SOC ++ (segments_bytes main ++ (segment_bytes tile ++ (segments_bytes skipped ++ rest))) = e ∙ ap (λ (l : List ℕ). two_bytes SOC ++ l) (tile_bytes main tile skipped rest) in (
      k,
      behind_soc b (segments_bytes main ++ (segment_bytes tile ++ (segments_bytes skipped ++ rest))) bytes
          ∙ (step_over_all (length b) (suc (length skipped + suc k)) b [] main (segment_bytes tile ++ (segments_bytes skipped ++ rest)) part fuel
          ∙ (take_tile (length skipped + suc k) b main tile (segments_bytes skipped ++ rest) start
          ∙ skip_all (length skipped + suc k) (suc k) b main tile [] skipped rest passed refl)),
    )

-- a refusal is the one that is computed
start_refused : (b : List ℕ) (at : ℕ) (why : HeadRefusal) → RefusesStart b at why → head_of b ≡ Err (record { at = at; why = why })
start_refused b at why r = head_stops b why r.first ∙ ap (λ (n : ℕ). Err (record { at = n; why = why })) (sym r.place)

-- a refusal up to SOT
main_refused : (b : List ℕ) (at : ℕ) (why : HeadRefusal) → RefusesMain b at why → head_of b ≡ Err (record { at = at; why = why })
main_refused b at why r =
    let there = reach_main b r.before r.rest r.whole r.is_main in
    there.1 ∙ (main_stops there.0 b r.before r.rest why r.first ∙ ap (λ (n : ℕ). Err (record { at = n; why = why })) (sym r.place))

-- and one after it
tile_refused : (b : List ℕ) (at : ℕ) (why : HeadRefusal) → RefusesTile b at why → head_of b ≡ Err (record { at = at; why = why })
tile_refused b at why r =
    let there = reach_tile b r.main r.tile r.skipped r.rest r.whole r.is_main r.is_tile r.is_skipped in
    there.1 ∙ (tile_stops there.0 b r.main r.tile r.skipped r.rest why r.first ∙ ap (λ (n : ℕ). Err (record { at = n; why = why })) (sym r.place))

-- each refusal is the one that is computed
pub refusal_is_read_one_way : RefusalIsReadOneWay
refusal_is_read_one_way b at why (inl r) = start_refused b at why r
refusal_is_read_one_way b at why (inr (inl r)) = main_refused b at why r
refusal_is_read_one_way b at why (inr (inr r)) = tile_refused b at why r

-- a header in front is read
pub take_past : (n : ℕ) (xs ys : List ℕ) → length xs ≤ n → take n (xs ++ ys) ≡ xs ++ take (n - length xs) ys
take_past n [] ys e = let same : n - 0 ≡ n = omega arith in ap (λ (k : ℕ). take k ys) (sym same)
take_past zero (x ∷ xs) ys e = absurd (omega arith)
take_past (suc n) (x ∷ xs) ys e =
    let same : n - length xs ≡ suc n - suc (length xs) = omega arith in
    ap (λ (l : List ℕ). x ∷ l) (take_past n xs ys (omega arith) ∙ ap (λ (k : ℕ). xs ++ take k ys) same)

-- the length of a header by its segments
pub spelt_length : (segments : List Segment) → length (two_bytes SOC ++ (segments_bytes segments ++ two_bytes SOD)) ≡ 2 + length (segments_bytes segments) + 2
spelt_length segments = omega (arith, length-append (segments_bytes segments) (two_bytes SOD))

-- a header in front is the one that is computed
pub header_is_read_one_way : HeaderIsReadOneWay
header_is_read_one_way h front more s =
    let tail = take (8192 - length front) more in
    let segments = s.main ++ s.tile ∷ s.skipped in
    let apart : front ++ tail ≡ two_bytes SOC ++ (segments_bytes segments ++ (two_bytes SOD ++ tail)) = ap (λ (l : List ℕ). l ++ tail) s.whole ∙ ap (λ (l : List ℕ). two_bytes SOC ++ l) (append_assoc (segments_bytes segments) (two_bytes SOD) tail) in
    let reach : in_reach (front ++ more) ≡ two_bytes SOC ++ (segments_bytes segments ++ (two_bytes SOD ++ tail)) = take_past 8192 front more s.short ∙ apart in
    let there = reach_tile (front ++ more) s.main s.tile s.skipped (two_bytes SOD ++ tail) reach s.is_main s.is_tile s.is_skipped in
    let size : 2 + length (segments_bytes segments) + 2 ≡ length front = sym (ap length s.whole ∙ spelt_length segments) in
    there.1 ∙ (end_there there.0 (front ++ more) s.main s.tile s.skipped tail
    ∙ (ap (λ (n : ℕ). Ok (head_values s.main s.tile.content n)) size
    ∙ ap (λ (x : Head). Ok x) (sym s.values)))
