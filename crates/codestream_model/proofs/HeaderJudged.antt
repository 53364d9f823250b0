-- What is computed of bytes is a main header at their front, or where and why there is none.
use Rattle.std.proofs.Common.{◌≡◌, ◌<◌, ◌≤◌, ◌+◌, ◌*◌, ◌^◌, ◌&&◌, ◌||◌, ◌⊎◌, ℕ, zero, suc, min, Bool, true, false, not, List, [], ◌∷◌, ◌++◌, length, get_or, take, drop, refl, sym, ◌∙◌, ap, inl, inr, subst, arith, append_assoc}
use Rattle.std.specs.Prelude.{◌==◌, nat_lt, Option, Some, None, Result, Ok, Err, MatchResult, if◌then◌else◌}
use Rattle.std.specs.List.{AllByRecursion}
use Rattle.std.proofs.lemmas.Bool.{cases_Bool, lt-ltb, ltb-false, eqb-true, or_cases, and_cases, not-false}
use Rattle.std.proofs.lemmas.List.{length-append, length-take, length-drop, take-append-drop, take_at, get_or-take}
use Rattle.codestream_model.specs.Values.{Head}
use Rattle.codestream_model.specs.Bytes.{two_bytes, two_at}
use Rattle.codestream_model.specs.Segments.{SOC, SIZ, CAP, COD, QCD, SOT, SOD, Segment, stated_length, segment_bytes, segments_bytes, stands, segment_at, behind_segment}
use Rattle.codestream_model.specs.HeadRefusals.{HeadRefusal, Test, first_refusal}
use Rattle.codestream_model.specs.SegmentTests.{tile_tests, head_values}
use Rattle.codestream_model.specs.MainHeader.{stands_once, is_main_marker, is_tile_marker, least_length, content_tests, Passes, StartsWithSiz, count_of, IsMainPart, IsMainSegment, IsTileStart, IsTileSegment, SpellsHead}
use Rattle.codestream_model.specs.RefusedHeader.{RefusesHead, in_reach, wanting, soc_tests, segment_tests, skipped_tests, refusal_next, refusal_behind}
use Rattle.codestream_model.specs.MainHeaderReading.{Refused, refused, whole_head, read_tile, read_main, head_of}
use Rattle.codestream_model.specs.Bytes.{IsBytes}
use Rattle.codestream_model.specs.MainHeaderLaws.{HeadersAreJudged, HeaderIsOne, RefusalIsOne, HeaderIsNotRefused}
use Rattle.codestream_model.proofs.SegmentBytes.{segments-push, bytes-drop, bytes-take, two_front, segment_front, segment_length}
use Rattle.codestream_model.proofs.TestLists.{MainFacts, TileFacts, checks, main_facts, tile_facts}
use Rattle.codestream_model.proofs.HeaderSteps.{main_step, main_turns, main_stops, tile_step, tile_ends, tile_stops, count-append, count_here, count_not_here, count_if_not, each_append}
use Rattle.codestream_model.proofs.HeaderReads.{head_goes_on, head_stops, spelt_length, header_is_read_one_way, refusal_is_read_one_way}

-- what is to be shown of a result
abbrev pub Judged : List ℕ → Result Head Refused → Type 0
Judged b result = MatchResult result
    (λ h. SpellsHead h (take h.length b))
    (λ r. RefusesHead b r.at r.why)

-- the same of a result that is another
judged_at : (b : List ℕ) (x y : Result Head Refused) → x ≡ y → Judged b y → Judged b x
judged_at b x y e j = subst (Judged b) (sym e) j

-- a test and another of which not both pass
other_fails : (x y : Bool) → x ≡ true → (x && y) ≡ false → y ≡ false
other_fails x y e f = elim (and_cases x y f) [ inl first ↦ absurd (cc) | inr second ↦ second ]

-- one of two passes where the other does not
one_passes : (x y : Bool) → not (x || y) ≡ false → y ≡ false → x ≡ true
one_passes x y e f = elim (or_cases x y (not-false (x || y) e)) [ inl first ↦ first | inr second ↦ absurd (cc) ]

-- what does not fail passes
negated_passes : (x y : Bool) → x ≡ true → (x && not y) ≡ false → y ≡ true
negated_passes x y e f = not-false y (other_fails x (not y) e f)

-- each segment states at least two
at_least : (t : Bool) (x y : ℕ) → 2 ≤ x → 2 ≤ y → 2 ≤ (if t then x else y)
at_least true x y a b = a
at_least false x y a b = b

-- the least length of a segment is at least two
least_two : (m : ℕ) → 2 ≤ least_length m
least_two m = at_least (m == SIZ) 41 _ (omega arith) (at_least (m == CAP) 6 _ (omega arith) (at_least (m == COD) 12 _ (omega arith) (at_least (m == QCD) 4 2 (omega arith) (omega arith))))

-- the first segment is SIZ, still
still_starts : (before : List Segment) (s : Segment) → StartsWithSiz before → (length before == 0 && not (s.marker == SIZ)) ≡ false → StartsWithSiz (before ++ s ∷ [])
still_starts [] s first e = eqb-true s.marker SIZ (negated_passes (0 == 0) (s.marker == SIZ) refl e)
still_starts (t ∷ before) s first e = first

-- and none that is allowed once is there twice
still_once : (before : List Segment) (s : Segment) → ((m : ℕ) → stands_once m ≡ true → count_of m before ≤ 1) → (stands_once s.marker && stands s.marker before) ≡ false → (m : ℕ) → stands_once m ≡ true → count_of m (before ++ s ∷ []) ≤ 1
still_once before s once e m bound =
    let both : count_of m (before ++ s ∷ []) ≡ count_of m before + count_of m (s ∷ []) = count-append m before (s ∷ []) in
    elim (cases_Bool (s.marker == m)) [
      | inl here ↦
          let same : s.marker ≡ m = eqb-true s.marker m here in
          let none : stands m before ≡ false = other_fails (stands_once m) (stands m before) bound (ap (λ (k : ℕ). stands_once k && stands k before) (sym same) ∙ e) in
          let zero_before : count_of m before ≡ 0 = count_if_not m before none in
          let one : count_of m (s ∷ []) ≡ 1 = count_here m s [] here in
          omega arith
      | inr not_here ↦
          let none : count_of m (s ∷ []) ≡ 0 = count_not_here m s [] not_here in
          let few : count_of m before ≤ 1 = once m bound in
          omega arith
    ]

-- an order along another
le_along : {a b c : ℕ} → b ≤ c → a ≤ b → a ≤ c
le_along {a} {b} {c} p q = omega arith

-- the conditions where a test fails
not_then : (t : Bool) (x y : List Test) → t ≡ false → Passes (if t then x else y) → Passes y
not_then true x y e p = absurd (cc)
not_then false x y e p = p

-- and where it passes
so_then : (t : Bool) (x y : List Test) → t ≡ true → Passes (if t then x else y) → Passes x
so_then true x y e p = p
so_then false x y e p = absurd (cc)

-- what is known of the next segment before SOT, or of SOT: it is whole
whole_next : (rest : List ℕ) (before : List Segment) → MainFacts before (two_at rest 0) (two_at rest 2) (length rest) (segment_at rest).content → (4 ≤ length rest) × (2 ≤ two_at rest 2) × (2 + two_at rest 2 ≤ length rest)
whole_next rest before f =
    let least : least_length (two_at rest 0) ≤ two_at rest 2 = ltb-false (two_at rest 2) (least_length (two_at rest 0)) f.least in
    let two : 2 ≤ least_length (two_at rest 0) = least_two (two_at rest 0) in
    (ltb-false (length rest) 4 f.length_there, le_along least two, ltb-false (length rest) (2 + two_at rest 2) f.whole)

-- so it is sound
sound_next : (rest : List ℕ) (before : List Segment) → IsBytes rest → (two_at rest 0 == SOT) ≡ false → MainFacts before (two_at rest 0) (two_at rest 2) (length rest) (segment_at rest).content → IsMainSegment (segment_at rest)
sound_next rest before fits no_sot f =
    let w = whole_next rest before f in
    let stated : stated_length (segment_at rest).content ≡ two_at rest 2 = segment_length rest w.1 w.2 in
    record {
      known = one_passes (is_main_marker (two_at rest 0)) (two_at rest 0 == SOT) f.known no_sot;
      fits = let P : ℕ → Type 0 = λ n. n < 2 ^ 16 in subst P (sym stated) (omega (arith, fits 2, fits 3));
      least = let P : ℕ → Type 0 = λ n. least_length (two_at rest 0) ≤ n in subst P (sym stated) (ltb-false (two_at rest 2) (least_length (two_at rest 0)) f.least);
      content = not_then (two_at rest 0 == SOT) (tile_tests before (segment_at rest).content) (content_tests (two_at rest 0) (segment_at rest).content) no_sot f.content;
    }

-- and so are the segments with it
part_next : (rest : List ℕ) (before : List Segment) → IsBytes rest → IsMainPart before → (two_at rest 0 == SOT) ≡ false → MainFacts before (two_at rest 0) (two_at rest 2) (length rest) (segment_at rest).content → IsMainPart (before ++ segment_at rest ∷ [])
part_next rest before fits part no_sot f = record {
  starts = still_starts before (segment_at rest) part.starts f.siz_first;
  once = still_once before (segment_at rest) part.once f.once;
  each = each_append IsMainSegment before (segment_at rest ∷ []) part.each (sound_next rest before fits no_sot f, tt);
}

-- or it is a sound SOT segment
start_next : (rest : List ℕ) (main : List Segment) → (two_at rest 0 == SOT) ≡ true → MainFacts main (two_at rest 0) (two_at rest 2) (length rest) (segment_at rest).content → IsTileStart main (segment_at rest)
start_next rest main sot f =
    let w = whole_next rest main f in
    let stated : stated_length (segment_at rest).content ≡ two_at rest 2 = segment_length rest w.1 w.2 in
    record {
      is_sot = eqb-true (two_at rest 0) SOT sot;
      ten = stated ∙ eqb-true (two_at rest 2) 10 (negated_passes (two_at rest 0 == SOT) (two_at rest 2 == 10) sot f.ten);
      has_cap = negated_passes (two_at rest 0 == SOT) (stands CAP main) sot f.has_cap;
      has_cod = negated_passes (two_at rest 0 == SOT) (stands COD main) sot f.has_cod;
      has_qcd = negated_passes (two_at rest 0 == SOT) (stands QCD main) sot f.has_qcd;
      content = so_then (two_at rest 0 == SOT) (tile_tests main (segment_at rest).content) (content_tests (two_at rest 0) (segment_at rest).content) sot f.content;
    }

-- what is known of a segment that is passed over after SOT
whole_behind : (rest : List ℕ) → (two_at rest 0 == SOD) ≡ false → TileFacts (two_at rest 0) (two_at rest 2) (length rest) → (is_tile_marker (two_at rest 0) ≡ true) × (4 ≤ length rest) × (2 ≤ two_at rest 2) × (2 + two_at rest 2 ≤ length rest)
whole_behind rest no_sod f =
    let known : is_tile_marker (two_at rest 0) ≡ true = one_passes (is_tile_marker (two_at rest 0)) (two_at rest 0 == SOD) f.known no_sod in (
      known,
      ltb-false (length rest) 4 (other_fails (is_tile_marker (two_at rest 0)) (nat_lt (length rest) 4) known f.length_there),
      ltb-false (two_at rest 2) 2 (other_fails (is_tile_marker (two_at rest 0)) (nat_lt (two_at rest 2) 2) known f.least),
      ltb-false (length rest) (2 + two_at rest 2) (other_fails (is_tile_marker (two_at rest 0)) (nat_lt (length rest) (2 + two_at rest 2)) known f.whole),
    )

-- so it is sound
sound_behind : (rest : List ℕ) → IsBytes rest → (two_at rest 0 == SOD) ≡ false → TileFacts (two_at rest 0) (two_at rest 2) (length rest) → IsTileSegment (segment_at rest)
sound_behind rest fits no_sod f =
    let w = whole_behind rest no_sod f in
    let stated : stated_length (segment_at rest).content ≡ two_at rest 2 = segment_length rest w.2 w.3 in
    record { known = w.0; fits = let P : ℕ → Type 0 = λ n. n < 2 ^ 16 in subst P (sym stated) (omega (arith, fits 2, fits 3)) }

-- the bytes with one segment more
bytes_next : (b rest : List ℕ) (before : List Segment) → in_reach b ≡ two_bytes SOC ++ (segments_bytes before ++ rest) → rest ≡ segment_bytes (segment_at rest) ++ behind_segment rest → in_reach b ≡ two_bytes SOC ++ (segments_bytes (before ++ segment_at rest ∷ []) ++ behind_segment rest)
bytes_next b rest before e f =
    let split : segments_bytes before ++ rest ≡ segments_bytes (before ++ segment_at rest ∷ []) ++ behind_segment rest =
    ap (λ (l : List ℕ). segments_bytes before ++ l) f
    ∙ (sym (append_assoc (segments_bytes before) (segment_bytes (segment_at rest)) (behind_segment rest))
    ∙ ap (λ (l : List ℕ). l ++ behind_segment rest) (sym (segments-push before (segment_at rest)))) in
    e ∙ ap (λ (l : List ℕ). two_bytes SOC ++ l) split

-- what is left is shorter
shorter : (rest : List ℕ) (n : ℕ) → length rest ≤ suc n → 4 ≤ length rest → length (behind_segment rest) ≤ n
shorter rest n room some = omega (arith, length-drop (2 + two_at rest 2) rest)

-- a front that ends with SOD is a header
header_ends : (b : List ℕ) (main : List Segment) (tile : Segment) (skipped : List Segment) (rest : List ℕ) → IsBytes rest → in_reach b ≡ two_bytes SOC ++ (segments_bytes (main ++ tile ∷ skipped) ++ rest) → IsMainPart main → IsTileStart main tile → AllByRecursion IsTileSegment skipped → 2 ≤ length rest → (two_at rest 0 == SOD) ≡ true → Judged b (whole_head main tile skipped)
header_ends b main tile skipped rest fits e part start sound some sod =
    let bytes = segments_bytes (main ++ tile ∷ skipped) in
    let front = two_bytes SOC ++ (bytes ++ two_bytes SOD) in
    let rest_is : rest ≡ two_bytes SOD ++ drop 2 rest = two_front rest fits some ∙ ap (λ (m : ℕ). two_bytes m ++ drop 2 rest) (eqb-true (two_at rest 0) SOD sod) in
    let reach : in_reach b ≡ front ++ drop 2 rest = e ∙ (ap (λ (l : List ℕ). two_bytes SOC ++ (bytes ++ l)) rest_is ∙ ap (λ (l : List ℕ). two_bytes SOC ++ l) (sym (append_assoc bytes (two_bytes SOD) (drop 2 rest)))) in
    let whole : b ≡ front ++ (drop 2 rest ++ drop 8192 b) = sym (take-append-drop 8192 b) ∙ (ap (λ (l : List ℕ). l ++ drop 8192 b) reach ∙ append_assoc front (drop 2 rest) (drop 8192 b)) in
    let within : length front + length (drop 2 rest) ≡ min 8192 (length b) = sym (length-append front (drop 2 rest)) ∙ (ap length (sym reach) ∙ length-take 8192 b) in
    let spelt : SpellsHead (head_values main tile.content (2 + length bytes + 2)) front = record {
      main = main;
      tile = tile;
      skipped = skipped;
      whole = refl;
      short = omega arith;
      is_main = part;
      is_tile = start;
      is_skipped = sound;
      values = ap (λ (n : ℕ). head_values main tile.content n) (sym (spelt_length (main ++ tile ∷ skipped)));
    } in
    let front_is : front ≡ take (2 + length bytes + 2) b = sym (ap (λ (l : List ℕ). take (2 + length bytes + 2) l) whole ∙ take_at front (drop 2 rest ++ drop 8192 b) (2 + length bytes + 2) (spelt_length (main ++ tile ∷ skipped))) in
    let P : List ℕ → Type 0 = λ l. SpellsHead (head_values main tile.content (2 + length bytes + 2)) l in
    subst P front_is spelt

-- bytes that end are refused
ends_behind : (b rest : List ℕ) → length rest ≤ 0 → refusal_behind b rest ≡ Some (wanting b)
unfolding skipped_tests
ends_behind b rest none = rw (lt-ltb (length rest) 2 (omega arith)) refl

-- up to SOT
ends_next : (b : List ℕ) (before : List Segment) (rest : List ℕ) → length rest ≤ 0 → refusal_next b before rest ≡ Some (wanting b)
unfolding segment_tests
ends_next b before rest none = rw (lt-ltb (length rest) 2 (omega arith)) refl

-- no more segments are read after SOT
tile_spent : (b : List ℕ) (main : List Segment) (tile : Segment) (skipped : List Segment) (rest : List ℕ) → read_tile 0 b main tile skipped rest ≡ refused b (main ++ tile ∷ skipped) (wanting b)
unfolding read_tile
tile_spent b main tile skipped rest = refl

-- or before it
main_spent : (b : List ℕ) (before : List Segment) (rest : List ℕ) → read_main 0 b before rest ≡ refused b before (wanting b)
unfolding read_main
main_spent b before rest = refl

-- what is refused after SOT is so
tile_refusal : (b : List ℕ) (main : List Segment) (tile : Segment) (skipped : List Segment) (rest : List ℕ) (why : HeadRefusal) → in_reach b ≡ two_bytes SOC ++ (segments_bytes (main ++ tile ∷ skipped) ++ rest) → IsMainPart main → IsTileStart main tile → AllByRecursion IsTileSegment skipped → refusal_behind b rest ≡ Some why → Judged b (refused b (main ++ tile ∷ skipped) why)
tile_refusal b main tile skipped rest why e part start sound first = inr (inr (record { main = main; tile = tile; skipped = skipped; rest = rest; whole = e; is_main = part; is_tile = start; is_skipped = sound; first = first; place = refl }))

-- what is refused up to SOT is so
main_refusal : (b : List ℕ) (before : List Segment) (rest : List ℕ) (why : HeadRefusal) → in_reach b ≡ two_bytes SOC ++ (segments_bytes before ++ rest) → IsMainPart before → refusal_next b before rest ≡ Some why → Judged b (refused b before why)
main_refusal b before rest why e part first = inr (inl (record { before = before; rest = rest; whole = e; is_main = part; first = first; place = refl }))

-- an option is none or some
which : (o : Option HeadRefusal) → (o ≡ None) ⊎ ((why : HeadRefusal) × (o ≡ Some why))
which None = inl refl
which (Some why) = inr (why, refl)

-- what is read after SOT is judged right
judge_tile : (n : ℕ) (b : List ℕ) (main : List Segment) (tile : Segment) (skipped : List Segment) (rest : List ℕ) → IsBytes rest → in_reach b ≡ two_bytes SOC ++ (segments_bytes (main ++ tile ∷ skipped) ++ rest) → IsMainPart main → IsTileStart main tile → AllByRecursion IsTileSegment skipped → length rest ≤ n → Judged b (read_tile n b main tile skipped rest)
judge_tile zero b main tile skipped rest fits e part start sound room =
    judged_at b (read_tile 0 b main tile skipped rest) (refused b (main ++ tile ∷ skipped) (wanting b)) (tile_spent b main tile skipped rest) (tile_refusal b main tile skipped rest (wanting b) e part start sound (ends_behind b rest room))
judge_tile (suc n) b main tile skipped rest fits e part start sound room = elim (which (refusal_behind b rest)) [
  | inr some ↦ judged_at b (read_tile (suc n) b main tile skipped rest) (refused b (main ++ tile ∷ skipped) some.0) (tile_stops n b main tile skipped rest some.0 some.1) (tile_refusal b main tile skipped rest some.0 e part start sound some.1)
  | inl none ↦
      let f = tile_facts b (two_at rest 0) (two_at rest 2) (length rest) none in
      elim (cases_Bool (two_at rest 0 == SOD)) [
        | inl sod ↦ judged_at b (read_tile (suc n) b main tile skipped rest) (whole_head main tile skipped) (tile_ends n b main tile skipped rest none sod) (header_ends b main tile skipped rest fits e part start sound (ltb-false (length rest) 2 f.marker_there) sod)
        | inr no_sod ↦
            let w = whole_behind rest no_sod f in
            let pushed : (main ++ tile ∷ skipped) ++ segment_at rest ∷ [] ≡ main ++ tile ∷ (skipped ++ segment_at rest ∷ []) = append_assoc main (tile ∷ skipped) (segment_at rest ∷ []) in
            let bytes : in_reach b ≡ two_bytes SOC ++ (segments_bytes (main ++ tile ∷ (skipped ++ segment_at rest ∷ [])) ++ behind_segment rest) =
            bytes_next b rest (main ++ tile ∷ skipped) e (segment_front rest fits w.1 w.2 w.3)
            ∙ ap (λ (l : List Segment). two_bytes SOC ++ (segments_bytes l ++ behind_segment rest)) pushed in
            judged_at b (read_tile (suc n) b main tile skipped rest) (read_tile n b main tile (skipped ++ segment_at rest ∷ []) (behind_segment rest)) (tile_step n b main tile skipped rest none no_sod)
            (judge_tile n b main tile (skipped ++ segment_at rest ∷ []) (behind_segment rest) (bytes-drop (2 + two_at rest 2) rest fits) bytes part start (each_append IsTileSegment skipped (segment_at rest ∷ []) sound (sound_behind rest fits no_sod f, tt)) (shorter rest n room w.1))
      ]
]

-- and so is what is read after SOC
judge_main : (n : ℕ) (b : List ℕ) (before : List Segment) (rest : List ℕ) → IsBytes rest → in_reach b ≡ two_bytes SOC ++ (segments_bytes before ++ rest) → IsMainPart before → length rest ≤ n → Judged b (read_main n b before rest)
judge_main zero b before rest fits e part room =
    judged_at b (read_main 0 b before rest) (refused b before (wanting b)) (main_spent b before rest) (main_refusal b before rest (wanting b) e part (ends_next b before rest room))
judge_main (suc n) b before rest fits e part room = elim (which (refusal_next b before rest)) [
  | inr some ↦ judged_at b (read_main (suc n) b before rest) (refused b before some.0) (main_stops n b before rest some.0 some.1) (main_refusal b before rest some.0 e part some.1)
  | inl none ↦
      let f = main_facts b before (two_at rest 0) (two_at rest 2) (length rest) (segment_at rest).content none in
      let w = whole_next rest before f in
      let bytes = bytes_next b rest before e (segment_front rest fits w.0 w.1 w.2) in
      elim (cases_Bool (two_at rest 0 == SOT)) [
        | inl sot ↦ judged_at b (read_main (suc n) b before rest) (read_tile n b before (segment_at rest) [] (behind_segment rest)) (main_turns n b before rest none sot)
            (judge_tile n b before (segment_at rest) [] (behind_segment rest) (bytes-drop (2 + two_at rest 2) rest fits) bytes part (start_next rest before sot f) tt (shorter rest n room w.0))
        | inr no_sot ↦ judged_at b (read_main (suc n) b before rest) (read_main n b (before ++ segment_at rest ∷ []) (behind_segment rest)) (main_step n b before rest none no_sot)
            (judge_main n b (before ++ segment_at rest ∷ []) (behind_segment rest) (bytes-drop (2 + two_at rest 2) rest fits) bytes (part_next rest before fits part no_sot f) (shorter rest n room w.0))
      ]
]

-- where SOC is there
soc_there : (b : List ℕ) → IsBytes b → first_refusal (soc_tests b) ≡ None → in_reach b ≡ two_bytes SOC ++ drop 2 (in_reach b)
soc_there b fits e =
    let c = checks (soc_tests b) e in
    let some : 2 ≤ length b = ltb-false (length b) 2 c.0 in
    let same : two_at (in_reach b) 0 ≡ two_at b 0 = ap (λ (x : ℕ). x * 256 + get_or (in_reach b) 1 0) (get_or-take 8192 b 0 0 (omega arith)) ∙ ap (λ (x : ℕ). get_or b 0 0 * 256 + x) (get_or-take 8192 b 1 0 (omega arith)) in
    let soc : two_at (in_reach b) 0 ≡ SOC = same ∙ eqb-true (two_at b 0) SOC (not-false (two_at b 0 == SOC) c.1.0) in
    two_front (in_reach b) (bytes-take 8192 b fits) (omega (arith, length-take 8192 b)) ∙ ap (λ (m : ℕ). two_bytes m ++ drop 2 (in_reach b)) soc

-- no segments are sound
no_segments : IsMainPart []
no_segments = record { starts = tt; once = λ m bound. omega arith; each = tt }

-- what is computed is right
pub headers_are_judged : HeadersAreJudged
headers_are_judged b fits = elim (which (first_refusal (soc_tests b))) [
  | inr some ↦ judged_at b (head_of b) (refused b [] some.0) (head_stops b some.0 some.1) (inl (record { first = some.1; place = refl }))
  | inl none ↦ judged_at b (head_of b) (read_main (length b) b [] (drop 2 (in_reach b))) (head_goes_on b none)
      (judge_main (length b) b [] (drop 2 (in_reach b)) (bytes-drop 2 (in_reach b) (bytes-take 8192 b fits)) (soc_there b fits none) no_segments (omega (arith, length-drop 2 (in_reach b), length-take 8192 b)))
]

-- two readings of the same bytes are one
same_ok : (x : Result Head Refused) (h g : Head) → x ≡ Ok h → x ≡ Ok g → h ≡ g
same_ok x h g e f = cc

-- two refusals that are read are one
same_err : (x : Result Head Refused) (r s : Refused) → x ≡ Err r → x ≡ Err s → r ≡ s
same_err x r s e f = cc

-- a header that is read is not refused
not_both : (x : Result Head Refused) (h : Head) (r : Refused) → x ≡ Ok h → x ≡ Err r → ⊥
not_both x h r e f = cc

-- the length of a header is that of its bytes
spelt_at : (h : Head) (front : List ℕ) → SpellsHead h front → h.length ≡ length front
spelt_at h front s = ap (λ (x : Head). x.length) s.values

-- bytes begin with one header at most
pub header_is_one : HeaderIsOne
header_is_one h g front other more rest s t e =
    let same : h ≡ g = same_ok (head_of (front ++ more)) h g (header_is_read_one_way h front more s) (ap head_of e ∙ header_is_read_one_way g other rest t) in
    let size : length front ≡ length other = sym (spelt_at h front s) ∙ (ap (λ (x : Head). x.length) same ∙ spelt_at g other t) in
    (same, sym (take_at front more (length front) refl) ∙ (ap (λ (l : List ℕ). take (length front) l) e ∙ take_at other rest (length front) (sym size)))

-- bytes are refused in one way at most
pub refusal_is_one : RefusalIsOne
refusal_is_one b at place why reason r s =
    let same : record { at = at; why = why } ≡ record { at = place; why = reason } = same_err (head_of b) (record { at = at; why = why }) (record { at = place; why = reason }) (refusal_is_read_one_way b at why r) (refusal_is_read_one_way b place reason s) in
    (ap (λ (x : Refused). x.at) same, ap (λ (x : Refused). x.why) same)

-- bytes that begin with a header are not refused
pub header_is_not_refused : HeaderIsNotRefused
header_is_not_refused h front more at why s r = not_both (head_of (front ++ more)) h (record { at = at; why = why }) (header_is_read_one_way h front more s) (refusal_is_read_one_way (front ++ more) at why r)
