-- The steps of reading a main header, and what they keep: sound segments in front and the bytes after them.
use Rattle.std.proofs.Common.{◌≡◌, ◌≤◌, ◌+◌, ◌&&◌, ◌||◌, ℕ, suc, Bool, true, false, not, List, [], ◌∷◌, ◌++◌, length, refl, sym, ◌∙◌, ap, inl, inr, arith}
use Rattle.std.specs.Prelude.{◌==◌, Option, Some, None, Result, filter}
use Rattle.std.specs.List.{AllByRecursion}
use Rattle.std.proofs.lemmas.Bool.{cases_Bool, le-ltb, eqb-true, eq-eqb, ne_eqb, and_left, and_right, or_left, or_right, or_cases, not_from_true}
use Rattle.std.proofs.lemmas.List.{length-append}
use Rattle.std.proofs.lemmas.List.Elements.{filter-append}
use Rattle.codestream_model.specs.Values.{Head}
use Rattle.codestream_model.specs.Bytes.{two_at}
use Rattle.codestream_model.specs.Segments.{SIZ, CAP, COD, QCD, SOT, SOD, Segment, stated_length, stands, segment_at, behind_segment}
use Rattle.codestream_model.specs.HeadRefusals.{HeadRefusal}
use Rattle.codestream_model.specs.MainHeader.{stands_once, is_main_marker, is_tile_marker, least_length, StartsWithSiz, count_of, IsMainSegment, IsMainPart}
use Rattle.codestream_model.specs.RefusedHeader.{refusal_next, refusal_behind}
use Rattle.codestream_model.specs.MainHeaderReading.{Refused, refused, whole_head, read_tile, read_main}
use Rattle.codestream_model.proofs.TestLists.{MainFacts}

-- one step before SOT
pub main_stops : (n : ℕ) (b : List ℕ) (before : List Segment) (rest : List ℕ) (why : HeadRefusal) → refusal_next b before rest ≡ Some why → read_main (suc n) b before rest ≡ refused b before why
unfolding read_main
main_stops n b before rest why e = ap (λ (o : Option HeadRefusal). elim o as (λ x. Result Head Refused) [
  | Some w ↦ refused b before w
  | None ↦ elim (two_at rest 0 == SOT) as (λ x. Result Head Refused) [
    | true ↦ read_tile n b before (segment_at rest) [] (behind_segment rest)
    | false ↦ read_main n b (before ++ segment_at rest ∷ []) (behind_segment rest)
  ]
]) e

-- where no condition is met reading goes on
main_goes_on : (n : ℕ) (b : List ℕ) (before : List Segment) (rest : List ℕ) → refusal_next b before rest ≡ None → read_main (suc n) b before rest ≡ elim (two_at rest 0 == SOT) as (λ x. Result Head Refused) [
  | true ↦ read_tile n b before (segment_at rest) [] (behind_segment rest)
  | false ↦ read_main n b (before ++ segment_at rest ∷ []) (behind_segment rest)
]
unfolding read_main
main_goes_on n b before rest e = ap (λ (o : Option HeadRefusal). elim o as (λ x. Result Head Refused) [
  | Some w ↦ refused b before w
  | None ↦ elim (two_at rest 0 == SOT) as (λ x. Result Head Refused) [
    | true ↦ read_tile n b before (segment_at rest) [] (behind_segment rest)
    | false ↦ read_main n b (before ++ segment_at rest ∷ []) (behind_segment rest)
  ]
]) e

-- with the next segment
pub main_step : (n : ℕ) (b : List ℕ) (before : List Segment) (rest : List ℕ) → refusal_next b before rest ≡ None → (two_at rest 0 == SOT) ≡ false → read_main (suc n) b before rest ≡ read_main n b (before ++ segment_at rest ∷ []) (behind_segment rest)
main_step n b before rest e f = main_goes_on n b before rest e ∙ ap (λ (t : Bool). elim t as (λ x. Result Head Refused) [
  | true ↦ read_tile n b before (segment_at rest) [] (behind_segment rest)
  | false ↦ read_main n b (before ++ segment_at rest ∷ []) (behind_segment rest)
]) f

-- or after SOT
pub main_turns : (n : ℕ) (b : List ℕ) (before : List Segment) (rest : List ℕ) → refusal_next b before rest ≡ None → (two_at rest 0 == SOT) ≡ true → read_main (suc n) b before rest ≡ read_tile n b before (segment_at rest) [] (behind_segment rest)
main_turns n b before rest e f = main_goes_on n b before rest e ∙ ap (λ (t : Bool). elim t as (λ x. Result Head Refused) [
  | true ↦ read_tile n b before (segment_at rest) [] (behind_segment rest)
  | false ↦ read_main n b (before ++ segment_at rest ∷ []) (behind_segment rest)
]) f

-- and one after it
pub tile_stops : (n : ℕ) (b : List ℕ) (main : List Segment) (tile : Segment) (skipped : List Segment) (rest : List ℕ) (why : HeadRefusal) → refusal_behind b rest ≡ Some why → read_tile (suc n) b main tile skipped rest ≡ refused b (main ++ tile ∷ skipped) why
unfolding read_tile
tile_stops n b main tile skipped rest why e = ap (λ (o : Option HeadRefusal). elim o as (λ x. Result Head Refused) [
  | Some w ↦ refused b (main ++ tile ∷ skipped) w
  | None ↦ elim (two_at rest 0 == SOD) as (λ x. Result Head Refused) [
    | true ↦ whole_head main tile skipped
    | false ↦ read_tile n b main tile (skipped ++ segment_at rest ∷ []) (behind_segment rest)
  ]
]) e

-- where no condition is met reading goes on
tile_goes_on : (n : ℕ) (b : List ℕ) (main : List Segment) (tile : Segment) (skipped : List Segment) (rest : List ℕ) → refusal_behind b rest ≡ None → read_tile (suc n) b main tile skipped rest ≡ elim (two_at rest 0 == SOD) as (λ x. Result Head Refused) [
  | true ↦ whole_head main tile skipped
  | false ↦ read_tile n b main tile (skipped ++ segment_at rest ∷ []) (behind_segment rest)
]
unfolding read_tile
tile_goes_on n b main tile skipped rest e = ap (λ (o : Option HeadRefusal). elim o as (λ x. Result Head Refused) [
  | Some w ↦ refused b (main ++ tile ∷ skipped) w
  | None ↦ elim (two_at rest 0 == SOD) as (λ x. Result Head Refused) [
    | true ↦ whole_head main tile skipped
    | false ↦ read_tile n b main tile (skipped ++ segment_at rest ∷ []) (behind_segment rest)
  ]
]) e

-- with the next segment
pub tile_step : (n : ℕ) (b : List ℕ) (main : List Segment) (tile : Segment) (skipped : List Segment) (rest : List ℕ) → refusal_behind b rest ≡ None → (two_at rest 0 == SOD) ≡ false → read_tile (suc n) b main tile skipped rest ≡ read_tile n b main tile (skipped ++ segment_at rest ∷ []) (behind_segment rest)
tile_step n b main tile skipped rest e f = tile_goes_on n b main tile skipped rest e ∙ ap (λ (t : Bool). elim t as (λ x. Result Head Refused) [
  | true ↦ whole_head main tile skipped
  | false ↦ read_tile n b main tile (skipped ++ segment_at rest ∷ []) (behind_segment rest)
]) f

-- or ends at SOD
pub tile_ends : (n : ℕ) (b : List ℕ) (main : List Segment) (tile : Segment) (skipped : List Segment) (rest : List ℕ) → refusal_behind b rest ≡ None → (two_at rest 0 == SOD) ≡ true → read_tile (suc n) b main tile skipped rest ≡ whole_head main tile skipped
tile_ends n b main tile skipped rest e f = tile_goes_on n b main tile skipped rest e ∙ ap (λ (t : Bool). elim t as (λ x. Result Head Refused) [
  | true ↦ whole_head main tile skipped
  | false ↦ read_tile n b main tile (skipped ++ segment_at rest ∷ []) (behind_segment rest)
]) f

-- SOT and SOD are no markers of other segments
pub main_not_sot : (m : ℕ) → is_main_marker m ≡ true → (m == SOT) ≡ false
main_not_sot m known = elim (cases_Bool (m == SOT)) [
  | inl same ↦
      let at_sot : is_main_marker SOT ≡ true = ap is_main_marker (sym (eqb-true m SOT same)) ∙ known in
      absurd (cc)
  | inr other ↦ other
]

-- the marker of a segment after SOT is not SOD
pub tile_not_sod : (m : ℕ) → is_tile_marker m ≡ true → (m == SOD) ≡ false
tile_not_sod m known = elim (cases_Bool (m == SOD)) [
  | inl same ↦
      let at_sod : is_tile_marker SOD ≡ true = ap is_tile_marker (sym (eqb-true m SOD same)) ∙ known in
      absurd (cc)
  | inr other ↦ other
]

-- how many segments with a marker there are in two runs, and whether there is one
pub count-append : (m : ℕ) (xs ys : List Segment) → count_of m (xs ++ ys) ≡ count_of m xs + count_of m ys
count-append m xs ys = ap length (filter-append (λ (s : Segment). s.marker == m) xs ys) ∙ length-append (filter (λ (s : Segment). s.marker == m) xs) (filter (λ (s : Segment). s.marker == m) ys)

-- one more, where the first has the marker
pub count_here : (m : ℕ) (s : Segment) (more : List Segment) → (s.marker == m) ≡ true → count_of m (s ∷ more) ≡ suc (count_of m more)
count_here m s more e = rw e refl

-- and none more, where it has not
pub count_not_here : (m : ℕ) (s : Segment) (more : List Segment) → (s.marker == m) ≡ false → count_of m (s ∷ more) ≡ count_of m more
count_not_here m s more e = rw e refl

-- there is one where it is
pub count_if_stands : (m : ℕ) (xs : List Segment) → stands m xs ≡ true → 1 ≤ count_of m xs
count_if_stands m [] e = absurd (cc)
count_if_stands m (s ∷ xs) e = elim (cases_Bool (s.marker == m)) [
  | inl here ↦ rw (count_here m s xs here) (omega arith)
  | inr not_here ↦ rw (count_not_here m s xs not_here) (elim (or_cases (s.marker == m) (stands m xs) e) [
    | inl here ↦ absurd (cc)
    | inr there ↦ count_if_stands m xs there
  ])
]

-- and none where it does not
pub count_if_not : (m : ℕ) (xs : List Segment) → stands m xs ≡ false → count_of m xs ≡ 0
count_if_not m [] e = refl
count_if_not m (s ∷ xs) e = elim (cases_Bool (s.marker == m)) [
  | inl here ↦ let there : stands m (s ∷ xs) ≡ true = or_left (s.marker == m) (stands m xs) here in absurd (cc)
  | inr not_here ↦ rw (count_not_here m s xs not_here) (count_if_not m xs (elim (cases_Bool (stands m xs)) [
    | inl there ↦ let some : stands m (s ∷ xs) ≡ true = or_right (s.marker == m) (stands m xs) there in absurd (cc)
    | inr none ↦ none
  ]))
]

-- what holds of each of two runs
pub each_left : {X : Type 0} (P : X → Type 0) (xs ys : List X) → AllByRecursion P (xs ++ ys) → AllByRecursion P xs
each_left P [] ys all = tt
each_left P (x ∷ xs) ys all = (all.0, each_left P xs ys all.1)

-- and of the second
pub each_right : {X : Type 0} (P : X → Type 0) (xs ys : List X) → AllByRecursion P (xs ++ ys) → AllByRecursion P ys
each_right P [] ys all = all
each_right P (x ∷ xs) ys all = each_right P xs ys all.1

-- and of both
pub each_append : {X : Type 0} (P : X → Type 0) (xs ys : List X) → AllByRecursion P xs → AllByRecursion P ys → AllByRecursion P (xs ++ ys)
each_append P [] ys a b = b
each_append P (x ∷ xs) ys a b = (a.0, each_append P xs ys a.1 b)

-- the first of sound segments is SIZ
siz_is_first : (before : List Segment) (s : Segment) (todo : List Segment) → StartsWithSiz (before ++ s ∷ todo) → (length before == 0 && not (s.marker == SIZ)) ≡ false
siz_is_first [] s todo first = and_right (0 == 0) (not (s.marker == SIZ)) (not_from_true (s.marker == SIZ) (eq-eqb s.marker SIZ first))
siz_is_first (t ∷ before) s todo first = and_left (length (t ∷ before) == 0) (not (s.marker == SIZ)) (ne_eqb (length (t ∷ before)) 0 (λ e. omega arith))

-- and none that is allowed once was there before
once_before : (before : List Segment) (s : Segment) (todo : List Segment) → ((m : ℕ) → stands_once m ≡ true → count_of m (before ++ s ∷ todo) ≤ 1) → (stands_once s.marker && stands s.marker before) ≡ false
once_before before s todo once = elim (cases_Bool (stands_once s.marker)) [
  | inr free ↦ and_left (stands_once s.marker) (stands s.marker before) free
  | inl bound ↦ elim (cases_Bool (stands s.marker before)) [
    | inr none ↦ and_right (stands_once s.marker) (stands s.marker before) none
    | inl some ↦
        let few : count_of s.marker (before ++ s ∷ todo) ≤ 1 = once s.marker bound in
        let both : count_of s.marker (before ++ s ∷ todo) ≡ count_of s.marker before + count_of s.marker (s ∷ todo) = count-append s.marker before (s ∷ todo) in
        let here : count_of s.marker (s ∷ todo) ≡ suc (count_of s.marker todo) = count_here s.marker s todo (eq-eqb s.marker s.marker refl) in
        let there : 1 ≤ count_of s.marker before = count_if_stands s.marker before some in
        absurd (omega arith)
  ]
]

-- a sound segment after sound ones meets no condition
pub main_segment_facts : (before : List Segment) (s : Segment) (todo : List Segment) (there : ℕ) → IsMainPart (before ++ s ∷ todo) → 2 + stated_length s.content ≤ there → MainFacts before s.marker (stated_length s.content) there s.content
main_segment_facts before s todo there part whole =
    let sound : IsMainSegment s = (each_right IsMainSegment before (s ∷ todo) part.each).0 in
    let no_sot : (s.marker == SOT) ≡ false = main_not_sot s.marker sound.known in
    record {
      marker_there = le-ltb there 2 (omega arith);
      siz_first = siz_is_first before s todo part.starts;
      known = not_from_true (is_main_marker s.marker || s.marker == SOT) (or_left (is_main_marker s.marker) (s.marker == SOT) sound.known);
      once = once_before before s todo part.once;
      has_cap = and_left (s.marker == SOT) (not (stands CAP before)) no_sot;
      has_cod = and_left (s.marker == SOT) (not (stands COD before)) no_sot;
      has_qcd = and_left (s.marker == SOT) (not (stands QCD before)) no_sot;
      length_there = le-ltb there 4 (omega arith);
      least = le-ltb (stated_length s.content) (least_length s.marker) sound.least;
      ten = and_left (s.marker == SOT) (not (stated_length s.content == 10)) no_sot;
      whole = le-ltb there (2 + stated_length s.content) whole;
      content = rw no_sot sound.content;
    }
