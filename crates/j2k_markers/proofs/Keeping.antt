-- What the walk keeps tells the conditions of the model, and one segment more is kept too.
use Rattle.std.proofs.Common.{◌≡◌, ◌+◌, ◌&&◌, ◌||◌, ℕ, Bool, true, false, not, List, ◌∷◌, ◌++◌, length, refl, sym, ◌∙◌, ap, inl, inr}
use Rattle.std.specs.Prelude.{◌==◌, nat_lt, if◌then◌else◌}
use Rattle.std.proofs.lemmas.Bool.{cases_Bool, eqb-true}
use Rattle.codestream_model.specs.Bytes.{two_at}
use Rattle.codestream_model.specs.Segments.{CAP, SIZ, COD, QCD, SOT, Segment, stands, content_of, segment_at}
use Rattle.codestream_model.specs.HeadRefusals.{Test, refuses, NoSiz, Marker, Twice, Missing, first_refusal}
use Rattle.codestream_model.specs.SegmentTests.{tile_tests}
use Rattle.codestream_model.specs.MainHeader.{stands_once, is_main_marker, content_tests}
use Rattle.codestream_model.specs.RefusedHeader.{wanting, segment_tests, refusal_next}
use Rattle.j2k_markers.specs.declared.segments.Before.{Before}
use Rattle.j2k_markers.specs.Before.{content_kept, length_tests, sot_tests, kept_content_tests, kept_tests, IsKept}
use Rattle.j2k_markers.proofs.Lists.{tile_parts}

-- the conditions on a segment, by what they depend on
abbrev tests_by : List ℕ → Bool → Bool → Bool → Bool → Bool → ℕ → ℕ → ℕ → List Test → List Test
tests_by b none twice cap cod qcd m n there last =
    refuses (wanting b) (nat_lt there 2)
    ∷ refuses NoSiz (none && not (m == SIZ))
    ∷ refuses (Marker m) (not (is_main_marker m || m == SOT))
    ∷ refuses (Twice m) twice
    ∷ refuses (Missing CAP) (m == SOT && not cap)
    ∷ refuses (Missing COD) (m == SOT && not cod)
    ∷ refuses (Missing QCD) (m == SOT && not qcd)
    ∷ refuses (wanting b) (nat_lt there 4)
    ∷ (length_tests m n ++ (refuses (wanting b) (nat_lt there (2 + n)) ∷ last))

-- they are the same where these are
same_tests : (b : List ℕ) (none none2 twice twice2 cap cap2 cod cod2 qcd qcd2 : Bool) (m n there : ℕ) (last last2 : List Test) → none ≡ none2 → twice ≡ twice2 → cap ≡ cap2 → cod ≡ cod2 → qcd ≡ qcd2 → last ≡ last2 → tests_by b none twice cap cod qcd m n there last ≡ tests_by b none2 twice2 cap2 cod2 qcd2 m n there last2
same_tests b none none2 twice twice2 cap cap2 cod cod2 qcd qcd2 m n there last last2 e f g h i j = rw (e, f, g, h, i, j) refl

-- the conditions as the walk judges them
kept_by : (b : List ℕ) (w : Before) (rest : List ℕ) → kept_tests b w rest ≡ tests_by b (length w.siz.now == 0) (stands_once (two_at rest 0) && nat_lt 0 (length (content_kept w (two_at rest 0)))) (nat_lt 0 (length w.cap.now)) (nat_lt 0 (length w.cod.now)) (nat_lt 0 (length w.qcd.now)) (two_at rest 0) (two_at rest 2) (length rest) (kept_content_tests w (two_at rest 0) (segment_at rest).content)
kept_by b w rest = refl

-- and as the model has them
model_by : (b : List ℕ) (before : List Segment) (m n there : ℕ) (c : List ℕ) → segment_tests b before m n there c ≡ tests_by b (length before == 0) (stands_once m && stands m before) (stands CAP before) (stands COD before) (stands QCD before) m n there (if m == SOT then tile_tests before c else content_tests m c)
unfolding segment_tests
model_by b before m n there c = refl

-- the content that is kept of a segment that is allowed once
content_is_kept : (w : Before) (before : List Segment) (m : ℕ) → IsKept w before → stands_once m ≡ true → content_kept w m ≡ content_of m before
content_is_kept w before m k once = elim (cases_Bool (m == SIZ)) [
  | inl siz ↦ rw siz (k.siz ∙ ap (λ (n : ℕ). content_of n before) (sym (eqb-true m SIZ siz)))
  | inr no_siz ↦ elim (cases_Bool (m == CAP)) [
    | inl cap ↦ rw (no_siz, cap) (k.cap ∙ ap (λ (n : ℕ). content_of n before) (sym (eqb-true m CAP cap)))
    | inr no_cap ↦ elim (cases_Bool (m == COD)) [
      | inl cod ↦ rw (no_siz, no_cap, cod) (k.cod ∙ ap (λ (n : ℕ). content_of n before) (sym (eqb-true m COD cod)))
      | inr no_cod ↦ elim (cases_Bool (m == QCD)) [
        | inl qcd ↦ rw (no_siz, no_cap, no_cod, qcd) (k.qcd ∙ ap (λ (n : ℕ). content_of n before) (sym (eqb-true m QCD qcd)))
        | inr no_qcd ↦ let other : stands_once m ≡ false = rw (no_siz, no_cap, no_cod, no_qcd) refl in absurd (cc)
      ]
    ]
  ]
]

-- whether one is there twice
twice_is_kept : (w : Before) (before : List Segment) (m : ℕ) → IsKept w before → (stands_once m && nat_lt 0 (length (content_kept w m))) ≡ (stands_once m && stands m before)
twice_is_kept w before m k = elim (cases_Bool (stands_once m)) [
  | inr free ↦ rw free refl
  | inl once ↦ ap (λ (t : Bool). stands_once m && t) (ap (λ (c : List ℕ). nat_lt 0 (length c)) (content_is_kept w before m k once) ∙ sym (k.stood m once))
]

-- the conditions on a content
contents_are_kept : (w : Before) (before : List Segment) (m : ℕ) (c : List ℕ) → IsKept w before → kept_content_tests w m c ≡ (if m == SOT then tile_tests before c else content_tests m c)
contents_are_kept w before m c k =
    let tile : sot_tests w.siz.now w.cod.now w.qcd.now c ≡ tile_tests before c =
    ap (λ (x : List ℕ). sot_tests x w.cod.now w.qcd.now c) k.siz
    ∙ (ap (λ (x : List ℕ). sot_tests (content_of SIZ before) x w.qcd.now c) k.cod
    ∙ (ap (λ (x : List ℕ). sot_tests (content_of SIZ before) (content_of COD before) x c) k.qcd ∙ sym (tile_parts before c))) in
    ap (λ (tests : List Test). if m == SOT then tests else content_tests m c) tile

-- whether one that is allowed once is there
stands_is_kept : (before : List Segment) (m : ℕ) (c : List ℕ) → c ≡ content_of m before → stands m before ≡ nat_lt 0 (length (content_of m before)) → nat_lt 0 (length c) ≡ stands m before
stands_is_kept before m c e f = ap (λ (x : List ℕ). nat_lt 0 (length x)) e ∙ sym f

-- the walk judges as the model does
pub next_is_kept : (b : List ℕ) (w : Before) (before : List Segment) (rest : List ℕ) → IsKept w before → first_refusal (kept_tests b w rest) ≡ refusal_next b before rest
next_is_kept b w before rest k =
    let m = two_at rest 0 in
    let c = (segment_at rest).content in
    let same = same_tests b (length w.siz.now == 0) (length before == 0)
    (stands_once m && nat_lt 0 (length (content_kept w m))) (stands_once m && stands m before)
    (nat_lt 0 (length w.cap.now)) (stands CAP before)
    (nat_lt 0 (length w.cod.now)) (stands COD before)
    (nat_lt 0 (length w.qcd.now)) (stands QCD before)
    m (two_at rest 2) (length rest)
    (kept_content_tests w m c) (if m == SOT then tile_tests before c else content_tests m c)
    (sym k.none) (twice_is_kept w before m k)
    (stands_is_kept before CAP w.cap.now k.cap (k.stood CAP refl))
    (stands_is_kept before COD w.cod.now k.cod (k.stood COD refl))
    (stands_is_kept before QCD w.qcd.now k.qcd (k.stood QCD refl))
    (contents_are_kept w before m c k) in
    ap first_refusal (kept_by b w rest ∙ (same ∙ sym (model_by b before m (two_at rest 2) (length rest) c)))
