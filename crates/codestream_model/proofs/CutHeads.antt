-- A byte is wanted at the end of fewer than 8,192 bytes alone.
use Rattle.std.proofs.Common.{◌≡◌, ◌<◌, ◌≤◌, ℕ, Bool, true, false, List, [], ◌∷◌, length, refl, ap, inl, inr}
use Rattle.std.specs.Prelude.{◌==◌, not, Option, Some, if◌then◌else◌}
use Rattle.std.specs.List.{list_any}
use Rattle.std.proofs.lemmas.Bool.{cases_lt, or_parts, le-ltb}
use Rattle.codestream_model.specs.Bytes.{two_at}
use Rattle.codestream_model.specs.Segments.{SOC, SIZ, CAP, COD, SOT, Segment, segment_at}
use Rattle.codestream_model.specs.HeadRefusals.{HeadRefusal, Cut, TooLong, NoSoc, Test, refuses, first_refusal}
use Rattle.codestream_model.specs.SegmentTests.{siz_tests, cap_tests, cod_tests, tile_tests}
use Rattle.codestream_model.specs.MainHeader.{content_tests}
use Rattle.codestream_model.specs.RefusedHeader.{soc_tests, segment_tests, skipped_tests, refusal_next, refusal_behind}
use Rattle.codestream_model.specs.ItemLaws.{CutHeadsAreShort}

-- Whether a refusal is that the bytes end too early.
abbrev is_cut : HeadRefusal → Bool
is_cut Cut = true
is_cut r = false

-- a condition that is none, and others that are none
no_cut_then : (why : HeadRefusal) (fails : Bool) (more : Option HeadRefusal) → is_cut why ≡ false → (more ≡ Some Cut → ⊥) → (if fails then Some why else more) ≡ Some Cut → ⊥
no_cut_then why true more none others e =
    let same : why ≡ Cut = cc in
    let cut : is_cut why ≡ true = ap is_cut same in
    absurd (cc)
no_cut_then why false more none others e = others e

-- Conditions none of which is that the bytes end too early.
no_cut : (tests : List Test) → list_any (λ t. is_cut t.why) tests ≡ false → first_refusal tests ≡ Some Cut → ⊥
no_cut [] none e = absurd (cc)
no_cut (t ∷ tests) none e =
    let p = or_parts (is_cut t.why) (list_any (λ (u : Test). is_cut u.why) tests) none in
    no_cut_then t.why t.fails (first_refusal tests) p.0 (no_cut tests p.1) e

-- one of two lists of conditions
either_list : (p : Test → Bool) (t : Bool) (xs ys : List Test) → list_any p xs ≡ false → list_any p ys ≡ false → list_any p (if t then xs else ys) ≡ false
either_list p true xs ys e f = e
either_list p false xs ys e f = f

-- none of those on contents is
no_cut_within : (before : List Segment) (m : ℕ) (c : List ℕ) → list_any (λ t. is_cut t.why) (if m == SOT then tile_tests before c else content_tests m c) ≡ false
unfolding siz_tests cap_tests cod_tests tile_tests
no_cut_within before m c =
    let p : Test → Bool = λ t. is_cut t.why in
    either_list p (m == SOT) (tile_tests before c) (content_tests m c) refl
    (either_list p (m == SIZ) (siz_tests c) (if m == CAP then cap_tests c else if m == COD then cod_tests c else []) refl
    (either_list p (m == CAP) (cap_tests c) (if m == COD then cod_tests c else []) refl
    (either_list p (m == COD) (cod_tests c) [] refl refl)))

-- nor is one on a segment of 8,192 bytes or more
no_cut_next : (b : List ℕ) (before : List Segment) (m n there : ℕ) (c : List ℕ) → 8192 ≤ length b → list_any (λ t. is_cut t.why) (segment_tests b before m n there c) ≡ false
unfolding segment_tests
no_cut_next b before m n there c long = rw (le-ltb (length b) 8192 long) (no_cut_within before m c)

-- Nor after SOT.
no_cut_behind : (b : List ℕ) (m n there : ℕ) → 8192 ≤ length b → list_any (λ t. is_cut t.why) (skipped_tests b m n there) ≡ false
unfolding skipped_tests
no_cut_behind b m n there long = rw (le-ltb (length b) 8192 long) refl

-- so a byte is wanted at the end of fewer bytes alone
pub cut_next : (b : List ℕ) (before : List Segment) (rest : List ℕ) → refusal_next b before rest ≡ Some Cut → length b < 8192
cut_next b before rest e = elim (cases_lt (length b) 8192) [
  | inl short ↦ short
  | inr long ↦ absurd (no_cut (segment_tests b before (two_at rest 0) (two_at rest 2) (length rest) (segment_at rest).content) (no_cut_next b before (two_at rest 0) (two_at rest 2) (length rest) (segment_at rest).content long) e)
]

-- After SOT too.
pub cut_behind : (b rest : List ℕ) → refusal_behind b rest ≡ Some Cut → length b < 8192
cut_behind b rest e = elim (cases_lt (length b) 8192) [
  | inl short ↦ short
  | inr long ↦ absurd (no_cut (skipped_tests b (two_at rest 0) (two_at rest 2) (length rest)) (no_cut_behind b (two_at rest 0) (two_at rest 2) (length rest) long) e)
]

-- of the first two bytes
no_cut_of_two : (x y : Bool) → first_refusal (refuses TooLong x ∷ refuses NoSoc y ∷ []) ≡ Some Cut → ⊥
no_cut_of_two true y e = absurd (cc)
no_cut_of_two false true e = absurd (cc)
no_cut_of_two false false e = absurd (cc)

-- so it is with those of SOC
cut_start : (b : List ℕ) → first_refusal (soc_tests b) ≡ Some Cut → length b < 8192
cut_start b e = elim (cases_lt (length b) 8192) [
  | inl short ↦ short
  | inr long ↦ absurd (no_cut_of_two _ (not (two_at b 0 == SOC)) (rw (le-ltb (length b) 8192 long) at e))
]

-- and with the whole main header
pub cut_head_is_short : CutHeadsAreShort
cut_head_is_short b at (inl start) = cut_start b start.first
cut_head_is_short b at (inr (inl main)) = cut_next b main.before main.rest main.first
cut_head_is_short b at (inr (inr tile)) = cut_behind b tile.rest tile.first
