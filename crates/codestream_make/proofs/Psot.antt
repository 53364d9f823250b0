-- The main header of a plan with another Psot: it is accepted where the plan's is, with the same values but for Psot.
use Rattle.std.proofs.Common.{◌≡◌, ◌≢◌, ◌≤◌, ◌<◌, ◌+◌, ◌^◌, ◌++◌, ℕ, true, false, List, [], ◌∷◌, length, refl, sym, ◌∙◌, ap, subst, arith, append_assoc, length-append}
use Rattle.std.specs.List.{AllByRecursion}
use Rattle.codestream_model.specs.Values.{Head}
use Rattle.codestream_model.specs.Bytes.{two_bytes, four_at}
use Rattle.codestream_model.specs.Segments.{SOC, SOT, SOD, Segment, stated_length, segment_bytes, segments_bytes, segment_at, behind_segment}
use Rattle.codestream_model.specs.SegmentTests.{tile_tests, head_values}
use Rattle.codestream_model.specs.MainHeader.{is_main_marker, IsMainSegment, IsMainPart, IsTileStart, SpellsHead}
use Rattle.codestream_model.proofs.SegmentBytes.{segment_there, rest_there, length-front, segments-append, segments-push}
use Rattle.j2k_markers.specs.declared.plan.HeadPlan.{HeadPlan}
use Rattle.j2k_markers.specs.Layout.{siz_content, cod_content, sot_content, plan_segments, plan_bytes, AreSegments}
use Rattle.codestream_make.specs.Making.{with_psot}

-- Segments before SOD are read one way.
segments_are_one : (xs ys : List Segment) → segments_bytes xs ++ two_bytes SOD ≡ segments_bytes ys ++ two_bytes SOD → xs ≡ ys
segments_are_one [] [] e = refl
segments_are_one [] (y ∷ ys) e =
    let n = ap (λ (b : List ℕ). length b) (e ∙ append_assoc (segment_bytes y) (segments_bytes ys) (two_bytes SOD)) in
    let m = length-front y (segments_bytes ys ++ two_bytes SOD) in
    let two : length (segments_bytes [] ++ two_bytes SOD) ≡ 2 = refl in
    let stated : stated_length y.content ≡ length y.content + 2 = refl in
    absurd (let k = n ∙ m in omega (arith, k, two, stated))
segments_are_one (x ∷ xs) [] e =
    let n = ap (λ (b : List ℕ). length b) (sym e ∙ append_assoc (segment_bytes x) (segments_bytes xs) (two_bytes SOD)) in
    let m = length-front x (segments_bytes xs ++ two_bytes SOD) in
    let two : length (segments_bytes [] ++ two_bytes SOD) ≡ 2 = refl in
    let stated : stated_length x.content ≡ length x.content + 2 = refl in
    absurd (let k = n ∙ m in omega (arith, k, two, stated))
segments_are_one (x ∷ xs) (y ∷ ys) e =
    let a = append_assoc (segment_bytes x) (segments_bytes xs) (two_bytes SOD) in
    let b = append_assoc (segment_bytes y) (segments_bytes ys) (two_bytes SOD) in
    let both = sym a ∙ e ∙ b in
    let first : x ≡ y = sym (segment_there x (segments_bytes xs ++ two_bytes SOD)) ∙ ap segment_at both ∙ segment_there y (segments_bytes ys ++ two_bytes SOD) in
    let rest = sym (rest_there x (segments_bytes xs ++ two_bytes SOD)) ∙ ap behind_segment both ∙ rest_there y (segments_bytes ys ++ two_bytes SOD) in
    ap (λ (s : Segment). s ∷ xs) first ∙ ap (λ (l : List Segment). y ∷ l) (segments_are_one xs ys rest)

-- A list of segments is divided one way at its only SOT segment.
abbrev NoSot : List Segment → Type 0
NoSot segments = AllByRecursion (λ s. s.marker ≢ SOT) segments

one_sot : (main before : List Segment) (tile sot : Segment) (skipped : List Segment) → NoSot main → NoSot before → tile.marker ≡ SOT → sot.marker ≡ SOT
    → main ++ tile ∷ skipped ≡ before ++ sot ∷ [] → (main ≡ before) × (tile ≡ sot) × (skipped ≡ [])
one_sot [] [] tile sot skipped m b t s e = (refl, (cc), (cc))
one_sot [] (x ∷ before) tile sot skipped m b t s e = let same : tile ≡ x = cc in absurd (b.0 (ap (λ (y : Segment). y.marker) (sym same) ∙ t))
one_sot (x ∷ main) [] tile sot skipped m b t s e = let same : x ≡ sot = cc in absurd (m.0 (ap (λ (y : Segment). y.marker) same ∙ s))
one_sot (x ∷ main) (y ∷ before) tile sot skipped m b t s e =
    let same : x ≡ y = cc in
    let more : main ++ tile ∷ skipped ≡ before ++ sot ∷ [] = cc in
    let rest = one_sot main before tile sot skipped m.1 b.1 t s more in
    (ap (λ (z : Segment). z ∷ main) same ∙ ap (λ (l : List Segment). y ∷ l) rest.0, rest.1, rest.2)

main_has_no_sot : (main : List Segment) → AllByRecursion IsMainSegment main → NoSot main
main_has_no_sot [] each = tt
main_has_no_sot (s ∷ main) each =
    ((λ is. absurd (let e : is_main_marker SOT ≡ true = ap is_main_marker (sym is) ∙ each.0.known in let f : false ≡ true = e in cc)), main_has_no_sot main each.1)

-- The segments of a plan before SOT, and SOT.
abbrev pub plan_main : HeadPlan → List Segment → List Segment
plan_main plan extra = plan_segments plan ++ extra

abbrev pub sot_segment : ℕ → Segment
sot_segment psot = record { marker = SOT; content = sot_content psot }

extra_has_no_sot : (extra : List Segment) → AllByRecursion (λ s. (s.marker ≢ SOT) × (stated_length s.content < 2 ^ 16)) extra → NoSot extra
extra_has_no_sot [] each = tt
extra_has_no_sot (s ∷ extra) each = (each.0.0, extra_has_no_sot extra each.1)

plan_has_no_sot : (plan : HeadPlan) (extra : List Segment) → NoSot extra → NoSot (plan_main plan extra)
plan_has_no_sot plan extra none = ((λ e. omega (arith, e)), ((λ e. omega (arith, e)), ((λ e. omega (arith, e)), ((λ e. omega (arith, e)), none))))

-- The bytes of a plan's header as segments.
plan_is : (plan : HeadPlan) (extra : List Segment) → plan.extra.items ≡ segments_bytes extra
    → plan_bytes plan ≡ two_bytes SOC ++ (segments_bytes (plan_main plan extra ++ sot_segment plan.psot ∷ []) ++ two_bytes SOD)
plan_is plan extra is =
    let before = segments_bytes (plan_segments plan) in
    let tile = segment_bytes (sot_segment plan.psot) in
    ap (λ (b : List ℕ). two_bytes SOC ++ (before ++ (b ++ (tile ++ two_bytes SOD)))) is
    ∙ ap (λ (b : List ℕ). two_bytes SOC ++ b) (
    sym (append_assoc before (segments_bytes extra) (tile ++ two_bytes SOD))
    ∙ ap (λ (b : List ℕ). b ++ (tile ++ two_bytes SOD)) (sym (segments-append (plan_segments plan) extra))
    ∙ sym (append_assoc (segments_bytes (plan_main plan extra)) tile (two_bytes SOD))
    ∙ ap (λ (b : List ℕ). b ++ two_bytes SOD) (one_more (plan_main plan extra) (sot_segment plan.psot))
    )
  where
    one_more : (xs : List Segment) (s : Segment) → segments_bytes xs ++ segment_bytes s ≡ segments_bytes (xs ++ s ∷ [])
    one_more xs s = sym (segments-push xs s)

-- What an accepted header of a plan has.
pub record HasParts (plan : HeadPlan) (h : Head) : Type 0 where
  pub extra : List Segment
  pub is_extra : plan.extra.items ≡ segments_bytes extra
  pub short : length (plan_bytes plan) ≤ 8192
  pub is_main : IsMainPart (plan_main plan extra)
  pub is_tile : IsTileStart (plan_main plan extra) (sot_segment plan.psot)
  pub values : h ≡ head_values (plan_main plan extra) (sot_content plan.psot) (length (plan_bytes plan))

pub has_parts : (plan : HeadPlan) (h : Head) → AreSegments plan.extra.items → SpellsHead h (plan_bytes plan) → HasParts plan h
has_parts plan h (extra, is, each) s =
    let whole = sym (plan_is plan extra is) ∙ s.whole in
    let after : segments_bytes (plan_main plan extra ++ sot_segment plan.psot ∷ []) ++ two_bytes SOD ≡ segments_bytes (s.main ++ s.tile ∷ s.skipped) ++ two_bytes SOD = cc in
    let same = sym (segments_are_one _ _ after) in
    let parts = one_sot s.main (plan_main plan extra) s.tile (sot_segment plan.psot) s.skipped (main_has_no_sot s.main s.is_main.each) (plan_has_no_sot plan extra (extra_has_no_sot extra each)) s.is_tile.is_sot refl same in
    record {
      extra = extra;
      is_extra = is;
      short = s.short;
      is_main = subst IsMainPart parts.0 s.is_main;
      is_tile = (
          let P : List Segment → Type 0 = λ main. IsTileStart main (sot_segment plan.psot) in
          let Q : Segment → Type 0 = λ tile. IsTileStart s.main tile in
          subst P parts.0 (subst Q parts.1 s.is_tile)
          );
      values = s.values ∙ ap (λ (main : List Segment). head_values main s.tile.content (length (plan_bytes plan))) parts.0
          ∙ ap (λ (tile : Segment). head_values (plan_main plan extra) tile.content (length (plan_bytes plan))) parts.1;
    }

-- Psot changes no other segment, and no length.
same_main : (plan : HeadPlan) (extra : List Segment) (psot : ℕ) → plan_main (with_psot plan psot) extra ≡ plan_main plan extra
unfolding siz_content cod_content
same_main plan extra psot = refl

same_tests : (main : List Segment) (psot other : ℕ) → IsTileStart main (sot_segment psot) → IsTileStart main (sot_segment other)
unfolding sot_content tile_tests
same_tests main psot other t = record { is_sot = refl; ten = refl; has_cap = t.has_cap; has_cod = t.has_cod; has_qcd = t.has_qcd; content = t.content }

-- A plan's header up to SOT, and from there on.
abbrev pub front : HeadPlan → List ℕ
front plan = two_bytes SOC ++ (segments_bytes (plan_segments plan) ++ plan.extra.items)

abbrev pub tile_bytes : ℕ → List ℕ
tile_bytes psot = segment_bytes (sot_segment psot) ++ two_bytes SOD

pub plan_split : (plan : HeadPlan) → plan_bytes plan ≡ front plan ++ tile_bytes plan.psot
plan_split plan =
    ap (λ (b : List ℕ). two_bytes SOC ++ b) (sym (append_assoc (segments_bytes (plan_segments plan)) plan.extra.items (tile_bytes plan.psot)))
    ∙ sym (append_assoc (two_bytes SOC) (segments_bytes (plan_segments plan) ++ plan.extra.items) (tile_bytes plan.psot))

pub same_front : (plan : HeadPlan) (psot : ℕ) → front (with_psot plan psot) ≡ front plan
unfolding siz_content cod_content
same_front plan psot = refl

pub length-tile : (psot : ℕ) → length (tile_bytes psot) ≡ 14
unfolding sot_content
length-tile psot = refl

pub length-plan : (plan : HeadPlan) → length (plan_bytes plan) ≡ length (front plan) + 14
length-plan plan = ap (λ (b : List ℕ). length b) (plan_split plan) ∙ length-append (front plan) (tile_bytes plan.psot) ∙ ap (λ (n : ℕ). length (front plan) + n) (length-tile plan.psot)

same_length : (plan : HeadPlan) (psot : ℕ) → length (plan_bytes (with_psot plan psot)) ≡ length (plan_bytes plan)
same_length plan psot = length-plan (with_psot plan psot) ∙ ap (λ (b : List ℕ). length b + 14) (same_front plan psot) ∙ sym (length-plan plan)

-- Psot is read as it is written.
psot_is : (psot : ℕ) → psot < 2 ^ 32 → four_at (sot_content psot) 2 ≡ psot
unfolding sot_content
psot_is psot small = omega (arith, small)

-- The header with another Psot is accepted, with the same values but for Psot.
pub other_psot : (plan : HeadPlan) (h : Head) (psot : ℕ) → psot < 2 ^ 32 → HasParts plan h → SpellsHead (record h { psot = psot }) (plan_bytes (with_psot plan psot))
other_psot plan h psot small p =
    let other = with_psot plan psot in
    let P : List Segment → Type 0 = λ main. IsMainPart main in
    let Q : List Segment → Type 0 = λ main. IsTileStart main (sot_segment psot) in
    let main_is : plan_main plan p.extra ≡ plan_main other p.extra = sym (same_main plan p.extra psot) in
    record {
      main = plan_main other p.extra;
      tile = sot_segment psot;
      skipped = [];
      whole = plan_is other p.extra p.is_extra;
      short = (let n = same_length plan psot in let m = p.short in omega (arith, n, m));
      is_main = subst P main_is p.is_main;
      is_tile = subst Q main_is (same_tests (plan_main plan p.extra) plan.psot psot p.is_tile);
      is_skipped = tt;
      values =
          ap (λ (g : Head). record g { psot = psot }) p.values
          ∙ ap (λ (n : ℕ). record (head_values (plan_main plan p.extra) (sot_content plan.psot) (length (plan_bytes plan))) { psot = n }) (sym (psot_is psot small))
          ∙ ap (λ (n : ℕ). head_values (plan_main plan p.extra) (sot_content psot) n) (sym (same_length plan psot))
          ∙ ap (λ (main : List Segment). head_values main (sot_content psot) (length (plan_bytes other))) main_is;
    }

-- SOT begins where the front ends.
pub sot_is : (plan : HeadPlan) (h : Head) → HasParts plan h → h.sot ≡ length (front plan)
sot_is plan h p =
    ap (λ (g : Head). g.sot) p.values
    ∙ (let a = length-append (segments_bytes (plan_segments plan)) plan.extra.items in
    let b = ap (λ (bs : List ℕ). length bs) (segments-append (plan_segments plan) p.extra ∙ ap (λ (bs : List ℕ). segments_bytes (plan_segments plan) ++ bs) (sym p.is_extra)) in
    omega (arith, a, b))
