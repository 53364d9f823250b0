-- A header that the writer lays out and that is read is read whole: no byte follows it.
use Rattle.std.proofs.Common.{◌≡◌, ◌≢◌, ◌<◌, ◌^◌, ℕ, List, [], ◌∷◌, ◌++◌, length, take, drop, refl, sym, ◌∙◌, ap, subst, arith, append_assoc}
use Rattle.std.specs.List.{AllByRecursion}
use Rattle.std.proofs.lemmas.Bool.{eqb-false}
use Rattle.std.proofs.lemmas.List.{append-nil, length-append, take-append-drop}
use Rattle.codestream_model.specs.Values.{Head}
use Rattle.codestream_model.specs.Bytes.{two_bytes, two_at}
use Rattle.codestream_model.specs.Segments.{SOC, SOT, SOD, Segment, stated_length, segment_bytes, segments_bytes, behind_segment}
use Rattle.codestream_model.specs.MainHeader.{IsMainSegment, SpellsHead}
use Rattle.codestream_model.proofs.SegmentBytes.{marker_there, rest_there, segments-append}
use Rattle.codestream_model.proofs.HeaderSteps.{main_not_sot, each_append}
use Rattle.j2k_markers.specs.declared.plan.HeadPlan.{HeadPlan}
use Rattle.j2k_markers.specs.Layout.{sot_content, plan_segments, plan_bytes, AreSegments}

-- a segment that is not SOT
abbrev IsNotSot : Segment → Type 0
IsNotSot s = s.marker ≢ SOT

-- bytes that begin with two segments begin with the same marker
same_marker : (s t : Segment) (p q : List ℕ) → segment_bytes s ++ p ≡ segment_bytes t ++ q → s.marker ≡ t.marker
same_marker s t p q e = sym (marker_there s p) ∙ (ap (λ (b : List ℕ). two_at b 0) e ∙ marker_there t q)

-- and the same follows
same_rest : (s t : Segment) (p q : List ℕ) → segment_bytes s ++ p ≡ segment_bytes t ++ q → p ≡ q
same_rest s t p q e = sym (rest_there s p) ∙ (ap behind_segment e ∙ rest_there t q)

-- what follows the first SOT segment is one
behind_sot : (xs ys : List Segment) (t u : Segment) (p q : List ℕ) → AllByRecursion IsNotSot xs → AllByRecursion IsNotSot ys → t.marker ≡ SOT → u.marker ≡ SOT → segments_bytes xs ++ (segment_bytes t ++ p) ≡ segments_bytes ys ++ (segment_bytes u ++ q) → p ≡ q
behind_sot [] [] t u p q a b c d e = same_rest t u p q e
behind_sot (x ∷ xs) [] t u p q a b c d e = absurd (a.0 (same_marker x u (segments_bytes xs ++ (segment_bytes t ++ p)) q (sym (append_assoc (segment_bytes x) (segments_bytes xs) (segment_bytes t ++ p)) ∙ e) ∙ d))
behind_sot [] (y ∷ ys) t u p q a b c d e = absurd (b.0 (sym (same_marker t y p (segments_bytes ys ++ (segment_bytes u ++ q)) (e ∙ append_assoc (segment_bytes y) (segments_bytes ys) (segment_bytes u ++ q))) ∙ c))
behind_sot (x ∷ xs) (y ∷ ys) t u p q a b c d e =
    behind_sot xs ys t u p q a.1 b.1 c d
    (same_rest x y (segments_bytes xs ++ (segment_bytes t ++ p)) (segments_bytes ys ++ (segment_bytes u ++ q))
    (sym (append_assoc (segment_bytes x) (segments_bytes xs) (segment_bytes t ++ p)) ∙ (e ∙ append_assoc (segment_bytes y) (segments_bytes ys) (segment_bytes u ++ q))))

-- sound segments before SOT are not SOT
main_is_not : (xs : List Segment) → AllByRecursion IsMainSegment xs → AllByRecursion IsNotSot xs
main_is_not [] a = tt
main_is_not (x ∷ xs) a = (eqb-false x.marker SOT (main_not_sot x.marker a.0.known), main_is_not xs a.1)

-- nor are those that the writer is given
extra_is_not : (xs : List Segment) → AllByRecursion (λ s. (s.marker ≢ SOT) × (stated_length s.content < 2 ^ 16)) xs → AllByRecursion IsNotSot xs
extra_is_not [] a = tt
extra_is_not (x ∷ xs) a = (a.0.0, extra_is_not xs a.1)

-- a list of no length is empty
no_length : (l : List ℕ) → length l ≡ 0 → l ≡ []
no_length [] e = refl
no_length (x ∷ l) e = absurd (omega arith)

-- two bytes after the first two are one
same_behind : (x y : List ℕ) → two_bytes SOC ++ x ≡ two_bytes SOC ++ y → x ≡ y
same_behind x y e = ap (λ (l : List ℕ). drop 2 l) e

-- bytes with one SOT segment and SOD after it, which begin with a header, are that header
pub whole : (b : List ℕ) (h : Head) (main : List Segment) (tile : Segment) → b ≡ two_bytes SOC ++ (segments_bytes main ++ (segment_bytes tile ++ two_bytes SOD)) → AllByRecursion IsNotSot main → tile.marker ≡ SOT → SpellsHead h (take h.length b) → SpellsHead h b
whole b h main tile e others sot s =
    let n = h.length in
    let more = drop n b in
    let skipped = segments_bytes s.skipped in
    let split : segments_bytes (s.main ++ s.tile ∷ s.skipped) ++ (two_bytes SOD ++ more) ≡ segments_bytes s.main ++ (segment_bytes s.tile ++ (skipped ++ (two_bytes SOD ++ more))) =
    ap (λ (l : List ℕ). l ++ (two_bytes SOD ++ more)) (segments-append s.main (s.tile ∷ s.skipped))
    ∙ (append_assoc (segments_bytes s.main) (segment_bytes s.tile ++ skipped) (two_bytes SOD ++ more)
    ∙ ap (λ (l : List ℕ). segments_bytes s.main ++ l) (append_assoc (segment_bytes s.tile) skipped (two_bytes SOD ++ more))) in
    let read : b ≡ two_bytes SOC ++ (segments_bytes s.main ++ (segment_bytes s.tile ++ (skipped ++ (two_bytes SOD ++ more)))) =
    sym (take-append-drop n b)
    ∙ (ap (λ (l : List ℕ). l ++ more) s.whole
    ∙ (ap (λ (l : List ℕ). two_bytes SOC ++ l) (append_assoc (segments_bytes (s.main ++ s.tile ∷ s.skipped)) (two_bytes SOD) more)
    ∙ ap (λ (l : List ℕ). two_bytes SOC ++ l) split)) in
    let same : two_bytes SOD ≡ skipped ++ (two_bytes SOD ++ more) =
    behind_sot main s.main tile s.tile (two_bytes SOD) (skipped ++ (two_bytes SOD ++ more)) others (main_is_not s.main s.is_main.each) sot s.is_tile.is_sot
    (same_behind (segments_bytes main ++ (segment_bytes tile ++ two_bytes SOD)) (segments_bytes s.main ++ (segment_bytes s.tile ++ (skipped ++ (two_bytes SOD ++ more)))) (sym e ∙ read)) in
    let none : length more ≡ 0 = omega (arith, ap length same, length-append skipped (two_bytes SOD ++ more)) in
    let all : take n b ≡ b = sym (append-nil (take n b)) ∙ (ap (λ (l : List ℕ). take n b ++ l) (sym (no_length more none)) ∙ take-append-drop n b) in
    let P : List ℕ → Type 0 = λ l. SpellsHead h l in
    subst P all s

-- so is what the writer lays out
pub whole_plan : (plan : HeadPlan) (h : Head) → AreSegments plan.extra.items → SpellsHead h (take h.length (plan_bytes plan)) → SpellsHead h (plan_bytes plan)
whole_plan plan h extra s =
    let tile : Segment = record { marker = SOT; content = sot_content plan.psot } in
    let last = segment_bytes tile ++ two_bytes SOD in
    let parts : plan_bytes plan ≡ two_bytes SOC ++ (segments_bytes (plan_segments plan ++ extra.0) ++ last) =
    ap (λ (l : List ℕ). two_bytes SOC ++ (segments_bytes (plan_segments plan) ++ (l ++ last))) extra.1
    ∙ ap (λ (l : List ℕ). two_bytes SOC ++ l) (sym (ap (λ (l : List ℕ). l ++ last) (segments-append (plan_segments plan) extra.0) ∙ append_assoc (segments_bytes (plan_segments plan)) (segments_bytes extra.0) last)) in
    let first : AllByRecursion IsNotSot (plan_segments plan) = (λ e. omega arith, (λ e. omega arith, (λ e. omega arith, (λ e. omega arith, tt)))) in
    whole (plan_bytes plan) h (plan_segments plan ++ extra.0) tile parts (each_append IsNotSot (plan_segments plan) extra.0 first (extra_is_not extra.0 extra.2)) refl s
