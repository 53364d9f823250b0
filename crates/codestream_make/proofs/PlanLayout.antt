-- The plan of a shape is laid out as the header of the shape.
use Rattle.std.proofs.Common.{◌≡◌, ◌≤◌, ◌+◌, ◌/◌, ◌%◌, ◌++◌, ℕ, zero, suc, inl, inr, List, [], ◌∷◌, length, map, replicate, refl, sym, ◌∙◌, ap, subst, arith, append_assoc}
use Rattle.std.specs.List.{All, AllByRecursion, flat_map, range_with_len}
use Rattle.std.proofs.lemmas.Bool.{cases_Bool, ne_eqb}
use Rattle.std.proofs.lemmas.List.{append-nil}
use Rattle.std.proofs.lemmas.List.Elements.{All-from_recursion}
use Rattle.codestream_model.specs.Bytes.{two_bytes}
use Rattle.codestream_model.specs.Segments.{SOC, SIZ, CAP, COD, QCD, COM, SOT, SOD, Segment, segment_bytes, segments_bytes}
use Rattle.codestream_model.specs.MainHeader.{SpellsHead}
use Rattle.codestream_model.proofs.SegmentBytes.{segments-push}
use Rattle.trial_model.specs.Generator.{Shape, shape_segments, shape_header, shape_head, com_content}
use Rattle.trial_model.specs.Generator as trial
use Rattle.trial_model.specs.GeneratorLaws.{IsShape}
use Rattle.trial_model.proofs.ShapeHeads.{shape_headers_are_accepted}
use Rattle.j2k_markers.specs.declared.plan.HeadPlan.{HeadPlan}
use Rattle.j2k_markers.specs.Layout.{step_bytes, precinct_byte, siz_content, cod_content, qcd_content, sot_content, plan_segments, plan_bytes, AreSegments}
use Rattle.codestream_make.specs.Making.{with_psot}
use Rattle.codestream_make.specs.Generating.{IsPlanOf, step_pair}

-- The contents of the segments.
steps_same : (shape : Shape) (from n : ℕ) → flat_map step_bytes (map (step_pair shape) (range_with_len from n)) ≡ flat_map (λ c. trial.step_bytes (trial.shape_step shape c)) (range_with_len from n)
steps_same shape from zero = refl
steps_same shape from (suc n) = ap (λ (l : List ℕ). trial.step_bytes (trial.shape_step shape from) ++ l) (steps_same shape (from + 1) n)

steps_counted : (shape : Shape) (from n : ℕ) → length (map (step_pair shape) (range_with_len from n)) ≡ n
steps_counted shape from zero = refl
steps_counted shape from (suc n) = ap suc (steps_counted shape (from + 1) n)

precincts_same : (n : ℕ) → flat_map precinct_byte (replicate n (8, 8)) ≡ replicate n 0x88
precincts_same zero = refl
precincts_same (suc n) = ap (λ (l : List ℕ). 0x88 ∷ l) (precincts_same n)

siz_same : (shape : Shape) (plan : HeadPlan) → IsShape shape → IsPlanOf shape plan → siz_content plan ≡ trial.siz_content shape
unfolding siz_content
siz_same shape plan is p =
    let high : shape.components / 256 ≡ 0 = omega (arith, is.few_components) in
    let low : shape.components % 256 ≡ shape.components = omega (arith, is.few_components) in
    rw (p.left, p.top, p.width, p.height, p.steps, steps_counted shape 0 shape.components, steps_same shape 0 shape.components, high, low) refl

cod_same : (shape : Shape) (plan : HeadPlan) → IsPlanOf shape plan → cod_content plan ≡ trial.cod_content shape
unfolding cod_content
cod_same shape plan p =
    elim (cases_Bool shape.eph) [
      | inl t ↦ rw (p.precincts, p.eph, p.order, p.levels, p.block_x, p.block_y, p.style, t, precincts_same shape.levels, ne_eqb (suc (length (replicate {A = ℕ × ℕ} shape.levels (8, 8)))) 0 (λ e. omega (arith, e))) refl
      | inr f ↦ rw (p.precincts, p.eph, p.order, p.levels, p.block_x, p.block_y, p.style, f, precincts_same shape.levels, ne_eqb (suc (length (replicate {A = ℕ × ℕ} shape.levels (8, 8)))) 0 (λ e. omega (arith, e))) refl
    ]

qcd_same : (shape : Shape) (plan : HeadPlan) → IsPlanOf shape plan → qcd_content plan.levels ≡ trial.qcd_content shape
unfolding qcd_content
qcd_same shape plan p = rw p.levels refl

sot_same : (psot : ℕ) → sot_content psot ≡ trial.sot_content psot
unfolding sot_content
sot_same psot = refl

-- The segments before COM.
abbrev first_four : Shape → List Segment
first_four shape =
    record { marker = SIZ; content = trial.siz_content shape }
    ∷ record { marker = CAP; content = 0 ∷ 2 ∷ 0 ∷ 0 ∷ 0 ∷ 0 ∷ [] }
    ∷ record { marker = COD; content = trial.cod_content shape }
    ∷ record { marker = QCD; content = trial.qcd_content shape }
    ∷ []

abbrev made_text : Segment
made_text = record { marker = COM; content = com_content }

segments_same : (shape : Shape) (plan : HeadPlan) → IsShape shape → IsPlanOf shape plan → plan_segments plan ≡ first_four shape
segments_same shape plan is p = rw (siz_same shape plan is p, cod_same shape plan p, qcd_same shape plan p) refl

-- The plan with any Psot is laid out as the shape's header with it.
bytes_are : (shape : Shape) (plan : HeadPlan) (psot : ℕ) → IsShape shape → IsPlanOf shape plan
    → two_bytes SOC ++ (segments_bytes (plan_segments plan) ++ (plan.extra.items ++ (segment_bytes (record { marker = SOT; content = sot_content psot }) ++ two_bytes SOD)))
    ≡ shape_header shape psot
bytes_are shape plan psot is p =
    let before = segments_bytes (first_four shape) in
    let tile = segment_bytes (record { marker = SOT; content = trial.sot_content psot }) in
    ap (λ (l : List Segment). two_bytes SOC ++ (segments_bytes l ++ (plan.extra.items ++ (segment_bytes (record { marker = SOT; content = sot_content psot }) ++ two_bytes SOD)))) (segments_same shape plan is p)
    ∙ ap (λ (b : List ℕ). two_bytes SOC ++ (before ++ (b ++ (segment_bytes (record { marker = SOT; content = sot_content psot }) ++ two_bytes SOD)))) p.extra
    ∙ ap (λ (b : List ℕ). two_bytes SOC ++ (before ++ (segment_bytes made_text ++ (segment_bytes (record { marker = SOT; content = b }) ++ two_bytes SOD)))) (sot_same psot)
    ∙ ap (λ (b : List ℕ). two_bytes SOC ++ b) (
    sym (append_assoc before (segment_bytes made_text) (tile ++ two_bytes SOD))
    ∙ ap (λ (b : List ℕ). b ++ (tile ++ two_bytes SOD)) (sym (segments-push (first_four shape) made_text))
    ∙ sym (append_assoc (segments_bytes (shape_segments shape)) tile (two_bytes SOD))
    )

same_segments : (plan : HeadPlan) (psot : ℕ) → plan_segments (with_psot plan psot) ≡ plan_segments plan
unfolding siz_content cod_content
same_segments plan psot = refl

pub with_psot_is_plan : (shape : Shape) (plan : HeadPlan) (psot : ℕ) → IsShape shape → IsPlanOf shape plan → plan_bytes (with_psot plan psot) ≡ shape_header shape psot
with_psot_is_plan shape plan psot is p =
    ap (λ (l : List Segment). two_bytes SOC ++ (segments_bytes l ++ (plan.extra.items ++ (segment_bytes (record { marker = SOT; content = sot_content psot }) ++ two_bytes SOD)))) (same_segments plan psot)
    ∙ bytes_are shape plan psot is p

-- The plan's header is accepted, with the values of the shape's.
pub plan_is_accepted : (shape : Shape) (plan : HeadPlan) → IsShape shape → IsPlanOf shape plan → SpellsHead (shape_head shape 0) (plan_bytes plan)
plan_is_accepted shape plan is p =
    let P : List ℕ → Type 0 = λ b. SpellsHead (shape_head shape 0) b in
    subst P (sym (bytes_are shape plan plan.psot is p ∙ ap (shape_header shape) p.psot)) (shape_headers_are_accepted shape 0 is (omega arith))

-- What the writer asks of a plan holds.
pub extra_is_segments : (shape : Shape) (plan : HeadPlan) → IsPlanOf shape plan → AreSegments plan.extra.items
extra_is_segments shape plan p = (made_text ∷ [], p.extra ∙ sym (append-nil (segment_bytes made_text)), (((λ e. omega (arith, e)), omega arith), tt))

low_sizes : (n : ℕ) → AllByRecursion (λ (e : ℕ × ℕ). (e.0 ≤ 15) × (e.1 ≤ 15)) (replicate n (8, 8))
low_sizes zero = tt
low_sizes (suc n) = ((omega arith, omega arith), low_sizes n)

pub sizes_are_low : (shape : Shape) (plan : HeadPlan) → IsPlanOf shape plan → All (λ (e : ℕ × ℕ). (e.0 ≤ 15) × (e.1 ≤ 15)) plan.precincts.items
sizes_are_low shape plan p =
    let IsLow : ℕ × ℕ → Type 0 = λ e. (e.0 ≤ 15) × (e.1 ≤ 15) in
    let P : List (ℕ × ℕ) → Type 0 = λ l. All IsLow l in
    subst P (sym p.precincts) (All-from_recursion IsLow ((7, 7) ∷ replicate shape.levels (8, 8)) ((omega arith, omega arith), low_sizes shape.levels))
