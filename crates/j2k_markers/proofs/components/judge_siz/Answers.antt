use Rattle.std.proofs.Common.{◌≡◌, ◌++◌, Ok, ap, sym, ◌∙◌, List, ℕ, take, drop}
use Rattle.std.specs.Prelude.{Result}
use Rattle.std.proofs.lemmas.Result.{err_from_is_err_and}
use Rattle.codestream_model.specs.HeadRefusals.{Test, first_refusal}
use Rattle.codestream_model.specs.SegmentTests.{siz_tests}
use Rattle.j2k_markers.specs.Refusals.{judged}
use Rattle.j2k_markers.specs.declared.head.HeadWhy.{HeadWhy}
use Rattle.j2k_markers.proofs.Judges.{stops, goes_on}
use Rattle.j2k_markers.proofs.Lists.{siz_parts}
use Rattle.j2k_markers.proofs.components.judge_siz.Goals as goal

-- the conditions on the components, on the area, on the tile and on the steps
abbrev count_tests : List ℕ → List Test
count_tests c = take 4 (siz_tests c)

abbrev area_tests : List ℕ → List Test
area_tests c = take 4 (drop 4 (siz_tests c))

abbrev one_tile_tests : List ℕ → List Test
one_tile_tests c = take 4 (drop 8 (siz_tests c))

abbrev step_tests : List ℕ → List Test
step_tests c = drop 12 (siz_tests c)

-- the conditions as they are judged
parts : (c : List ℕ) → judged (first_refusal (siz_tests c)) ≡ judged (first_refusal (count_tests c ++ (area_tests c ++ (one_tile_tests c ++ step_tests c))))
parts c = ap (λ (tests : List Test). judged (first_refusal tests)) (siz_parts c)

-- and those behind the first
behind_count : (c : List ℕ) (r : Result (Unit {0}) HeadWhy) (u : Unit {0}) → r ≡ judged (first_refusal (count_tests c)) → r ≡ Ok u → judged (first_refusal (siz_tests c)) ≡ judged (first_refusal (area_tests c ++ (one_tile_tests c ++ step_tests c)))
behind_count c r u j e = parts c ∙ goes_on (count_tests c) (area_tests c ++ (one_tile_tests c ++ step_tests c)) r u j e

pub returns-in_err-judge_count : goal.returns-in_err-judge_count
returns-in_err-judge_count c =
    let p = err_from_is_err_and c.from_residual.result c.from_residual.ensures.1 in
    let content = c.args.content.now in
    rw (p.1, p.2) (stops (count_tests content) (area_tests content ++ (one_tile_tests content ++ step_tests content)) c.judge_count.result c.in_err-judge_count.field-0.0 c.judge_count.ensures.judged c.in_err-judge_count.was ∙ sym (parts content))

pub returns-in_err-judge_area : goal.returns-in_err-judge_area
returns-in_err-judge_area c =
    let p = err_from_is_err_and c.from_residual-in_err-judge_area.result c.from_residual-in_err-judge_area.ensures.1 in
    let content = c.args.content.now in
    rw (p.1, p.2) (stops (area_tests content) (one_tile_tests content ++ step_tests content) c.judge_area.result c.in_err-judge_area.field-0.0 c.judge_area.ensures c.in_err-judge_area.was ∙ sym (behind_count content c.judge_count.result c.in_ok-judge_count.field-0 c.judge_count.ensures.judged c.in_ok-judge_count.was))

pub returns-in_err-judge_tiles : goal.returns-in_err-judge_tiles
returns-in_err-judge_tiles c =
    let p = err_from_is_err_and c.from_residual-in_err-judge_tiles.result c.from_residual-in_err-judge_tiles.ensures.1 in
    let content = c.args.content.now in
    rw (p.1, p.2)
    (stops (one_tile_tests content) (step_tests content) c.judge_tiles.result c.in_err-judge_tiles.field-0.0 c.judge_tiles.ensures c.in_err-judge_tiles.was
    ∙ sym (behind_count content c.judge_count.result c.in_ok-judge_count.field-0 c.judge_count.ensures.judged c.in_ok-judge_count.was
    ∙ goes_on (area_tests content) (one_tile_tests content ++ step_tests content) c.judge_area.result c.in_ok-judge_area.field-0 c.judge_area.ensures c.in_ok-judge_area.was))

pub returns : goal.returns
returns c =
    let content = c.args.content.now in
    c.judge_steps.ensures
    ∙ sym (behind_count content c.judge_count.result c.in_ok-judge_count.field-0 c.judge_count.ensures.judged c.in_ok-judge_count.was
    ∙ (goes_on (area_tests content) (one_tile_tests content ++ step_tests content) c.judge_area.result c.in_ok-judge_area.field-0 c.judge_area.ensures c.in_ok-judge_area.was
    ∙ goes_on (one_tile_tests content) (step_tests content) c.judge_tiles.result c.in_ok-judge_tiles.field-0 c.judge_tiles.ensures c.in_ok-judge_tiles.was))
