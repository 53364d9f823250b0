use Rattle.std.proofs.Common.{◌≡◌, ◌++◌, List, ℕ, [], take, drop, sym, ◌∙◌}
use Rattle.std.proofs.lemmas.Result.{err_from_is_err_and}
use Rattle.codestream_model.specs.HeadRefusals.{Test}
use Rattle.j2k_markers.specs.Before.{sot_tests}
use Rattle.j2k_markers.proofs.Judges.{stops, goes_on, same_judged}
use Rattle.j2k_markers.proofs.Lists.{sot_parts}
use Rattle.j2k_markers.proofs.tiles.judge_tile.Goals as goal

-- the conditions on the tile-part, on the quantisation and on the numbers
abbrev part_tests : List ℕ → List Test
part_tests content = take 3 (sot_tests [] [] [] content)

abbrev quant_tests : List ℕ → List ℕ → List Test
quant_tests cod qcd = take 2 (drop 3 (sot_tests [] cod qcd []))

abbrev number_tests : List ℕ → List ℕ → List Test
number_tests siz cod = drop 5 (sot_tests siz cod [] [])

pub returns-in_err-judge_part : goal.returns-in_err-judge_part
returns-in_err-judge_part c =
    let p = err_from_is_err_and c.from_residual.result c.from_residual.ensures.1 in
    let siz = c.args.siz.now in
    let cod = c.args.cod.now in
    let qcd = c.args.qcd.now in
    let content = c.args.content.now in
    rw (p.1, p.2)
    (stops (part_tests content) (quant_tests cod qcd ++ number_tests siz cod) c.judge_part.result c.in_err-judge_part.field-0.0 c.judge_part.ensures c.in_err-judge_part.was
    ∙ same_judged (sym (sot_parts siz cod qcd content)))

pub returns-in_err-judge_quant : goal.returns-in_err-judge_quant
returns-in_err-judge_quant c =
    let p = err_from_is_err_and c.from_residual-in_err-judge_quant.result c.from_residual-in_err-judge_quant.ensures.1 in
    let siz = c.args.siz.now in
    let cod = c.args.cod.now in
    let qcd = c.args.qcd.now in
    let content = c.args.content.now in
    rw (p.1, p.2)
    (stops (quant_tests cod qcd) (number_tests siz cod) c.judge_quant.result c.in_err-judge_quant.field-0.0 c.judge_quant.ensures c.in_err-judge_quant.was
    ∙ (sym (goes_on (part_tests content) (quant_tests cod qcd ++ number_tests siz cod) c.judge_part.result c.in_ok-judge_part.field-0 c.judge_part.ensures c.in_ok-judge_part.was)
    ∙ same_judged (sym (sot_parts siz cod qcd content))))

pub returns : goal.returns
returns c =
    let siz = c.args.siz.now in
    let cod = c.args.cod.now in
    let qcd = c.args.qcd.now in
    let content = c.args.content.now in
    c.judge_numbers.ensures
    ∙ (sym (goes_on (quant_tests cod qcd) (number_tests siz cod) c.judge_quant.result c.in_ok-judge_quant.field-0 c.judge_quant.ensures c.in_ok-judge_quant.was)
    ∙ (sym (goes_on (part_tests content) (quant_tests cod qcd ++ number_tests siz cod) c.judge_part.result c.in_ok-judge_part.field-0 c.judge_part.ensures c.in_ok-judge_part.was)
    ∙ same_judged (sym (sot_parts siz cod qcd content))))
