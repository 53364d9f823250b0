use Rattle.std.proofs.Common.{sym, ◌∙◌, take, drop}
use Rattle.std.proofs.lemmas.Result.{err_from_is_err_and}
use Rattle.codestream_model.specs.SegmentTests.{cod_tests}
use Rattle.j2k_markers.proofs.Judges.{stops, goes_on, same_judged}
use Rattle.j2k_markers.proofs.Lists.{cod_parts}
use Rattle.j2k_markers.proofs.styles.judge_cod.Goals as goal

pub returns-in_err-judge_order : goal.returns-in_err-judge_order
returns-in_err-judge_order c =
    let p = err_from_is_err_and c.from_residual.result c.from_residual.ensures.1 in
    let content = c.args.content.now in
    rw (p.1, p.2) (stops (take 6 (cod_tests content)) (drop 6 (cod_tests content)) c.judge_order.result c.in_err-judge_order.field-0.0 c.judge_order.ensures.judged c.in_err-judge_order.was ∙ same_judged (sym (cod_parts content)))

pub returns : goal.returns
returns c =
    let content = c.args.content.now in
    c.judge_blocks.ensures
    ∙ (sym (goes_on (take 6 (cod_tests content)) (drop 6 (cod_tests content)) c.judge_order.result c.in_ok-judge_order.field-0 c.judge_order.ensures.judged c.in_ok-judge_order.was)
    ∙ same_judged (sym (cod_parts content)))
