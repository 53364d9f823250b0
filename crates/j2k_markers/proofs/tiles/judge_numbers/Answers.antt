use Rattle.std.proofs.Common.{◌≡◌, true, false, [], ◌∷◌, refl, ap, sym, ◌∙◌}
use Rattle.std.specs.Prelude.{Bool}
use Rattle.codestream_model.specs.Values.{Head}
use Rattle.codestream_model.specs.HeadRefusals.{refuses, first_refusal, Ids}
use Rattle.codestream_model.specs.SegmentTests.{has_great_pid}
use Rattle.j2k_markers.specs.Fields.{head_from}
use Rattle.j2k_markers.specs.Refusals.{judged}
use Rattle.j2k_markers.proofs.Judges.{same_judged}
use Rattle.j2k_markers.proofs.Lists.{number_part}
use Rattle.j2k_markers.proofs.tiles.judge_numbers.Goals as goal

pub returns-then-has_great_pid : goal.returns-then-has_great_pid
returns-then-has_great_pid c =
    let found : has_great_pid (head_from c.args.siz.now c.args.cod.now 0 0 0) ≡ true = ap (λ (h : Head). has_great_pid h) (sym (c.fields_of.ensures.values 0 0 0)) ∙ (sym c.has_great_pid.ensures ∙ c.if-has_great_pid.true) in
    ap (λ (t : Bool). judged (first_refusal (refuses Ids t ∷ []))) (sym found) ∙ same_judged (sym (number_part c.args.siz.now c.args.cod.now))

pub returns : goal.returns
returns c =
    let none : has_great_pid (head_from c.args.siz.now c.args.cod.now 0 0 0) ≡ false = ap (λ (h : Head). has_great_pid h) (sym (c.fields_of.ensures.values 0 0 0)) ∙ (sym c.has_great_pid.ensures ∙ c.if-has_great_pid.false) in
    ap (λ (t : Bool). judged (first_refusal (refuses Ids t ∷ []))) (sym none) ∙ same_judged (sym (number_part c.args.siz.now c.args.cod.now))
