use Rattle.std.proofs.Common.{◌≡◌, ◌||◌, Bool, true, get_or, sym}
use Rattle.std.specs.Prelude.{◌==◌}
use Rattle.std.proofs.lemmas.Bool.{or_left, or_right, eq-eqb}
use Rattle.codestream_model.specs.Values.{Pair}
use Rattle.j2k_markers.specs.Fields.{pair}
use Rattle.j2k_markers.proofs.Pairs.{any_at}
use Rattle.j2k_markers.proofs.components.any_is_zero.Goals as goal
use Rattle.j2k_markers.proofs.components.any_is_zero.Goals.{then-step-eq0-via-then-step-eq0, then-step-eq0-via-else-step-eq0+then-step-eq0-2}

pub returns-then-step-eq0 : goal.returns-then-step-eq0
returns-then-step-eq0 c =
    let steps = c.args.steps.now in
    let k = c.loop-step.step-index in
    let item = get_or steps k (0, 0) in
    let zero : Pair → Bool = λ step. step.x == 0 || step.y == 0 in
    let found : zero (pair item) ≡ true = elim c.then-step-eq0.branch [
      | then-step-eq0-via-then-step-eq0 w ↦ or_left (item.0 == 0) (item.1 == 0) (eq-eqb item.0 0 w.if-step-eq0.true)
      | then-step-eq0-via-else-step-eq0+then-step-eq0-2 w ↦ or_right (item.0 == 0) (item.1 == 0) (eq-eqb item.1 0 w.if-step-eq0-2.true)
    ] in
    sym (any_at zero steps k c.loop-step-test.true found)
