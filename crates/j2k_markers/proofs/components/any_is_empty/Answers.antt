use Rattle.std.proofs.Common.{◌≡◌, ◌||◌, false, get_or, arith}
use Rattle.std.specs.Prelude.{◌==◌, ◌≢◌}
use Rattle.std.proofs.lemmas.Bool.{or_parts, eqb-false}
use Rattle.codestream_model.specs.Values.{Pair}
use Rattle.j2k_markers.proofs.Pairs.{none_at}
use Rattle.j2k_markers.proofs.components.any_is_empty.Goals as goal

pub is_empty-requires-clause-some_x : goal.is_empty-requires-clause-some_x
is_empty-requires-clause-some_x c =
    let item = get_or c.args.steps.now c.loop-step.step-index (0, 0) in
    let none : (item.0 == 0 || item.1 == 0) ≡ false = none_at (λ (step : Pair). step.x == 0 || step.y == 0) c.args.steps.now c.loop-step.step-index c.requires.some c.loop-step-test.true in
    let ne : item.0 ≢ 0 = eqb-false item.0 0 (or_parts (item.0 == 0) (item.1 == 0) none).0 in
    omega arith

pub is_empty-requires-clause-some_y : goal.is_empty-requires-clause-some_y
is_empty-requires-clause-some_y c =
    let item = get_or c.args.steps.now c.loop-step.step-index (0, 0) in
    let none : (item.0 == 0 || item.1 == 0) ≡ false = none_at (λ (step : Pair). step.x == 0 || step.y == 0) c.args.steps.now c.loop-step.step-index c.requires.some c.loop-step-test.true in
    let ne : item.1 ≢ 0 = eqb-false item.1 0 (or_parts (item.0 == 0) (item.1 == 0) none).1 in
    omega arith
