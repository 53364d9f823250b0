use Rattle.std.proofs.Common.{◌≡◌, ◌+◌, ◌*◌, ℕ, arith, ap}
use Rattle.std.specs.Prelude.{slice_index}
use Rattle.codestream_model.specs.Values.{Pair}
use Rattle.j2k_markers.proofs.Pairs.{pair_more}
use Rattle.j2k_markers.proofs.components.siz_steps.Goals as goal

pub loop-c-preserved : goal.loop-c-preserved
loop-c-preserved c =
    let content = c.args.content.now in
    let at : 37 + 3 * c.loop-c.c + 1 ≡ 38 + 3 * c.loop-c.c = omega arith in
    let step : ℕ → Pair = λ i. record { x = slice_index content (37 + 3 * i); y = slice_index content (38 + 3 * i) } in
    record {
      count = omega arith;
      steps = rw c.push.ensures.items (pair_more step c.loop-c.steps.items c.loop-c.c _ c.loop-c.invariant.steps (ap (λ (k : ℕ). record { x = slice_index content (37 + 3 * c.loop-c.c); y = slice_index content k }) at));
    }
