use Rattle.std.proofs.Common.{◌≤◌, ◌*◌, ◌∙◌, List, ap, length, arith, sym, subst}
use Rattle.codestream_model.specs.Values.{Head}
use Rattle.codestream_model.specs.Precincts.{IsPrecinct}
use Rattle.pcrl_order.specs.declared.anchored.Anchored.{Anchored}
use Rattle.pcrl_order.specs.Ahead.{IsAheadIn, least_numbers}
use Rattle.pcrl_order.specs.Least.{IsOfEarlier}
use Rattle.pcrl_order.proofs.Candidates.{ahead_among, ahead_at_first}
use Rattle.pcrl_order.proofs.Leasts.{all_behind}
use Rattle.pcrl_order.proofs.walk.all_first.Goals as goal

pub loop-c-init : goal.loop-c-init
loop-c-init c =
    let P : List Anchored → Type 0 = λ nexts. (length nexts ≤ 16 * 0) × IsAheadIn c.args.geometry.now (IsOfEarlier 0 0) least_numbers nexts in
    subst P (sym c.new-nexts.ensures) (omega arith, ahead_at_first c.args.geometry.now least_numbers)

pub returns : goal.returns
returns c =
    let count = c.components-c-end.ensures.count ∙ ap (λ (h : Head). length h.steps) c.head-2.ensures in
    ahead_among c.args.geometry.now least_numbers (IsOfEarlier c.loop-c.c 0) (IsPrecinct c.args.geometry.now) c.loop-c.nexts.items (all_behind c.args.geometry.now c.loop-c.c (omega arith)) c.loop-c.invariant.1
