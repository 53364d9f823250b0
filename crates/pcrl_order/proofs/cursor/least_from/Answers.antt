use Rattle.std.proofs.Common.{◌∙◌, ap, length, arith}
use Rattle.codestream_model.specs.Values.{Head}
use Rattle.codestream_model.specs.Precincts.{IsPrecinct}
use Rattle.pcrl_order.specs.Least.{numbers_in, IsOfEarlier}
use Rattle.pcrl_order.proofs.Leasts.{among_others, all_behind}
use Rattle.pcrl_order.proofs.cursor.least_from.Goals as goal

pub returns : goal.returns
returns c =
    let count = c.components-c-end.ensures.count ∙ ap (λ (h : Head). length h.steps) c.head.ensures in
    among_others c.args.geometry.now (numbers_in c.args.from) (IsOfEarlier c.loop-c.c 0) (IsPrecinct c.args.geometry.now) c.loop-c.best (all_behind c.args.geometry.now c.loop-c.c (omega arith)) c.loop-c.invariant
