use Rattle.std.proofs.Common.{◌∙◌, ◌+◌, ap, arith}
use Rattle.codestream_model.specs.Values.{Head}
use Rattle.pcrl_order.specs.Least.{numbers_in, IsOfEarlier}
use Rattle.pcrl_order.proofs.Leasts.{among_others, component_behind}
use Rattle.pcrl_order.proofs.cursor.with_component.Goals as goal

pub returns : goal.returns
returns c =
    let levels = c.levels-r-end.ensures.levels ∙ ap (λ (h : Head). h.levels) c.head.ensures in
    among_others c.args.geometry.now (numbers_in c.args.from) (IsOfEarlier c.args.c c.loop-r.r) (IsOfEarlier (c.args.c + 1) 0) c.loop-r.best (component_behind c.args.geometry.now c.args.c c.loop-r.r (omega arith)) c.loop-r.invariant
