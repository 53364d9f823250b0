use Rattle.std.proofs.Common.{◌<◌, length, sym, subst}
use Rattle.codestream_model.specs.Values.{Head}
use Rattle.codestream_model.specs.HeadLimits.{IsStep}
use Rattle.j2k_markers.proofs.Pairs.{pair_at}
use Rattle.j2k_markers.proofs.head.Head.step.Goals as goal

pub returns-clause-some_x : goal.returns-clause-some_x
returns-clause-some_x c =
    let P : Head → Type 0 = λ h. c.args.c < length h.steps in
    let step = pair_at IsStep c.self.inside.fields.steps.items c.args.c c.self.invariant.each_step (subst P (sym c.self.view_is) c.requires) in
    rw (c.deref.ensures.0, c.from.ensures) step.some_x

pub returns-clause-some_y : goal.returns-clause-some_y
returns-clause-some_y c =
    let P : Head → Type 0 = λ h. c.args.c < length h.steps in
    let step = pair_at IsStep c.self.inside.fields.steps.items c.args.c c.self.invariant.each_step (subst P (sym c.self.view_is) c.requires) in
    rw (c.deref.ensures.0, c.from.ensures) step.some_y
