use Rattle.std.proofs.Common.{◌≡◌, [], ◌∷◌, ◌++◌, refl, sym, subst, ◌∙◌, ap, length, arith}
use Rattle.codestream_model.specs.Values.{Head}
use Rattle.codestream_model.specs.Precincts.{IsPrecinct}
use Rattle.pcrl_order.specs.Later.{later}
use Rattle.scl_outside.specs.Events.{Wrote, WriteFailed}
use Rattle.scl_run.specs.declared.ending.Ending.TheVariants.{Done, WriteFault}
use Rattle.scl_cli.specs.OrderLines.{order_lines}
use Rattle.scl_cli.specs.Showing.{Shows}
use Rattle.scl_cli.proofs.Ordered.{OrderSoFar, at_first, at_next, at_last, line_broken}
use Rattle.scl_cli.proofs.order.write_order.Goals as goal

pub loop-walk-init : goal.loop-walk-init
loop-walk-init g c = (c.new-walk.ensures.head ∙ c.new.ensures, ([], at_first _ _ _ c.new-walk.ensures.first c.new-walk.ensures.precinct))

pub line_of-requires : goal.line_of-requires
line_of-requires g c = c.loop-walk.invariant.1.1.place

pub returns-in-Failed : goal.returns-in-Failed
returns-in-Failed g c =
    let so_far = c.loop-walk.invariant.1 in
    let step = c.in-Failed.ensures.step in
    let line = c.as_bytes.ensures.value ∙ (c.deref.ensures.0 ∙ c.line_of.ensures) in
    let P : Head → Type 0 = λ h. Shows (order_lines h) (g.D.Duct.meaning c.args.out.now) (g.D.Duct.meaning c.write.new.self) WriteFault (so_far.0 ++ WriteFailed step.0 ∷ []) in
    (so_far.0 ++ WriteFailed step.0 ∷ [], subst P c.loop-walk.invariant.0 (line_broken _ _ _ _ _ c.as_bytes.result.now step.0 step.1 so_far.0 so_far.1 line step.2 step.3))

pub returns-then-not-advance : goal.returns-then-not-advance
returns-then-not-advance g c =
    let so_far = c.loop-walk.invariant.1 in
    let line = c.as_bytes.ensures.value ∙ (c.deref.ensures.0 ∙ c.line_of.ensures) in
    let P : Head → Type 0 = λ h. Shows (order_lines h) (g.D.Duct.meaning c.args.out.now) (g.D.Duct.meaning c.write.new.self) Done (so_far.0 ++ Wrote c.as_bytes.result.now ∷ []) in
    (so_far.0 ++ Wrote c.as_bytes.result.now ∷ [], subst P c.loop-walk.invariant.0 (at_last _ _ _ _ _ _ so_far.0 so_far.1 line c.in-Done.ensures.step (c.if-not-advance.ensures.last refl).0))

pub loop-walk-smaller : goal.loop-walk-smaller
loop-walk-smaller g c = omega (arith, ap length (c.if-not-advance.ensures.next refl))

pub loop-walk-preserved : goal.loop-walk-preserved
loop-walk-preserved g c =
    let so_far = c.loop-walk.invariant.1 in
    let line = c.as_bytes.ensures.value ∙ (c.deref.ensures.0 ∙ c.line_of.ensures) in
    let h = c.loop-walk.walk.head in
    let p = c.advance.new.self.place in
    let events = so_far.0 ++ Wrote c.as_bytes.result.now ∷ [] in
    let P : Head → Type 0 = λ i. later h c.loop-walk.walk.place ≡ p ∷ later i p in
    let Q : Head → Type 0 = λ i. IsPrecinct i p in
    let R : Head → Type 0 = λ i. OrderSoFar i (g.D.Duct.meaning c.args.out.now) (g.D.Duct.meaning c.write.new.self) p events in
    let next = subst P c.advance.ensures.head (c.if-not-advance.ensures.next refl) in
    let place = subst Q c.advance.ensures.head c.advance.ensures.precinct in
    (c.advance.ensures.head ∙ c.loop-walk.invariant.0, (events, subst R (sym c.advance.ensures.head) (at_next _ _ _ _ _ _ _ so_far.0 so_far.1 line c.in-Done.ensures.step next place)))
