use Rattle.std.proofs.Common.{[], ◌∷◌, ◌++◌, ℕ, List, false, true, sym, subst}
use Rattle.relay_model.specs.Lines.{came}
use Rattle.stream_model.specs.Receiver.{received}
use Rattle.scl_outside.specs.Events.{OnWire, Bound}
use Rattle.scl_outside.specs.Steps.{Step}
use Rattle.scl_run.specs.declared.ending.Ending.{Ending}
use Rattle.scl_run.specs.Performing.{Performs}
use Rattle.recv_job.specs.Job.{recv_job}
use Rattle.recv_job.specs.Turns.{progress_of}
use Rattle.recv_job.proofs.SoFar.{begun, one_more, less_left, at_end, few_at_end, finished, stopped, unbound}
use Rattle.recv_job.proofs.run.recv.Goals as goal

pub returns-in-Failed : goal.returns-in-Failed
returns-in-Failed g c =
    let P : List ℕ → Type 0 = λ l. Step (g.O.Duct.meaning c.args.out.now) (OnWire (Bound l false)) (g.O.Duct.meaning c.bind.new.self) in
    (OnWire (Bound c.args.settings.now.local false) ∷ [], unbound c.args.settings.now _ _ (subst P c.local.ensures c.in-Failed.ensures.step))

pub loop-why-init : goal.loop-why-init
loop-why-init g c =
    let P : List ℕ → Type 0 = λ l. Step (g.O.Duct.meaning c.args.out.now) (OnWire (Bound l true)) (g.O.Duct.meaning c.bind.new.self) in
    begun c.args.settings.now _ _ _ c.requires (subst P c.local.ensures c.in-Bound.ensures.step) c.in-Ok.ensures

pub loop-why-smaller : goal.loop-why-smaller
loop-why-smaller g c =
    let so = c.loop-why.invariant.1 in
    let t = c.in-On.ensures.turns (received c.args.settings.now.pick (came so.answers)).releases so.given in
    less_left c.args.settings.now (received c.args.settings.now.pick (came so.answers)).releases (progress_of c.loop-why.link) (progress_of c.take_turn.new.link) _ _ t.0 so.few so.busy t.1

pub loop-why-preserved : goal.loop-why-preserved
loop-why-preserved g c =
    let so = c.loop-why.invariant in
    let t = c.in-On.ensures.turns (received c.args.settings.now.pick (came so.1.answers)).releases so.1.given in
    (so.0 ++ t.0, one_more c.args.settings.now (progress_of c.loop-why.link) (progress_of c.take_turn.new.link) _ _ _ so.0 t.0 so.1 c.take_turn.ensures.pick t.1)

pub write_end-requires-clause-ready : goal.write_end-requires-clause-ready
write_end-requires-clause-ready g c =
    let so = c.loop-why.invariant in
    let t = c.in-Over.ensures.turns (received c.args.settings.now.pick (came so.1.answers)).releases so.1.given in
    let a = at_end c.args.settings.now c.in-Over.why (progress_of c.loop-why.link) (progress_of c.take_turn.new.link) _ _ _ so.0 t.0 so.1 c.take_turn.ensures.pick t.1 in
    a.ready

pub write_end-requires-clause-few : goal.write_end-requires-clause-few
write_end-requires-clause-few g c =
    let so = c.loop-why.invariant in
    let t = c.in-Over.ensures.turns (received c.args.settings.now.pick (came so.1.answers)).releases so.1.given in
    let a = at_end c.args.settings.now c.in-Over.why (progress_of c.loop-why.link) (progress_of c.take_turn.new.link) _ _ _ so.0 t.0 so.1 c.take_turn.ensures.pick t.1 in
    few_at_end c.args.settings.now c.in-Over.why (progress_of c.take_turn.new.link) _ _ (so.0 ++ t.0) c.requires.most a

pub write_end-requires-clause-given : goal.write_end-requires-clause-given
write_end-requires-clause-given g c =
    let so = c.loop-why.invariant in
    let t = c.in-Over.ensures.turns (received c.args.settings.now.pick (came so.1.answers)).releases so.1.given in
    let a = at_end c.args.settings.now c.in-Over.why (progress_of c.loop-why.link) (progress_of c.take_turn.new.link) _ _ _ so.0 t.0 so.1 c.take_turn.ensures.pick t.1 in
    ((received c.args.settings.now.pick (came a.answers)).releases, a.given)

pub returns-in-Stop : goal.returns-in-Stop
returns-in-Stop g c =
    let so = c.loop-why.invariant in
    let t = c.in-Stop.ensures.turns (received c.args.settings.now.pick (came so.1.answers)).releases so.1.given in
    (so.0 ++ t.0, stopped c.args.settings.now (progress_of c.loop-why.link) (progress_of c.take_turn.new.link) _ _ _ _ so.0 t.0 so.1 t.1)

pub returns-in-Over : goal.returns-in-Over
returns-in-Over g c =
    let so = c.loop-why.invariant in
    let t = c.in-Over.ensures.turns (received c.args.settings.now.pick (came so.1.answers)).releases so.1.given in
    let a = at_end c.args.settings.now c.in-Over.why (progress_of c.loop-why.link) (progress_of c.take_turn.new.link) _ _ _ so.0 t.0 so.1 c.take_turn.ensures.pick t.1 in
    let e = c.write_end.ensures (received c.args.settings.now.pick (came a.answers)).releases a.given in
    let all = (so.0 ++ t.0) ++ e.0 in
    let P : Ending → Type 0 = λ x. Performs (recv_job c.args.settings.now) (g.O.Duct.meaning c.args.out.now) (g.O.Duct.meaning c.write_end.new.out) x all in
    (all, subst P (sym c.ending_of.ensures) (finished c.args.settings.now c.in-Over.why (progress_of c.take_turn.new.link) _ _ _ c.write_end.result (so.0 ++ t.0) e.0 a e.1))
