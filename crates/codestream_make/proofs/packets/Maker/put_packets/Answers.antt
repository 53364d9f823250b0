use Rattle.std.proofs.Common.{Bool, Err, sym, subst, ap}
use Rattle.codestream_model.specs.Values.{Head, Place}
use Rattle.codestream_model.specs.Precincts.{IsPrecinct}
use Rattle.precinct_geometry.specs.Spans.{place_of}
use Rattle.codestream_make.proofs.Walking.{none_put, one_put, come_next, all_put, all_gathered, too_few, fits_next, drop_at, drop_end, at_walk, not_at_walk, adds_at_walk, HasPut}
use Rattle.codestream_make.proofs.packets.Maker.put_packets.Goals as goal

pub loop-plan-init : goal.loop-plan-init
loop-plan-init c = none_put c.args.walk c.args.contents.now c.args.self.now.gathered c.requires.first c.requires.precinct

pub put_packet-requires : goal.put_packet-requires
put_packet-requires c =
    let place = c.place-place.ensures in
    let P : Head → Place → Type 0 = λ h p. IsPrecinct h p in
    let Q : Head → Type 0 = λ h. P h (place_of c.place-place.result) in
    let R : Place → Type 0 = λ p. P c.loop-plan.walk.head p in
    subst Q (sym c.geometry.ensures) (subst R (sym place) c.loop-plan.invariant.precinct)

pub returns-in_err-put_packet-clause-content : goal.returns-in_err-put_packet-clause-content
returns-in_err-put_packet-clause-content c = λ is f.
    let given = rw is at c.from_residual.ensures.1 in
    let here = drop_at c.args.contents.now c.loop-plan.plan-index c.plan-item.result c.loop-plan-test.true c.plan-item.is in
    let P : Bool → Type 0 = λ over. HasPut c.args.walk c.loop-plan.walk over c.args.contents.now c.loop-plan.plan-index c.args.self.now.gathered c.loop-plan.self.gathered in
    let fit = fits_next c.args.walk c.loop-plan.walk c.args.contents.now c.loop-plan.plan-index c.plan-item.result _ _ (subst P c.if-is_over.false c.loop-plan.invariant) here f in
    c.in_err-put_packet.ensures.content (ap (λ e. Err e) (sym given)) (not_at_walk c.loop-plan.walk _ _ c.plan-item.result c.geometry.ensures c.place-place.ensures fit)

pub loop-plan-preserved : goal.loop-plan-preserved
loop-plan-preserved c =
    let here = drop_at c.args.contents.now c.loop-plan.plan-index c.plan-item.result c.loop-plan-test.true c.plan-item.is in
    let P : Bool → Type 0 = λ over. HasPut c.args.walk c.loop-plan.walk over c.args.contents.now c.loop-plan.plan-index c.args.self.now.gathered c.loop-plan.self.gathered in
    let before = subst P c.if-is_over.false c.loop-plan.invariant in
    one_put c.args.walk c.loop-plan.walk c.advance-is_over.new.self c.advance-is_over.result c.args.contents.now c.loop-plan.plan-index c.plan-item.result _ _ _ before here
    (at_walk c.loop-plan.walk _ _ c.plan-item.result c.geometry.ensures c.place-place.ensures c.in_ok-put_packet.ensures.fits)
    (adds_at_walk c.loop-plan.walk _ _ c.plan-item.result _ _ c.geometry.ensures c.place-place.ensures c.in_ok-put_packet.ensures.gathered) c.advance-is_over.ensures.head
    (come_next c.loop-plan.walk c.advance-is_over.new.self c.advance-is_over.result c.advance-is_over.ensures.next c.advance-is_over.ensures.last) c.advance-is_over.ensures.precinct

pub returns-then-is_over-2-clause-fits : goal.returns-then-is_over-2-clause-fits
returns-then-is_over-2-clause-fits c =
    let P : Bool → Type 0 = λ over. HasPut c.args.walk c.loop-plan.walk over c.args.contents.now c.loop-plan.plan-index c.args.self.now.gathered c.loop-plan.self.gathered in
    all_put c.args.walk c.loop-plan.walk c.args.contents.now c.loop-plan.plan-index _ _ (subst P c.if-is_over-2.true c.loop-plan.invariant) (drop_end c.args.contents.now c.loop-plan.plan-index c.loop-plan-test.false)

pub returns-then-is_over-2-clause-gathered : goal.returns-then-is_over-2-clause-gathered
returns-then-is_over-2-clause-gathered c =
    let P : Bool → Type 0 = λ over. HasPut c.args.walk c.loop-plan.walk over c.args.contents.now c.loop-plan.plan-index c.args.self.now.gathered c.loop-plan.self.gathered in
    all_gathered c.args.walk c.loop-plan.walk c.args.contents.now c.loop-plan.plan-index _ _ (subst P c.if-is_over-2.true c.loop-plan.invariant) (drop_end c.args.contents.now c.loop-plan.plan-index c.loop-plan-test.false)

pub returns-else-is_over-2-clause-content : goal.returns-else-is_over-2-clause-content
returns-else-is_over-2-clause-content c = λ is f.
    let P : Bool → Type 0 = λ over. HasPut c.args.walk c.loop-plan.walk over c.args.contents.now c.loop-plan.plan-index c.args.self.now.gathered c.loop-plan.self.gathered in
    too_few c.args.walk c.loop-plan.walk c.args.contents.now c.loop-plan.plan-index _ _ (subst P c.if-is_over-2.false c.loop-plan.invariant) (drop_end c.args.contents.now c.loop-plan.plan-index c.loop-plan-test.false) f
