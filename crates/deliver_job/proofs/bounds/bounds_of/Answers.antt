use Rattle.std.proofs.Common.{refl, ◌∙◌, arith}
use Rattle.deliver_job.proofs.BoundsLaws.{no_bounds, bounds_more, frame_fits, bounds_all, rest_begins, rest_is_partial}
use Rattle.deliver_job.proofs.bounds.bounds_of.Goals as goal

pub loop-len-init : goal.loop-len-init
loop-len-init c = record { within = omega arith; so_far = rw c.new-starts.ensures.items (no_bounds c.args.capture.now) }

pub loop-len-preserved : goal.loop-len-preserved
loop-len-preserved c =
    let now = c.loop-len.invariant in
    let next = rest_begins c.args.capture.now c.loop-len.at c.in-Some.len c.in-Some.ensures.whole in
    record {
      within = (frame_fits c.args.capture.now c.loop-len.at c.in-Some.len now.within next).1;
      so_far = rw c.in_ok-push.ensures.items (bounds_more c.args.capture.now c.loop-len.at c.in-Some.len c.loop-len.starts.items now.so_far next);
    }

pub loop-len-smaller : goal.loop-len-smaller
loop-len-smaller c = let fits = frame_fits c.args.capture.now c.loop-len.at c.in-Some.len c.loop-len.invariant.within (rest_begins c.args.capture.now c.loop-len.at c.in-Some.len c.in-Some.ensures.whole) in omega (arith, fits.0, fits.1)

pub overflow_add-at : goal.overflow_add-at
overflow_add-at c = let fits = frame_fits c.args.capture.now c.loop-len.at c.in-Some.len c.loop-len.invariant.within (rest_begins c.args.capture.now c.loop-len.at c.in-Some.len c.in-Some.ensures.whole) in omega (arith, fits.1, c.requires)

pub returns : goal.returns
returns c = c.in_ok-push-2.ensures.items ∙ bounds_all c.args.capture.now c.loop-len.at c.loop-len.starts.items c.loop-len.invariant.so_far (rest_is_partial c.args.capture.now c.loop-len.at (c.in_default.ensures.cut refl))
