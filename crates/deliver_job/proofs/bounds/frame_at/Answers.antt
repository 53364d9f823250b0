use Rattle.std.proofs.Common.{arith}
use Rattle.deliver_job.proofs.BoundsLaws.{frame_between}
use Rattle.deliver_job.proofs.bounds.frame_at.Goals as goal

pub slice_bounds-result-start : goal.slice_bounds-result-start
slice_bounds-result-start c = let f = frame_between c.args.capture.now c.args.bounds.now c.args.position 0 0 (λ i. omega (arith, c.type_inv.capture i)) c.requires.bounds c.requires.there in omega (arith, f.order, f.within)

pub slice_bounds-result-count : goal.slice_bounds-result-count
slice_bounds-result-count c = let f = frame_between c.args.capture.now c.args.bounds.now c.args.position 0 0 (λ i. omega (arith, c.type_inv.capture i)) c.requires.bounds c.requires.there in omega (arith, f.order, f.within)

pub slice_bounds-result-end : goal.slice_bounds-result-end
slice_bounds-result-end c = let f = frame_between c.args.capture.now c.args.bounds.now c.args.position 0 0 (λ i. omega (arith, c.type_inv.capture i)) c.requires.bounds c.requires.there in omega (arith, f.order, f.within)

pub returns : goal.returns
returns c = (frame_between c.args.capture.now c.args.bounds.now c.args.position 0 0 (λ i. omega (arith, c.type_inv.capture i)) c.requires.bounds c.requires.there).bytes
