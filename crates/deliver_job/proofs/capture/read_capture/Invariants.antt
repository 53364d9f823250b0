use Rattle.std.proofs.Common.{◌≡◌, ◌≤◌, ◌+◌, ◌-◌, List, length, vec_len}
use Rattle.scl_outside.specs.Events.{Event}
use Rattle.delivery_model.specs.Delivering.{most_delivered}
use Rattle.deliver_job.proofs.WholeReads.{SoFar}
use Rattle.deliver_job.proofs.capture.read_capture.Given as goal

abbrev pub invariant-loop-buf : goal.invariant-loop-buf
invariant-loop-buf g l = record {
  few : length l.capture.items ≤ most_delivered + 1;
  count : vec_len l.capture ≡ length l.capture.items;
  size : length l.buf ≡ 8192;
  so_far : (es : List Event) × SoFar (g.D.Duct.meaning l.fn.out) (g.D.Duct.meaning l.out) l.capture.items es;
}

abbrev pub decreases-loop-buf : goal.decreases-loop-buf
decreases-loop-buf g l = most_delivered + 1 - length l.capture.items
