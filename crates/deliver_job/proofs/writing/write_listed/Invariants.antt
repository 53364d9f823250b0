use Rattle.std.proofs.Common.{◌≡◌, List, drop, length}
use Rattle.std.specs.Prelude.{None}
use Rattle.wire_model.specs.Framing.{whole_frames}
use Rattle.scl_outside.specs.Events.{Event}
use Rattle.delivery_model.specs.Delivering.{first_missing}
use Rattle.deliver_job.specs.Items.{ranges_of}
use Rattle.deliver_job.specs.Writing.{listed}
use Rattle.deliver_job.proofs.Putting.{Putting}
use Rattle.deliver_job.proofs.writing.write_listed.Given as goal

abbrev pub invariant-loop-item : goal.invariant-loop-item
invariant-loop-item g l = record {
  there : first_missing (ranges_of (drop l.item-index l.list)) (length (whole_frames l.capture)) ≡ None;
  put : (es : List Event) × Putting (listed (ranges_of l.list) (whole_frames l.capture)) (listed (ranges_of (drop l.item-index l.list)) (whole_frames l.capture)) (g.D.Duct.meaning l.fn.out) (g.D.Duct.meaning l.out) es;
}
