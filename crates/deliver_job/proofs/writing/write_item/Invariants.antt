use Rattle.std.proofs.Common.{◌≤◌, ◌+◌, ◌-◌, List, [], ◌∷◌}
use Rattle.wire_model.specs.Framing.{whole_frames}
use Rattle.scl_outside.specs.Events.{Event}
use Rattle.deliver_job.specs.Items.{range_of}
use Rattle.deliver_job.specs.Writing.{listed}
use Rattle.deliver_job.proofs.Listed.{from_on}
use Rattle.deliver_job.proofs.Putting.{Putting}
use Rattle.deliver_job.proofs.writing.write_item.Given as goal

abbrev pub invariant-loop-position : goal.invariant-loop-position
invariant-loop-position g l = record {
  low : (range_of l.fn.item).first ≤ l.position;
  put : (es : List Event) × Putting (listed (range_of l.fn.item ∷ []) (whole_frames l.capture)) (from_on l.position l.last (whole_frames l.capture)) (g.D.Duct.meaning l.fn.out) (g.D.Duct.meaning l.out) es;
}

abbrev pub decreases-loop-position : goal.decreases-loop-position
decreases-loop-position g l = l.last + 1 - l.position
