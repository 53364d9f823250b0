use Rattle.std.proofs.Common.{◌≡◌, drop}
use Rattle.delivery_model.specs.Delivering.{first_missing}
use Rattle.deliver_job.specs.Items.{ranges_of}
use Rattle.deliver_job.proofs.items.first_missing.Given as goal

abbrev pub invariant-loop-item : goal.invariant-loop-item
invariant-loop-item l = first_missing (ranges_of l.list) l.frames ≡ first_missing (ranges_of (drop l.item-index l.list)) l.frames
