use Rattle.std.proofs.Common.{sym, arith}
use Rattle.deliver_job.specs.Items.{range_of}
use Rattle.deliver_job.proofs.Missing.{empty_item, item_within, item_past}
use Rattle.deliver_job.proofs.items.missing_in.Goals as goal

pub returns-then-last-first : goal.returns-then-last-first
returns-then-last-first c = sym (empty_item (range_of c.args.item) c.args.frames (omega arith))

pub returns-then-last-frames : goal.returns-then-last-frames
returns-then-last-frames c = sym (item_within (range_of c.args.item) c.args.frames (omega arith) (omega arith))

pub returns-then-first-frames : goal.returns-then-first-frames
returns-then-first-frames c = sym (item_past (range_of c.args.item) c.args.frames _ (omega arith) (omega arith) (omega arith))

pub returns-else-first-frames : goal.returns-else-first-frames
returns-else-first-frames c = sym (item_past (range_of c.args.item) c.args.frames _ (omega arith) (omega arith) (omega arith))
