use Rattle.std.proofs.Common.{arith}
use Rattle.capture_frames.proofs.Fetching.{fetched_all, fetched_past, fetched_short, fetched_failed}
use Rattle.capture_frames.proofs.filling.fetch.Goals as goal

pub returns-then-need-left : goal.returns-then-need-left
returns-then-need-left g c = let k = c.in-All.ensures in (k.0, fetched_past _ _ _ _ _ _ _ (omega arith) (omega arith) k.1)

pub returns-else-need-left : goal.returns-else-need-left
returns-else-need-left g c = let k = c.in-All.ensures in (k.0, fetched_all _ _ _ _ _ _ _ (omega arith) (omega arith) k.1)

pub returns-in-Short : goal.returns-in-Short
returns-in-Short g c = let k = c.in-Short.ensures in (k.0, fetched_short _ _ _ _ _ _ _ _ (omega arith) k.1)

pub returns-in-Failed : goal.returns-in-Failed
returns-in-Failed g c = let k = c.in-Failed.ensures in (k.0, fetched_failed _ _ _ _ _ _ _ (omega arith) k.1)
