use Rattle.std.proofs.Common.{length}
use Rattle.deliver_job.proofs.ListWords.{SpellsTo}
use Rattle.deliver_job.proofs.positions.items_in.Given as goal

abbrev pub invariant-loop-part : goal.invariant-loop-part
invariant-loop-part l = SpellsTo l.word l.list l.rest

abbrev pub decreases-loop-part : goal.decreases-loop-part
decreases-loop-part l = length l.rest
