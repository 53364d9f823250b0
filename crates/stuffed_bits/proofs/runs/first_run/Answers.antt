-- The leading zeros tell the first run.
use Rattle.stuffed_bits.proofs.FirstRuns.{leading_tells}
use Rattle.stuffed_bits.proofs.runs.first_run.Goals as goal

pub overflow_sub-result : goal.overflow_sub-result
overflow_sub-result c = rw c.others.ensures (leading_tells c.args.of c.args.left c.args.byte c.requires).few

pub returns-clause-run : goal.returns-clause-run
returns-clause-run c = rw c.others.ensures (leading_tells c.args.of c.args.left c.args.byte c.requires).begins
