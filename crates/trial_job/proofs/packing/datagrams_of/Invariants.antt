use Rattle.std.proofs.Common.{◌-◌}
use Rattle.trial_job.proofs.Cut.{told_left, HasSent}
use Rattle.trial_job.proofs.packing.datagrams_of.Given as goal

abbrev pub invariant-loop-datagrams : goal.invariant-loop-datagrams
invariant-loop-datagrams l = HasSent l.fn.sender.plan (told_left l.fn.input).0 l.input l.sender l.datagrams

abbrev pub decreases-loop-datagrams : goal.decreases-loop-datagrams
decreases-loop-datagrams l = 8388607 - l.sender.given
