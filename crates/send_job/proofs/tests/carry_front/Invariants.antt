use Rattle.std.proofs.Common.{◌≤◌, length}
use Rattle.send_job.proofs.tests.carry_front.Given as goal

abbrev pub invariant-loop-i : goal.invariant-loop-i
invariant-loop-i l = l.at ≤ length l.input
