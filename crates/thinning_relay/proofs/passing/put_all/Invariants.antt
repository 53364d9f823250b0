use Rattle.thinning_relay.specs.Receivers.{PutsShare}
use Rattle.thinning_relay.proofs.Loops.{Changing}
use Rattle.thinning_relay.proofs.passing.put_all.Given as goal

abbrev pub invariant-loop-j : goal.invariant-loop-j
invariant-loop-j l = Changing PutsShare l.j l.fn.receivers l.receivers
