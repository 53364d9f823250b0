use Rattle.std.specs.Rc.{rc_slice_items}
use Rattle.thinning_relay.proofs.Loops.{Changing}
use Rattle.thinning_relay.proofs.Sharing.{Shared}
use Rattle.thinning_relay.proofs.passing.share_all.Given as goal

abbrev pub invariant-loop-j : goal.invariant-loop-j
invariant-loop-j l = Changing (Shared l.level (rc_slice_items l.copy)) l.j l.fn.receivers l.receivers
