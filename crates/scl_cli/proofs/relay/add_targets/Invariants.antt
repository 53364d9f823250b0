use Rattle.std.proofs.Common.{◌-◌, length}
use Rattle.scl_cli.proofs.RelaySpelt.{SpeltTo}
use Rattle.scl_cli.proofs.relay.add_targets.Given as goal

abbrev pub invariant-loop-at : goal.invariant-loop-at
invariant-loop-at l = SpeltTo l.at l.words l.fn.settings l.settings

abbrev pub decreases-loop-at : goal.decreases-loop-at
decreases-loop-at l = length l.words - l.at
