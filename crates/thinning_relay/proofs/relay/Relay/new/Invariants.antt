use Rattle.thinning_relay.proofs.Making.{Made}
use Rattle.thinning_relay.proofs.relay.Relay.new.Given as goal

abbrev pub invariant-loop-j : goal.invariant-loop-j
invariant-loop-j l = Made l.j l.peers l.receivers.items
