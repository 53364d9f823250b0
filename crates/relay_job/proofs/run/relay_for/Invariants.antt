use Rattle.relay_job.proofs.Lists.{PeersTo}
use Rattle.relay_job.proofs.run.relay_for.Given as goal

abbrev pub invariant-loop-j : goal.invariant-loop-j
invariant-loop-j l = PeersTo l.j l.settings.targets l.peers.items
