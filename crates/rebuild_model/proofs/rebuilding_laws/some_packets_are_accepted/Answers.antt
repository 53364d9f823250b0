use Rattle.rebuild_model.proofs.EmptyPackets.{some_packets_are_accepted}
use Rattle.rebuild_model.proofs.rebuilding_laws.some_packets_are_accepted.Goals as goal

pub returns : goal.returns
returns c = some_packets_are_accepted
