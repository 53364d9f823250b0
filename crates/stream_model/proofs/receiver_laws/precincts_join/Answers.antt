use Rattle.stream_model.proofs.ReceiverJoins.{precincts_join}
use Rattle.stream_model.proofs.receiver_laws.precincts_join.Goals as goal

pub returns : goal.returns
returns c = precincts_join
