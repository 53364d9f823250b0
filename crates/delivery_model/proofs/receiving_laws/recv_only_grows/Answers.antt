use Rattle.delivery_model.proofs.Received.{recv_only_grows}
use Rattle.delivery_model.proofs.receiving_laws.recv_only_grows.Goals as goal

pub returns : goal.returns
returns c = recv_only_grows
