use Rattle.delivery_model.proofs.Received.{recv_writes_what_is_due}
use Rattle.delivery_model.proofs.receiving_laws.recv_writes_what_is_due.Goals as goal

pub returns : goal.returns
returns c = recv_writes_what_is_due
