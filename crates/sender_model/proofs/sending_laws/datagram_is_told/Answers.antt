use Rattle.sender_model.proofs.Told.{datagram_is_told}
use Rattle.sender_model.proofs.sending_laws.datagram_is_told.Goals as goal

pub returns : goal.returns
returns c = datagram_is_told
