use Rattle.sender_model.proofs.Told.{sending_is_told}
use Rattle.sender_model.proofs.sending_laws.sending_is_told.Goals as goal

pub returns : goal.returns
returns c = sending_is_told
