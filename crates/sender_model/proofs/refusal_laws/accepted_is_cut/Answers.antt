use Rattle.sender_model.proofs.Refused.{accepted_is_cut}
use Rattle.sender_model.proofs.refusal_laws.accepted_is_cut.Goals as goal

pub returns : goal.returns
returns c = accepted_is_cut
