use Rattle.sender_model.proofs.Refused.{sendable_is_accepted}
use Rattle.sender_model.proofs.refusal_laws.sendable_is_accepted.Goals as goal

pub returns : goal.returns
returns c = sendable_is_accepted
