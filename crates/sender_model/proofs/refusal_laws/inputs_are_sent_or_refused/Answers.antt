use Rattle.sender_model.proofs.Refused.{inputs_are_sent_or_refused}
use Rattle.sender_model.proofs.refusal_laws.inputs_are_sent_or_refused.Goals as goal

pub returns : goal.returns
returns c = inputs_are_sent_or_refused
