use Rattle.sender_model.proofs.Refused.{sender_has_one_answer}
use Rattle.sender_model.proofs.refusal_laws.sender_has_one_answer.Goals as goal

pub returns : goal.returns
returns c = sender_has_one_answer
