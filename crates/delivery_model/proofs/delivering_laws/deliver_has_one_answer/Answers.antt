use Rattle.delivery_model.proofs.Delivered.{deliver_has_one_answer}
use Rattle.delivery_model.proofs.delivering_laws.deliver_has_one_answer.Goals as goal

pub returns : goal.returns
returns c = deliver_has_one_answer
