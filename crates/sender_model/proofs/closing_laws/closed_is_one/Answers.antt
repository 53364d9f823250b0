use Rattle.sender_model.proofs.ClosedComputed.{closed_is_one}
use Rattle.sender_model.proofs.closing_laws.closed_is_one.Goals as goal

pub returns : goal.returns
returns c = closed_is_one
