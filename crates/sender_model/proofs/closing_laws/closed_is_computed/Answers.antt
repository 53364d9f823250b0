use Rattle.sender_model.proofs.ClosedComputed.{closed_is_computed}
use Rattle.sender_model.proofs.closing_laws.closed_is_computed.Goals as goal

pub returns : goal.returns
returns c = closed_is_computed
