use Rattle.sender_model.proofs.ClosedComputed.{closed_only_grows}
use Rattle.sender_model.proofs.closing_laws.closed_only_grows.Goals as goal

pub returns : goal.returns
returns c = closed_only_grows
