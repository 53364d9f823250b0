use Rattle.relay_model.proofs.Settling.{polls_settle}
use Rattle.relay_model.proofs.laws.polls_settle.Goals as goal

pub returns : goal.returns
returns c = polls_settle
