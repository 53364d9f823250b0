use Rattle.stream_model.proofs.ClosedPayloads.{closed_stays}
use Rattle.stream_model.proofs.laws.closed_stays.Goals as goal

pub returns : goal.returns
returns c = closed_stays
