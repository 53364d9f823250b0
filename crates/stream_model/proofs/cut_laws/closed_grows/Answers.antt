use Rattle.stream_model.proofs.ClosedGrown.{closed_grows}
use Rattle.stream_model.proofs.cut_laws.closed_grows.Goals as goal

pub returns : goal.returns
returns c = closed_grows
