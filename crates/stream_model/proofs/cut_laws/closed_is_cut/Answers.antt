use Rattle.stream_model.proofs.ClosedGrown.{closed_is_cut}
use Rattle.stream_model.proofs.cut_laws.closed_is_cut.Goals as goal

pub returns : goal.returns
returns c = closed_is_cut
