use Rattle.stream_model.proofs.InTime.{in_time_stays}
use Rattle.stream_model.proofs.laws.in_time_stays.Goals as goal

pub returns : goal.returns
returns c = in_time_stays
