use Rattle.stream_model.proofs.Listed.{in_time_is_listed}
use Rattle.stream_model.proofs.laws.in_time_is_listed.Goals as goal

pub returns : goal.returns
returns c = in_time_is_listed
