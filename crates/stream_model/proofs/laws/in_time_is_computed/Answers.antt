use Rattle.stream_model.proofs.InOrder.{in_time_is_computed}
use Rattle.stream_model.proofs.laws.in_time_is_computed.Goals as goal

pub returns : goal.returns
returns c = in_time_is_computed
