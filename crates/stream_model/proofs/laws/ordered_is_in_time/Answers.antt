use Rattle.stream_model.proofs.InOrder.{ordered_is_in_time}
use Rattle.stream_model.proofs.laws.ordered_is_in_time.Goals as goal

pub returns : goal.returns
returns c = ordered_is_in_time
