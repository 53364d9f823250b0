use Rattle.stream_model.proofs.ReachedWords.{reached_is_computed}
use Rattle.stream_model.proofs.laws.reached_is_computed.Goals as goal

pub returns : goal.returns
returns c = reached_is_computed
