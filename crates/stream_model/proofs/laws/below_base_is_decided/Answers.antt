use Rattle.stream_model.proofs.Decided.{below_base_is_decided}
use Rattle.stream_model.proofs.laws.below_base_is_decided.Goals as goal

pub returns : goal.returns
returns c = below_base_is_decided
