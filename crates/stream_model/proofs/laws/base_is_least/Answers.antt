use Rattle.stream_model.proofs.Bases.{base_is_least}
use Rattle.stream_model.proofs.laws.base_is_least.Goals as goal

pub returns : goal.returns
returns c = base_is_least
