use Rattle.codestream_walk.proofs.Refusals.{limit_is_full}
use Rattle.codestream_walk.proofs.laws.limit_is_full.Goals as goal

pub returns : goal.returns
returns c = limit_is_full
