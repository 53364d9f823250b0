use Rattle.codestream_walk.proofs.Verdicts.{wants_fix_nothing}
use Rattle.codestream_walk.proofs.laws.wants_fix_nothing.Goals as goal

pub returns : goal.returns
returns c = wants_fix_nothing
