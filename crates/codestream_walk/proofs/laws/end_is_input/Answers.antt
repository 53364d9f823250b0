use Rattle.codestream_walk.proofs.Refusals.{end_is_input}
use Rattle.codestream_walk.proofs.laws.end_is_input.Goals as goal

pub returns : goal.returns
returns c = end_is_input
