use Rattle.relay_model.proofs.Tales.{flushes_told}
use Rattle.relay_model.proofs.laws.flushes_are_told.Goals as goal

pub returns : goal.returns
returns c = flushes_told
