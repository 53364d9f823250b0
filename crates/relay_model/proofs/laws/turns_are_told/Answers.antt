use Rattle.relay_model.proofs.Tales.{turns_told}
use Rattle.relay_model.proofs.laws.turns_are_told.Goals as goal

pub returns : goal.returns
returns c = turns_told
