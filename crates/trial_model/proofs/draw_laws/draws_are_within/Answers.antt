use Rattle.trial_model.proofs.Drawing.{draws_are_within}
use Rattle.trial_model.proofs.draw_laws.draws_are_within.Goals as goal

pub returns : goal.returns
returns c = draws_are_within
