use Rattle.trial_model.proofs.Trials.{delivered_are_within}
use Rattle.trial_model.proofs.trial_laws.delivered_are_within.Goals as goal

pub returns : goal.returns
returns c = delivered_are_within
