use Rattle.trial_model.proofs.SentTrials.{trials_can_be_sent}
use Rattle.trial_model.proofs.trial_laws.trials_can_be_sent.Goals as goal

pub returns : goal.returns
returns c = trials_can_be_sent
