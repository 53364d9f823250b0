use Rattle.trial_model.proofs.Trials.{trial_counts_what_is_received}
use Rattle.trial_model.proofs.trial_laws.trial_counts_what_is_received.Goals as goal

pub returns : goal.returns
returns c = trial_counts_what_is_received
