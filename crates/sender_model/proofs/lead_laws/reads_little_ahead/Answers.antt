use Rattle.sender_model.proofs.Ahead.{reads_little_ahead}
use Rattle.sender_model.proofs.lead_laws.reads_little_ahead.Goals as goal

pub returns : goal.returns
returns c = reads_little_ahead
