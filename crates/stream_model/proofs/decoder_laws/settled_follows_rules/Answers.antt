use Rattle.stream_model.proofs.Settles.{settled_follows_rules}
use Rattle.stream_model.proofs.decoder_laws.settled_follows_rules.Goals as goal

pub returns : goal.returns
returns c = settled_follows_rules
