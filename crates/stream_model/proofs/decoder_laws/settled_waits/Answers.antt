use Rattle.stream_model.proofs.Settles.{settled_waits}
use Rattle.stream_model.proofs.decoder_laws.settled_waits.Goals as goal

pub returns : goal.returns
returns c = settled_waits
