use Rattle.stream_model.proofs.Drains.{kept_is_near}
use Rattle.stream_model.proofs.receiver_laws.kept_is_near.Goals as goal

pub returns : goal.returns
returns c = kept_is_near
