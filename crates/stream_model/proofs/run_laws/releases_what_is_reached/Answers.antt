use Rattle.stream_model.proofs.ReceiverLaws.{releases_what_is_reached}
use Rattle.stream_model.proofs.run_laws.releases_what_is_reached.Goals as goal

pub returns : goal.returns
returns c = releases_what_is_reached
