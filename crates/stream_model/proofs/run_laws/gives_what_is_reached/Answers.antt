use Rattle.stream_model.proofs.ReceiverLaws.{gives_what_is_reached}
use Rattle.stream_model.proofs.run_laws.gives_what_is_reached.Goals as goal

pub returns : goal.returns
returns c = gives_what_is_reached
