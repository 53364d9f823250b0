use Rattle.stream_model.proofs.PacketsFound.{found_is}
use Rattle.stream_model.proofs.receiver_laws.found_is_what_stands.Goals as goal

pub returns : goal.returns
returns c = found_is
