use Rattle.rebuild_model.proofs.RebuiltStreams.{rebuilt_is_what_is_reached}
use Rattle.rebuild_model.proofs.rebuilding_laws.rebuilt_is_what_is_reached.Goals as goal

pub returns : goal.returns
returns c = rebuilt_is_what_is_reached
