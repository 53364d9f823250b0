use Rattle.rebuild_model.proofs.Rebuilt.{rebuilt_grows}
use Rattle.rebuild_model.proofs.rebuilding_laws.rebuilt_grows.Goals as goal

pub returns : goal.returns
returns c = rebuilt_grows
