use Rattle.rebuild_model.proofs.BuiltAccepted.{built_is_accepted}
use Rattle.rebuild_model.proofs.rebuilding_laws.built_is_accepted.Goals as goal

pub returns : goal.returns
returns c = built_is_accepted
