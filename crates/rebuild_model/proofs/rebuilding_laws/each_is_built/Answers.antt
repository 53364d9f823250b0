use Rattle.rebuild_model.proofs.BuiltCodestreams.{each_is_built}
use Rattle.rebuild_model.proofs.rebuilding_laws.each_is_built.Goals as goal

pub returns : goal.returns
returns c = each_is_built
