use Rattle.rebuild_model.proofs.Stripped.{stripped_is_head}
use Rattle.rebuild_model.proofs.stripping_laws.stripped_is_head.Goals as goal

pub returns : goal.returns
returns c = stripped_is_head
