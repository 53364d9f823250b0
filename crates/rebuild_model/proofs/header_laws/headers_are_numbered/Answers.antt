use Rattle.rebuild_model.proofs.Numbered.{headers_are_numbered}
use Rattle.rebuild_model.proofs.header_laws.headers_are_numbered.Goals as goal

pub returns : goal.returns
returns c = headers_are_numbered
