use Rattle.stream_model.proofs.Bases.{base-le-append}
use Rattle.stream_model.proofs.laws.base_never_falls.Goals as goal

pub returns : goal.returns
returns c = base-le-append
