use Rattle.stream_model.proofs.StreamShapes.{body_has_byte}
use Rattle.stream_model.proofs.laws.body_has_byte.Goals as goal

pub returns : goal.returns
returns c = body_has_byte
