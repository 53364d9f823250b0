use Rattle.wire_model.proofs.FramingLaws.{frames_are_computed}
use Rattle.wire_model.proofs.laws.frames_are_computed.Goals as goal

pub returns : goal.returns
returns c = frames_are_computed
