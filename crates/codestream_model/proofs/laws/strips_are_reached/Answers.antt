use Rattle.codestream_model.proofs.StripLaws.{strips_are_reached}
use Rattle.codestream_model.proofs.laws.strips_are_reached.Goals as goal

pub returns : goal.returns
returns c = strips_are_reached
