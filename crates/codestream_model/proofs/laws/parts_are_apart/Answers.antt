use Rattle.codestream_model.proofs.BandParts.{parts_are_apart}
use Rattle.codestream_model.proofs.laws.parts_are_apart.Goals as goal

pub returns : goal.returns
returns c = parts_are_apart
