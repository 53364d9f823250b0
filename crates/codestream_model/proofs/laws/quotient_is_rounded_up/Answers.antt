use Rattle.codestream_model.proofs.Anchors.{quotient_is_rounded_up}
use Rattle.codestream_model.proofs.laws.quotient_is_rounded_up.Goals as goal

pub returns : goal.returns
returns c = quotient_is_rounded_up
