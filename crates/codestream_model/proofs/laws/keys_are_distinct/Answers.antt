use Rattle.codestream_model.proofs.Anchors.{keys_are_distinct}
use Rattle.codestream_model.proofs.laws.keys_are_distinct.Goals as goal

pub returns : goal.returns
returns c = keys_are_distinct
