use Rattle.wire_model.proofs.FramingLaws.{bytes_split}
use Rattle.wire_model.proofs.laws.bytes_split.Goals as goal

pub returns : goal.returns
returns c = bytes_split
