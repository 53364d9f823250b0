use Rattle.codestream_model.proofs.Standing.{header_stands}
use Rattle.codestream_model.proofs.laws.header_stands.Goals as goal

pub returns : goal.returns
returns c = header_stands
