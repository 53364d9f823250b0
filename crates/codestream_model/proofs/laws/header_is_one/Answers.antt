use Rattle.codestream_model.proofs.HeaderJudged.{header_is_one}
use Rattle.codestream_model.proofs.laws.header_is_one.Goals as goal

pub returns : goal.returns
returns c = header_is_one
