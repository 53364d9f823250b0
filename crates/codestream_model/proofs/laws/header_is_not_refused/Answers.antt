use Rattle.codestream_model.proofs.HeaderJudged.{header_is_not_refused}
use Rattle.codestream_model.proofs.laws.header_is_not_refused.Goals as goal

pub returns : goal.returns
returns c = header_is_not_refused
