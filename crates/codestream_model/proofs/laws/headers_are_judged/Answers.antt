use Rattle.codestream_model.proofs.HeaderJudged.{headers_are_judged}
use Rattle.codestream_model.proofs.laws.headers_are_judged.Goals as goal

pub returns : goal.returns
returns c = headers_are_judged
