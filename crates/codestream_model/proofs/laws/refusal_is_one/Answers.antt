use Rattle.codestream_model.proofs.HeaderJudged.{refusal_is_one}
use Rattle.codestream_model.proofs.laws.refusal_is_one.Goals as goal

pub returns : goal.returns
returns c = refusal_is_one
