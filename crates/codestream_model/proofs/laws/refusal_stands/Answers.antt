use Rattle.codestream_model.proofs.Standing.{refusal_stands}
use Rattle.codestream_model.proofs.laws.refusal_stands.Goals as goal

pub returns : goal.returns
returns c = refusal_stands
