use Rattle.codestream_model.proofs.CodestreamsJudged.{codestreams_judged}
use Rattle.codestream_model.proofs.codestream_laws.codestreams_are_judged.Goals as goal

pub returns : goal.returns
returns c = codestreams_judged
