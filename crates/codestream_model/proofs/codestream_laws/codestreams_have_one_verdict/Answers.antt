use Rattle.codestream_model.proofs.CodestreamsJudged.{codestream_verdict}
use Rattle.codestream_model.proofs.codestream_laws.codestreams_have_one_verdict.Goals as goal

pub returns : goal.returns
returns c = codestream_verdict
