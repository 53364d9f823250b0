use Rattle.codestream_model.proofs.CodestreamsJudged.{one_codestream}
use Rattle.codestream_model.proofs.codestream_laws.codestreams_are_read_one_way.Goals as goal

pub returns : goal.returns
returns c = one_codestream
