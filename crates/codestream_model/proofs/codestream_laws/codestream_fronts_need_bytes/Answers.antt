use Rattle.codestream_model.proofs.Stays.{codestream_fronts_need_bytes}
use Rattle.codestream_model.proofs.codestream_laws.codestream_fronts_need_bytes.Goals as goal

pub returns : goal.returns
returns c = codestream_fronts_need_bytes
