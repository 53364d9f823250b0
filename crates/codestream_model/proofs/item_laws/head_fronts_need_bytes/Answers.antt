use Rattle.codestream_model.proofs.HeadFronts.{head_fronts_need_bytes}
use Rattle.codestream_model.proofs.item_laws.head_fronts_need_bytes.Goals as goal

pub returns : goal.returns
returns c = head_fronts_need_bytes
