use Rattle.codestream_model.proofs.InputLimits.{one_byte_more}
use Rattle.codestream_model.proofs.item_laws.one_byte_more_is_a_fault.Goals as goal

pub returns : goal.returns
returns c = one_byte_more
