use Rattle.codestream_model.proofs.FaultsStay.{one_frame_more}
use Rattle.codestream_model.proofs.item_laws.one_frame_more_is_a_fault.Goals as goal

pub returns : goal.returns
returns c = one_frame_more
