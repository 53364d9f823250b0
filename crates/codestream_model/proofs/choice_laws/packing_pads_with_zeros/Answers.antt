use Rattle.codestream_model.proofs.PadLemmas.{packing_pads_with_zeros}
use Rattle.codestream_model.proofs.choice_laws.packing_pads_with_zeros.Goals as goal

pub returns : goal.returns
returns c = packing_pads_with_zeros
