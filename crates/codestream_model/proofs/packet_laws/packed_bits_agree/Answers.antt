use Rattle.codestream_model.proofs.OneWayLemmas.{packed_agree}
use Rattle.codestream_model.proofs.packet_laws.packed_bits_agree.Goals as goal

pub returns : goal.returns
returns c = packed_agree
