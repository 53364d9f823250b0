use Rattle.codestream_model.proofs.PackingLemmas.{packed_are_carried}
use Rattle.codestream_model.proofs.packet_laws.packed_bits_are_carried.Goals as goal

pub returns : goal.returns
returns c = packed_are_carried
