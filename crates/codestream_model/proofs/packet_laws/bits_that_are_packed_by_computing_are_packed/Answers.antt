use Rattle.codestream_model.proofs.PackingLemmas.{packing_packs}
use Rattle.codestream_model.proofs.packet_laws.bits_that_are_packed_by_computing_are_packed.Goals as goal

pub returns : goal.returns
returns c = packing_packs
