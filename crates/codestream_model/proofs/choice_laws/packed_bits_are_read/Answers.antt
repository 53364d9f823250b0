use Rattle.codestream_model.proofs.BrokenLemmas.{packed_bits_are_read}
use Rattle.codestream_model.proofs.choice_laws.packed_bits_are_read.Goals as goal

pub returns : goal.returns
returns c = packed_bits_are_read
