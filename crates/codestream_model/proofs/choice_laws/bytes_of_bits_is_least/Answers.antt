use Rattle.codestream_model.proofs.ReachLemmas.{bytes_of_bits_is_least}
use Rattle.codestream_model.proofs.choice_laws.bytes_of_bits_is_least.Goals as goal

pub returns : goal.returns
returns c = bytes_of_bits_is_least
