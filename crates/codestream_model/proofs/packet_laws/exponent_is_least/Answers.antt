use Rattle.codestream_model.proofs.ExponentLemmas.{exponent_is_least}
use Rattle.codestream_model.proofs.packet_laws.exponent_is_least.Goals as goal

pub returns : goal.returns
returns c = exponent_is_least
