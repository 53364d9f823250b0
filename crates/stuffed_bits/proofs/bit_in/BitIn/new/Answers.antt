-- No bits stand in no bytes.
use Rattle.std.proofs.Common.{refl}
use Rattle.stuffed_bits.proofs.CarriedLemmas.{none_carried}
use Rattle.stuffed_bits.proofs.bit_in.BitIn.new.Goals as goal
use Rattle.codestream_model.specs.StuffedBits.{number_bits}

pub returns-clause-gives : goal.returns-clause-gives
unfolding number_bits
returns-clause-gives c = record { drawn = record { last = refl; holds = none_carried } }
