-- No bits stand in no bytes.
use Rattle.std.proofs.Common.{refl, arith}
use Rattle.stuffed_bits.specs.Carried.{last_from}
use Rattle.stuffed_bits.proofs.CarriedLemmas.{none_carried}
use Rattle.stuffed_bits.proofs.bit_writer.BitWriter.new.Goals as goal

pub returns-clause-none : goal.returns-clause-none
unfolding last_from
returns-clause-none c = λ buf. record { within = omega arith; last = refl; holds = none_carried }
