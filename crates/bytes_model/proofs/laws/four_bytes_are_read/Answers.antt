use Rattle.bytes_model.proofs.Numbers.{four_read}
use Rattle.bytes_model.proofs.laws.four_bytes_are_read.Goals as goal

pub returns : goal.returns
returns c = four_read
