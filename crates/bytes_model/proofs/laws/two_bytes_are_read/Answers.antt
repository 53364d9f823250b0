use Rattle.bytes_model.proofs.Numbers.{two_read}
use Rattle.bytes_model.proofs.laws.two_bytes_are_read.Goals as goal

pub returns : goal.returns
returns c = two_read
