-- Numbers in bytes are read back.
use Rattle.std.proofs.Common.{◌≡◌, ◌<◌, ◌^◌, ℕ, List, arith}
use Rattle.bytes_model.specs.Laws.{TwoBytesAreRead, FourBytesAreRead}

-- two bytes
pub two_read : TwoBytesAreRead
two_read n more fits = omega arith

-- four bytes
pub four_read : FourBytesAreRead
four_read n more fits = omega arith
