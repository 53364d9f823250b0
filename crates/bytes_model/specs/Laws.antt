-- What is promised of numbers in bytes.
use Rattle.std.specs.Prelude.{◌≡◌, ◌<◌, ◌^◌, ◌++◌, ℕ, List}
use Rattle.bytes_model.specs.Bytes.{two_bytes, four_bytes, two_at, four_at}

-- A number in two bytes is read back, whatever follows it.
abbrev pub TwoBytesAreRead : Type 0
TwoBytesAreRead = (n : ℕ) (more : List ℕ) → n < 2 ^ 16 → two_at (two_bytes n ++ more) 0 ≡ n

-- A number in four bytes is read back, whatever follows it.
abbrev pub FourBytesAreRead : Type 0
FourBytesAreRead = (n : ℕ) (more : List ℕ) → n < 2 ^ 32 → four_at (four_bytes n ++ more) 0 ≡ n
