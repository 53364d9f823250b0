-- The state of a writer of bits.
use Rattle.std.specs.Prelude.{ℕ}

-- The state of a writer of bits: how many bytes were begun; the last of them, or 0; and how many of its bits, the lowest ones,
-- are free.
pub record BitWriterState : Type 0 where
  pub len : ℕ
  pub last : ℕ
  pub free : ℕ

-- The state before the first bit.
abbrev pub no_bit : BitWriterState
no_bit = record { len = 0; last = 0; free = 0 }
