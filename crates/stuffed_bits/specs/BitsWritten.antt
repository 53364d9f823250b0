-- What a writer of bits has written, and how far bits reach.
use Rattle.std.specs.Prelude.{◌≡◌, ◌<◌, ◌≤◌, ◌↔◌, ◌+◌, ◌-◌, ◌*◌, ◌^◌, ◌==◌, ◌++◌, ℕ, Bool, false, List, [], ◌∷◌, length, take, replicate, Result, IsErr, if◌then◌else◌}
use Rattle.codestream_model.specs.Bytes.{bit}
use Rattle.codestream_model.specs.StuffedBits.{width_after, packing, bytes_of_bits}
use Rattle.stuffed_bits.specs.Carried.{Carries, last_from}
use Rattle.stuffed_bits.specs.BitWriterState.{BitWriterState}
use Rattle.stuffed_bits.specs.declared.bit_writer.Full.{Full}

-- A writer was given these bits: the first bytes of the buffer carry them, and after them the free bits, which are 0.
pub record HasWritten (bits : List Bool) (buf : List ℕ) (w : BitWriterState) : Type 0 where
  pub within : w.len ≤ length buf
  pub last : w.last ≡ last_from 0 (take w.len buf)
  pub holds : Carries bits (replicate w.free false) (take w.len buf)

-- The number of bytes that bits reach into, without the one that closes them after FF.
abbrev pub reach : List Bool → ℕ
reach bits = bytes_of_bits 0 (length bits) (packing bits)

-- The state where one byte more was begun.
abbrev pub begun : BitWriterState → BitWriterState
begun w = record { len = w.len + 1; last = 0; free = width_after w.last }

-- The state in which the next bit is filled: in the last byte, or in one byte more.
abbrev pub opened : BitWriterState → BitWriterState
opened w = if w.free == 0 then begun w else w

-- The state where one bit more of the last byte was filled.
abbrev pub filled : Bool → BitWriterState → BitWriterState
filled b w = record { len = w.len; last = w.last + bit b * 2 ^ (w.free - 1); free = w.free - 1 }

-- The state where one bit more was written.
abbrev pub added : Bool → BitWriterState → BitWriterState
added b w = filled b (opened w)

-- A call writes one bit after all that were written.
abbrev pub WritesBit : Bool → BitWriterState → BitWriterState → List ℕ → List ℕ → Type 0
WritesBit b old new before after = (bits : List Bool) → HasWritten bits before old → HasWritten (bits ++ b ∷ []) after new

-- A call for one bit fails exactly where the bits so far and this one reach past the buffer.
abbrev pub IsFullFor : {A : Type 0} → Bool → BitWriterState → List ℕ → Result A Full → Type 0
IsFullFor b old buf out = (bits : List Bool) → HasWritten bits buf old → IsErr out ↔ (length buf < reach (bits ++ b ∷ []))

-- The first `n` bytes of a buffer are the packing of the bits that were written.
abbrev pub ArePacked : BitWriterState → List ℕ → List ℕ → ℕ → Type 0
ArePacked old before after n = (bits : List Bool) → HasWritten bits before old → take n after ≡ packing bits

-- Closing the bits fails exactly where their packing is longer than the buffer.
abbrev pub IsFullAtEnd : {A : Type 0} → BitWriterState → List ℕ → Result A Full → Type 0
IsFullAtEnd old buf out = (bits : List Bool) → HasWritten bits buf old → IsErr out ↔ (length buf < length (packing bits))
