-- What is answered where the bits of a header are closed.
use Rattle.std.specs.Prelude.{◌≡◌, ◌<◌, ◌+◌, ◌-◌, ◌==◌, ◌&&◌, ℕ, Bool, List, Result, Ok, Err, length, slice_index, nat_lt, if◌then◌else◌}
use Rattle.codestream_model.specs.StuffedBits.{packed_bits, bytes_of_bits}
use Rattle.packet_header.specs.Moves.{HasGiven, all_of}
use Rattle.packet_header.specs.Answers.{stop_at}
use Rattle.stuffed_bits.specs.declared.source.Source.{Source}
use Rattle.packet_header.specs.declared.refusal.HeaderStop.{HeaderStop}

-- The number of bytes that the bits reach into, and one more where the last of them is FF: it is there, with a top bit that is
-- 0, or else a byte is wanted.
abbrev pub closed_after : List ℕ → ℕ → Result ℕ HeaderStop
closed_after bytes used =
    if slice_index bytes (used - 1) == 255
    then (if nat_lt used (length bytes) && nat_lt (slice_index bytes used) 128 then Ok (used + 1) else Err (stop_at (packed_bits bytes).broken_at))
    else Ok used

-- An answer for the bytes of a piece, as one for all bytes, where this many came before the piece.
abbrev pub counted : ℕ → Result ℕ HeaderStop → Result ℕ HeaderStop
counted earlier (Ok used) = Ok (earlier + used)
counted earlier (Err stopped) = Err stopped

-- The bits that a source has given are closed, or what stops it, over all bytes that came.
abbrev pub Closes : List ℕ → List Bool → Source → Result ℕ HeaderStop → Type 0
Closes before done s answer = counted (length before) answer ≡ closed_after (all_of before s) (bytes_of_bits 0 (length done) (all_of before s))

-- A call closes the bits that were given, whatever came and was given before.
abbrev pub ClosesAll : Source → Result ℕ HeaderStop → Type 0
ClosesAll s answer = (before : List ℕ) (done : List Bool) → HasGiven before done s → 0 < length done → Closes before done s answer
