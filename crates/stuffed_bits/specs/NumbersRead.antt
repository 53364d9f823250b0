-- What a reader of bits answers where a number of several bits is read.
use Rattle.std.specs.Prelude.{◌≡◌, ◌++◌, ◌-◌, ◌/◌, ◌%◌, ◌^◌, ℕ, Bool, List, length, drop, nat_le, Option, Result, Ok, Err, if◌then◌else◌}
use Rattle.std.specs.List.{slice_range}
use Rattle.codestream_model.specs.StuffedBits.{BitRun, number_bits, number_of, packed_bits}
use Rattle.stuffed_bits.specs.BitInState.{BitInState}
use Rattle.stuffed_bits.specs.BitsRead.{HasRead, stop_by}
use Rattle.stuffed_bits.specs.declared.stop.Stop.{Stop}

-- The answer to a number of `width` bits where these bits and no others are left.
abbrev pub number_by : ℕ → List Bool → Option ℕ → Result ℕ Stop
number_by width bits broken_at = if nat_le width (length bits) then Ok (number_of width bits) else Err (stop_by broken_at)

-- The answer to a number of `width` bits after these bits of a run.
abbrev pub number_after : ℕ → List Bool → BitRun → Result ℕ Stop
number_after width bits run = number_by width (drop (length bits) run.bits) run.broken_at

-- The number that the first `count` of the `left` lowest bits of a byte spell.
abbrev pub high_part : ℕ → ℕ → ℕ → ℕ
high_part count left byte = byte / 2 ^ (left - count) % 2 ^ count

-- A call answers a number by the bits that follow those that were given, whatever these are.
abbrev pub AnswersNumber : ℕ → BitInState → List ℕ → ℕ → Result ℕ Stop → Type 0
AnswersNumber width old piece at out =
    (bits : List Bool) (bytes : List ℕ) → HasRead bits bytes old → out ≡ number_after width bits (packed_bits (bytes ++ drop at piece))

-- Where a number is answered, its bits were given.
abbrev pub GivesNumber : ℕ → BitInState → BitInState → List ℕ → ℕ → ℕ → Result ℕ Stop → Type 0
GivesNumber width old new piece at end out =
    (n : ℕ) → out ≡ Ok n → (bits : List Bool) (bytes : List ℕ) → HasRead bits bytes old → HasRead (bits ++ number_bits width n) (bytes ++ slice_range piece at end) new
