-- What a reader of bits has read, and what it answers.
use Rattle.std.specs.Prelude.{◌≡◌, ◌/◌, ◌%◌, ◌-◌, ◌^◌, ◌==◌, ◌&&◌, ℕ, Bool, List, [], ◌∷◌, length, take, drop, ◌++◌, nat_le, Option, Some, None, Result, Ok, Err, if◌then◌else◌}
use Rattle.std.specs.List.{slice_range}
use Rattle.codestream_model.specs.StuffedBits.{BitRun, Packs, number_bits, packed_bits}
use Rattle.stuffed_bits.specs.Carried.{Carries, Begun, last_of, before_next}
use Rattle.stuffed_bits.specs.BitInState.{BitInState, part_bits}
use Rattle.stuffed_bits.specs.declared.stop.Stop.{Stop}
use Rattle.stuffed_bits.specs.declared.stop.Stop.TheVariants.{Need, Stuffed}

-- A reader has read these bits, of these bytes that it has taken: its state has the last of the bytes, and how many bits of it
-- weren't read.
pub record HasDrawn (bits : List Bool) (bytes : List ℕ) (h : BitInState) : Type 0 where
  pub last : h.last ≡ last_of bytes
  pub holds : Carries bits (number_bits h.left (before_next h.last)) bytes

-- A reader has given these bits of these bytes: it has read them, and after them the bits that it keeps of a value.
pub record HasRead (bits : List Bool) (bytes : List ℕ) (h : BitInState) : Type 0 where
  pub drawn : HasDrawn (bits ++ part_bits h.part) bytes h

-- The same as `HasDrawn`, of a reader that may have taken the last byte for none of these bits.
pub record HasBegun (bits : List Bool) (bytes : List ℕ) (h : BitInState) : Type 0 where
  pub last : h.last ≡ last_of bytes
  pub begun : Begun bits (number_bits h.left (before_next h.last)) bytes

-- What stops a reader that needs a bit more than there is, by where the stuffing is broken, if it is.
abbrev pub stop_by : Option ℕ → Stop
stop_by None = Need
stop_by (Some place) = Stuffed

-- The bits that an answer to one bit gives.
abbrev pub given : Result Bool Stop → List Bool
given (Ok b) = b ∷ []
given (Err stopped) = []

-- The answer where these bits and no others are left, by where the stuffing is broken after them.
abbrev pub answer_by : List Bool → Option ℕ → Result Bool Stop
answer_by (b ∷ bits) broken_at = Ok b
answer_by [] broken_at = Err (stop_by broken_at)

-- The answer to one bit after these bits of a run.
abbrev pub answer_after : List Bool → BitRun → Result Bool Stop
answer_after bits run = answer_by (drop (length bits) run.bits) run.broken_at

-- The answer to closing bits whose last byte is FF, by the bytes that follow.
abbrev pub closing_by : List ℕ → Result (Unit {0}) Stop
closing_by [] = Err Need
closing_by (b ∷ more) = if nat_le 128 b then Err Stuffed else Ok tt

-- The answer to closing bits, by their last byte and the bytes that follow it.
abbrev pub closing_answer : ℕ → List ℕ → Result (Unit {0}) Stop
closing_answer last rest = if last == 255 then closing_by rest else Ok tt

-- The next of these bytes, by the byte before them.
abbrev pub next_of : ℕ → List ℕ → Result ℕ Stop
next_of before [] = Err Need
next_of before (b ∷ more) = if (before == 255) && nat_le 128 b then Err Stuffed else Ok b

-- The first bit of the last byte that wasn't read.
abbrev pub first_unread : BitInState → Bool
first_unread h = before_next h.last / 2 ^ (h.left - 1) % 2 == 1

-- Where no byte can be taken, the answer to a bit is the same stop.
abbrev pub IsEndBy : Result Bool Stop → Result (Unit {0}) Stop → Type 0
IsEndBy answer (Ok taken) = Unit {0}
IsEndBy answer (Err stopped) = answer ≡ Err stopped

-- The same of a reader that goes on at an index of a piece, whatever it has read.
abbrev pub IsEndAt : BitInState → List ℕ → ℕ → Result (Unit {0}) Stop → Type 0
IsEndAt old piece at out =
    (bits : List Bool) (bytes : List ℕ) → HasDrawn bits bytes old → IsEndBy (answer_after bits (packed_bits (bytes ++ drop at piece))) out

-- A call takes the bytes of a piece between two indices, the last of which may carry none of the bits that were read.
abbrev pub Begins : BitInState → BitInState → List ℕ → ℕ → ℕ → Type 0
Begins old new piece at end = (bits : List Bool) (bytes : List ℕ) → HasDrawn bits bytes old → HasBegun bits (bytes ++ slice_range piece at end) new

-- A call answers a bit by those that follow the ones that were given, whatever these are.
abbrev pub AnswersBit : BitInState → List ℕ → ℕ → Result Bool Stop → Type 0
AnswersBit old piece at out = (bits : List Bool) (bytes : List ℕ) → HasRead bits bytes old → out ≡ answer_after bits (packed_bits (bytes ++ drop at piece))

-- The bit that is answered was given; none otherwise.
abbrev pub GivesBit : BitInState → BitInState → List ℕ → ℕ → ℕ → Result Bool Stop → Type 0
GivesBit old new piece at end out = (bits : List Bool) (bytes : List ℕ) → HasRead bits bytes old → HasRead (bits ++ given out) (bytes ++ slice_range piece at end) new

-- No bit was given by a call that takes these bytes: those that were read of a value are kept.
abbrev pub Keeps : BitInState → BitInState → List ℕ → ℕ → ℕ → Type 0
Keeps old new piece at end = (bits : List Bool) (bytes : List ℕ) → HasRead bits bytes old → HasRead bits (bytes ++ slice_range piece at end) new

-- All bits that were given are packed in the bytes that were taken.
abbrev pub PacksAll : BitInState → List ℕ → ℕ → ℕ → Type 0
PacksAll old piece at end = (bits : List Bool) (bytes : List ℕ) → HasRead bits bytes old → Packs bits (bytes ++ slice_range piece at end)

-- Where some of the bytes that follow complete bytes that pack the bits, these are closed.
abbrev pub IsOnlyClosing : BitInState → List ℕ → ℕ → Result (Unit {0}) Stop → Type 0
IsOnlyClosing old piece at out =
    (bits : List Bool) (bytes : List ℕ) (n : ℕ) → HasRead bits bytes old → Packs bits (bytes ++ take n (drop at piece)) → out ≡ Ok tt
