-- What a reader of bits answers where a run of equal bits is read.
use Rattle.std.specs.Prelude.{◌≡◌, ◌<◌, ◌≤◌, ◌⊎◌, ◌-◌, ◌%◌, ◌^◌, ◌++◌, ℕ, Bool, not, List, [], ◌∷◌, length, drop, replicate, nat_lt, Option, Result, Ok, Err, if◌then◌else◌}
use Rattle.std.specs.List.{slice_range}
use Rattle.codestream_model.specs.StuffedBits.{BitRun, packed_bits}
use Rattle.stuffed_bits.specs.BitInState.{BitInState}
use Rattle.stuffed_bits.specs.BitsRead.{HasRead, HasBegun, HasDrawn, stop_by}
use Rattle.stuffed_bits.specs.declared.stop.Stop.{Stop}
use Rattle.stuffed_bits.specs.declared.runs.RunPart.{RunPart}
use Rattle.stuffed_bits.specs.declared.runs.RunPart.TheVariants as part

-- A run of `n` bits of one kind, and where they are fewer than the most, the bit of the other kind that ends it.
abbrev pub run_bits : Bool → ℕ → ℕ → List Bool
run_bits of most n = replicate n of ++ (if nat_lt n most then not of ∷ [] else [])

-- These bits are of one kind, and fewer than the most.
abbrev pub IsShort : Bool → ℕ → List Bool → Type 0
IsShort of most bits = (n : ℕ) × (n < most) × (bits ≡ replicate n of)

-- The answer where these bits are left: how many of this kind come first, up to the most. Where they are fewer than the most
-- and no bit follows, the reader stops.
abbrev pub IsRun : Bool → ℕ → List Bool → Option ℕ → Result ℕ Stop → Type 0
IsRun of most bits broken_at (Ok n) = (n ≤ most) × ((rest : List Bool) × (bits ≡ run_bits of most n ++ rest))
IsRun of most bits broken_at (Err stopped) = IsShort of most bits × (stopped ≡ stop_by broken_at)

-- The answer to a run after these bits of all that are carried.
abbrev pub IsRunAfter : Bool → ℕ → List Bool → BitRun → Result ℕ Stop → Type 0
IsRunAfter of most bits run out = IsRun of most (drop (length bits) run.bits) run.broken_at out

-- `n` bits of this kind come first, and no further one follows them.
abbrev pub BeginsWith : Bool → ℕ → List Bool → Type 0
BeginsWith of n bits = (bits ≡ replicate n of) ⊎ ((rest : List Bool) × (bits ≡ replicate n of ++ not of ∷ rest))

-- The `left` lowest bits of a byte as a number with a 1 for each bit that isn't of this kind.
abbrev pub others_in : Bool → ℕ → ℕ → ℕ
others_in of left byte = if of then 2 ^ left - 1 - byte % 2 ^ left else byte % 2 ^ left

-- The bits that a part of a run has.
abbrev pub run_part_bits : Bool → RunPart → List Bool
run_part_bits of (part.Ended n) = replicate n of ++ not of ∷ []
run_part_bits of (part.Whole n) = replicate n of

-- A part of a run of which this many bits are wanted.
abbrev pub IsRunPartOf : ℕ → RunPart → Type 0
IsRunPartOf wanted (part.Ended n) = n < wanted
IsRunPartOf wanted (part.Whole n) = (0 < n) × (n ≤ wanted)

-- A part of a run was read of the last byte, whatever was read before.
abbrev pub DrawsPart : Bool → BitInState → BitInState → RunPart → Type 0
DrawsPart of old new out = (bits : List Bool) (bytes : List ℕ) → HasBegun bits bytes old → HasDrawn (bits ++ run_part_bits of out) bytes new

-- A call answers a run by the bits that follow those that were given, whatever these are.
abbrev pub AnswersRun : Bool → ℕ → BitInState → List ℕ → ℕ → Result ℕ Stop → Type 0
AnswersRun of most old piece at out =
    (bits : List Bool) (bytes : List ℕ) → HasRead bits bytes old → IsRunAfter of most bits (packed_bits (bytes ++ drop at piece)) out

-- Where a run is answered, its bits and the one that ends it were given.
abbrev pub GivesRun : Bool → ℕ → BitInState → BitInState → List ℕ → ℕ → ℕ → Result ℕ Stop → Type 0
GivesRun of most old new piece at end out =
    (n : ℕ) → out ≡ Ok n → (bits : List Bool) (bytes : List ℕ) → HasRead bits bytes old → HasRead (bits ++ run_bits of most n) (bytes ++ slice_range piece at end) new
