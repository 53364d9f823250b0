-- What a call makes of the bits that come: reading all of them is reading on from the bits after those that it took.
use Rattle.std.specs.Prelude.{◌≡◌, ◌≤◌, ◌++◌, ℕ, Bool, List, length, take, drop, Option, Result, Ok, Err}
use Rattle.codestream_model.specs.StuffedBits.{packed_bits}
use Rattle.codestream_model.specs.PacketHeaderReading.{Read, Got, AtEnd, Refused}
use Rattle.stuffed_bits.specs.BitsRead.{HasRead}
use Rattle.stuffed_bits.specs.RunsRead.{run_bits, IsShort}
use Rattle.packet_header.specs.Answers.{why_of, stop_at}
use Rattle.stuffed_bits.specs.declared.source.Source.{Source}
use Rattle.packet_header.specs.declared.refusal.HeaderStop.{HeaderStop}
use Rattle.packet_header.specs.declared.refusal.HeaderStop.TheVariants.{Need, Bad}

-- The bytes that were taken, where these came before those at hand.
abbrev pub taken_of : List ℕ → Source → List ℕ
taken_of before s = before ++ take s.at s.piece.now

-- A source has given these bits, where these bytes came before those at hand.
pub record HasGiven (before : List ℕ) (done : List Bool) (s : Source) : Type 0 where
  pub read : HasRead done (taken_of before s) s.bits

-- `all_of before s` is all bytes that came: those before the piece at hand, and that piece.
abbrev pub all_of : List ℕ → Source → List ℕ
all_of before s = before ++ s.piece.now

-- `after done all` is the bits of these bytes after those that were given.
abbrev pub bits_after : List Bool → List ℕ → List Bool
bits_after done all = drop (length done) (packed_bits all).bits

-- Some more bits were given. Whatever bits follow, `reading` of these and those is `after` of those that follow.
pub record Went {X : Type 0} (reading after : List Bool → Read X) (before : List ℕ) (done : List Bool) (new : Source) : Type 0 where
  pub more : List Bool
  pub holds : HasGiven before (done ++ more) new
  pub goes_on : (further : List Bool) → reading (more ++ further) ≡ after further

-- A reading of all bits that came stops for this reason: they end before it does, or they are refused.
abbrev pub IsStop : {X : Type 0} → Read X → Option ℕ → HeaderStop → Type 0
IsStop (Got x rest) broken_at stopped = ⊥
IsStop AtEnd broken_at stopped = stopped ≡ stop_at broken_at
IsStop (Refused why) broken_at stopped = stopped ≡ Bad (why_of why)

-- All of this piece was taken, and the reading goes on in a further one.
pub record Rests {X : Type 0} (reading after : List Bool → Read X) (before : List ℕ) (done : List Bool) (new : Source) : Type 0 where
  pub whole : new.at ≡ length new.piece.now
  pub went : Went reading after before done new

-- A call goes from one reading of the bits after these to another, or the reading stops.
abbrev pub Moved : {X Y : Type 0} → (List Bool → Read X) → (List Bool → Read X) → List ℕ → List Bool → Source → Source → Result Y HeaderStop → Type 0
Moved reading after before done old new (Ok y) = Went reading after before done new
Moved reading after before done old new (Err stopped) =
    IsStop (reading (bits_after done (all_of before old))) (packed_bits (all_of before old)).broken_at stopped × (stopped ≡ Need → Rests reading after before done new)

-- A call goes so from one reading to another, whatever bytes came and whatever bits were given before.
abbrev pub Moves : {X Y : Type 0} → (List Bool → Read X) → (List Bool → Read X) → Source → Source → Result Y HeaderStop → Type 0
Moves reading after old new out = (before : List ℕ) (done : List Bool) → HasGiven before done old → Moved reading after before done old new out

-- What is to be read after an answer: nothing but the value that was got, or the same as before.
abbrev pub behind_answer : {X : Type 0} → (List Bool → Read X) → Result X HeaderStop → List Bool → Read X
behind_answer reading (Ok x) further = Got x further
behind_answer reading (Err stopped) further = reading further

-- A call reads a value, or its reading stops.
abbrev pub Gets : {X : Type 0} → (List Bool → Read X) → Source → Source → Result X HeaderStop → Type 0
Gets reading old new out = Moves reading (behind_answer reading out) old new out

-- The answer is that a further piece is needed.
abbrev pub IsStopNeed : {X : Type 0} → Result X HeaderStop → Type 0
IsStopNeed (Ok x) = ⊥
IsStopNeed (Err stopped) = stopped ≡ Need

-- The answer is how many bits of this kind come first, up to the most; or the bits end before they do.
abbrev pub HasRun : Bool → ℕ → List ℕ → List Bool → Source → Source → Result ℕ HeaderStop → Type 0
HasRun of most before done old new (Ok n) =
    (n ≤ most) × HasGiven before (done ++ run_bits of most n) new × ((rest : List Bool) × (bits_after done (all_of before old) ≡ run_bits of most n ++ rest))
HasRun of most before done old new (Err stopped) =
    IsShort of most (bits_after done (all_of before old)) × (stopped ≡ stop_at (packed_bits (all_of before old)).broken_at) × (stopped ≡ Need → (new.at ≡ length new.piece.now) × HasGiven before done new)

-- A call reads a run of equal bits, whatever came and was given before.
abbrev pub GetsRun : Bool → ℕ → Source → Source → Result ℕ HeaderStop → Type 0
GetsRun of most old new out = (before : List ℕ) (done : List Bool) → HasGiven before done old → HasRun of most before done old new out
