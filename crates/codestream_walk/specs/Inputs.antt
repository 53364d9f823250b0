-- A reader that has given bytes of an input is after whole codestreams and a part of one more. What it answers then is what the
-- definitions say of the whole input.
use Rattle.std.specs.Prelude.{◌≡◌, ◌≤◌, ◌<◌, ◌⊎◌, ◌+◌, ◌++◌, ℕ, List, [], ◌∷◌, length, Option}
use Rattle.std.specs.List.{AllByRecursion}
use Rattle.codestream_model.specs.Values.{Head, Place, Block}
use Rattle.codestream_model.specs.Packet.{SpellsPacketHeader, HasFewBlocks, segment_bytes}
use Rattle.codestream_model.specs.Codestream.{WalkRefusal, Cut, InputTooLong, TooManyFrames, IsCodestream, joined, BeginsCodestream, Faults, IsInput}
use Rattle.codestream_walk.specs.InHand.{input_limit}
use Rattle.codestream_walk.specs.Walking.{Stage, AtStart, AtNext, InBody, AtEnd, Walking, Seen, reach, Wants, Refuses}
use Rattle.codestream_walk.specs.Reading.{Gives, IsBetween, IsFull}
use Rattle.codestream_walk.specs.declared.fault.PieceOut.{PieceOut}

-- The bytes are a main header, packets, and of the packet of this precinct the header and the segments but for the last `left` bytes.
pub record BeginsBody (h : Head) (p : Place) (blocks : List Block) (later : List Place) (left : ℕ) (bytes : List ℕ) : Type 0 where
  pub at : ℕ
  pub before : List ℕ
  pub header : List ℕ
  pub part : List ℕ
  pub begins : BeginsCodestream h (p ∷ later) at [] before
  pub few_blocks : HasFewBlocks h p
  pub is_header : SpellsPacketHeader h p blocks header
  pub some : 1 ≤ left
  pub segments : length part + left ≡ segment_bytes blocks
  pub fits : length header + segment_bytes blocks ≤ 16777216
  pub whole : bytes ≡ before ++ (header ++ part)

-- At this stage these bytes of the codestream begun last were given.
abbrev pub IsGiven : Stage → List ℕ → Type 0
IsGiven AtStart front = front ≡ []
IsGiven (AtNext h later size) front = BeginsCodestream h later size [] front
IsGiven (InBody h p blocks later size left) front = (size ≡ length front) × BeginsBody h p blocks later left front
IsGiven AtEnd front = ⊥

-- The bytes `consumed` of an input were given: whole codestreams and a part of one more.
pub record WereGiven (consumed : List ℕ) (w : Walking) : Type 0 where
  pub codestreams : List (List ℕ)
  pub front : List ℕ
  pub whole : consumed ≡ joined codestreams ++ front
  pub each : AllByRecursion IsCodestream codestreams
  pub count : w.codestreams ≡ length codestreams
  pub few : w.codestreams ≤ 65536
  pub room : (front ≡ []) ⊎ (w.codestreams < 65536)
  pub offset : w.offset ≡ length consumed
  pub given : IsGiven w.stage front

-- What a step gives is added to the bytes that were given.
abbrev pub PiecesAddUp : Type 0
PiecesAddUp =
    (answer : PieceOut) (consumed : List ℕ) (w : Walking) (before : Option Head) (v : Seen)
    → WereGiven consumed w → Gives answer w before v → WereGiven (consumed ++ v.given) v.walk ⊎ (v.walk.stage ≡ AtEnd)

-- What a reader refuses is the first fault of the input, whatever bytes follow.
abbrev pub RefusalIsFault : Type 0
RefusalIsFault =
    (consumed more : List ℕ) (w : Walking) (at : ℕ) (why : WalkRefusal)
    → WereGiven consumed w → reach w ≤ input_limit → Refuses w at why → Faults (consumed ++ (w.hand ++ more)) at why

-- Where the input is over and a codestream may begin, it is whole codestreams.
abbrev pub EndIsInput : Type 0
EndIsInput =
    (consumed : List ℕ) (w : Walking)
    → WereGiven consumed w → reach w ≤ input_limit → IsBetween w
    → (codestreams : List (List ℕ)) × IsInput (consumed ++ w.hand) codestreams

-- Where the input is over and more bytes are wanted inside a codestream, it is cut.
abbrev pub EndIsCut : Type 0
EndIsCut =
    (consumed : List ℕ) (w : Walking)
    → WereGiven consumed w → reach w ≤ input_limit → Wants w → (IsBetween w → ⊥) → Faults (consumed ++ w.hand) (reach w) Cut

-- Where all bytes that may be read were, more are wanted and more are there, the input is too long,
-- unless it has 65,536 whole codestreams.
abbrev pub LimitIsFault : Type 0
LimitIsFault =
    (consumed more : List ℕ) (w : Walking)
    → WereGiven consumed w → reach w ≡ input_limit → Wants w → 1 ≤ length more → (IsFull w → ⊥)
    → Faults (consumed ++ (w.hand ++ more)) input_limit InputTooLong

-- Where 65,536 whole codestreams take all bytes that may be read and more are there, there is one codestream too many.
abbrev pub LimitIsFull : Type 0
LimitIsFull =
    (consumed more : List ℕ) (w : Walking)
    → WereGiven consumed w → reach w ≡ input_limit → Wants w → 1 ≤ length more → IsFull w
    → Faults (consumed ++ (w.hand ++ more)) input_limit TooManyFrames

-- Bytes in hand that fix no answer fix none of a step's answers.
abbrev pub WantsFixNothing : Type 0
WantsFixNothing =
    (answer : PieceOut) (w : Walking) (before : Option Head) (v : Seen) → Wants w → Gives answer w before v → ⊥
