-- What a step of a reader of codestreams does, by the answer.
use Rattle.std.specs.Prelude.{◌≡◌, ◌<◌, ◌≤◌, ◌⊎◌, ◌++◌, ℕ, List, [], length, Option}
use Rattle.codestream_model.specs.Bytes.{IsBytes}
use Rattle.codestream_model.specs.Values.{Head}
use Rattle.scl_outside.specs.Meaning.{Meaning}
use Rattle.scl_outside.specs.Events.{Event}
use Rattle.scl_outside.specs.Effects.{Effects, nothing, only_read, read_to_end, read_until_failed, effects}
use Rattle.scl_outside.specs.Traces.{Trace, AtReads}
use Rattle.codestream_walk.specs.InHand.{input_limit}
use Rattle.codestream_walk.specs.Faults.{walk_refusal}
use Rattle.codestream_walk.specs.Walking.{AtStart, Walking, Seen, fed, reach, Wants, Refuses, GivesHead, GivesStart, GivesMore, GivesEoc, IsDone}
use Rattle.codestream_walk.specs.declared.fault.WalkWhy.TheVariants as reason
use Rattle.codestream_walk.specs.declared.fault.WalkFault.{WalkFault}
use Rattle.codestream_walk.specs.declared.fault.PieceOut.{PieceOut}
use Rattle.codestream_walk.specs.declared.fault.PieceOut.TheVariants as out
use Rattle.codestream_walk.specs.declared.fault.Judged.{Judged}
use Rattle.codestream_walk.specs.declared.fault.Judged.TheVariants as judged

-- The bytes in hand fix this answer; `before` is the main header that was shown.
abbrev pub Gives : PieceOut → Walking → Option Head → Seen → Type 0
Gives out.Head w before v = GivesHead w v
Gives out.Start w before v = GivesStart w before v
Gives out.More w before v = GivesMore w before v
Gives out.FrameEnd w before v = GivesEoc w before v
Gives (out.Refused fault) w before v = Refuses w fault.at (walk_refusal fault.why) × IsDone before v
Gives out.End w before v = ⊥
Gives out.ReadFault w before v = ⊥

-- Fewer than 65,538 bytes are in hand, they fix no answer, and a reader is as far as it was.
pub record IsWaiting (u v : Seen) : Type 0 where
  pub walk : v.walk ≡ u.walk
  pub shown : v.head ≡ u.head
  pub wants : Wants u.walk
  pub short : length u.walk.hand < 65538

-- The bytes in hand are judged: they fix an answer, or more are wanted.
abbrev pub Judges : Judged → Seen → Seen → Type 0
Judges (judged.Piece answer) u v = Gives answer u.walk u.head v
Judges judged.Wants u v = IsWaiting u v

-- No further codestream may begin.
abbrev pub IsFull : Walking → Type 0
IsFull w = (w.stage ≡ AtStart) × (w.codestreams ≡ 65536)

-- A codestream may begin, and no byte is in hand.
abbrev pub IsBetween : Walking → Type 0
IsBetween w = (w.stage ≡ AtStart) × (w.hand ≡ [])

-- The input is over where more bytes are wanted: where a codestream may begin, or inside one.
abbrev pub Ends : PieceOut → Walking → Type 0
Ends out.End w = IsBetween w
Ends (out.Refused fault) w = (IsBetween w → ⊥) × (fault.why ≡ reason.Cut) × (fault.at ≡ reach w)
Ends answer w = ⊥

-- More bytes are wanted, and one more than may be read is there: the input is too long, or it has one codestream too many.
abbrev pub Passes : WalkFault → Walking → Type 0
Passes fault w =
    (fault.at ≡ input_limit)
    × ((IsFull w × (fault.why ≡ reason.TooManyFrames)) ⊎ ((IsFull w → ⊥) × (fault.why ≡ reason.InputTooLong)))

-- Only reads were made so far. With what they brought fewer than 65,538 bytes are in hand, and these fix no answer.
pub record Waits (w : Walking) (f : Effects) : Type 0 where
  pub reads : f ≡ only_read f.read
  pub are_bytes : IsBytes f.read
  pub wants : Wants (fed w f.read)
  pub short : length (fed w f.read).hand < 65538
  pub within : reach (fed w f.read) ≤ input_limit

-- Only reads were made, and the bytes that are in hand after them fix the answer.
pub record Fixes (answer : PieceOut) (u v : Seen) (f : Effects) : Type 0 where
  pub reads : f ≡ only_read f.read
  pub are_bytes : IsBytes f.read
  pub within : reach (fed u.walk f.read) ≤ input_limit
  pub gives : Gives answer (fed u.walk f.read) u.head v

-- The input is over where more bytes are wanted, which is the answer.
pub record MeetsEnd (answer : PieceOut) (u v : Seen) (f : Effects) : Type 0 where
  pub reads : f ≡ read_to_end f.read
  pub waits : Waits u.walk (only_read f.read)
  pub ends : Ends answer (fed u.walk f.read)
  pub done : IsDone u.head v

-- All bytes that may be read were, more are wanted, and a further one is there.
pub record MeetsLimit (fault : WalkFault) (u v : Seen) (f : Effects) : Type 0 where
  pub bytes : List ℕ
  pub more : List ℕ
  pub one : length more ≡ 1
  pub are_bytes : IsBytes more
  pub reads : f ≡ only_read (bytes ++ more)
  pub waits : Waits u.walk (only_read bytes)
  pub full : reach (fed u.walk bytes) ≡ input_limit
  pub passes : Passes fault (fed u.walk bytes)
  pub done : IsDone u.head v

-- A read failed where more bytes are wanted.
pub record MeetsFault (u v : Seen) (f : Effects) : Type 0 where
  pub reads : f ≡ read_until_failed f.read
  pub waits : Waits u.walk (only_read f.read)
  pub done : IsDone u.head v

-- What a step did and left, by its answer.
abbrev pub StepGives : PieceOut → Seen → Seen → Effects → Type 0
StepGives out.Head u v f = Fixes out.Head u v f
StepGives out.Start u v f = Fixes out.Start u v f
StepGives out.More u v f = Fixes out.More u v f
StepGives out.FrameEnd u v f = Fixes out.FrameEnd u v f
StepGives (out.Refused fault) u v f =
    Fixes (out.Refused fault) u v f ⊎ (MeetsEnd (out.Refused fault) u v f ⊎ MeetsLimit fault u v f)
StepGives out.End u v f = MeetsEnd out.End u v f
StepGives out.ReadFault u v f = MeetsFault u v f

-- A step made only reads, each where the bytes in hand fixed no answer, and then gave this answer.
pub record Steps (u : Seen) (s t : Meaning) (answer : PieceOut) (v : Seen) (es : List Event) : Type 0 where
  pub trace : Trace s es t
  pub within : AtReads (Waits u.walk) nothing es
  pub gives : StepGives answer u v (effects es)
