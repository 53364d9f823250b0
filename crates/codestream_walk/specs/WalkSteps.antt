-- What a step of a walk does, by the answer.
use Rattle.std.specs.Prelude.{◌≡◌, ◌≤◌, ◌⊎◌, ◌++◌, ℕ, List, length}
use Rattle.codestream_model.specs.Bytes.{IsBytes}
use Rattle.scl_outside.specs.Meaning.{Meaning}
use Rattle.scl_outside.specs.Events.{Event}
use Rattle.scl_outside.specs.Effects.{Effects, nothing, only_read, read_to_end, read_until_failed, effects}
use Rattle.scl_outside.specs.Traces.{Trace, AtReads}
use Rattle.codestream_walk.specs.InHand.{input_limit}
use Rattle.codestream_walk.specs.Faults.{walk_refusal}
use Rattle.codestream_walk.specs.Walking.{AtEnd, Walking, fed, reach}
use Rattle.codestream_walk.specs.Walks.{Walked, NeedsItem, RefusesItem, GivesPacket, GivesEnd}
use Rattle.codestream_walk.specs.Reading.{Ends, Passes}
use Rattle.codestream_walk.specs.declared.fault.WalkFault.{WalkFault}
use Rattle.codestream_walk.specs.declared.fault.PieceOut.TheVariants as piece
use Rattle.codestream_walk.specs.declared.walk.WalkOut.{WalkOut}
use Rattle.codestream_walk.specs.declared.walk.WalkOut.TheVariants as out

-- Only reads were made so far, and with what they brought the bytes in hand fix no answer.
pub record WaitsItem (w : Walking) (f : Effects) : Type 0 where
  pub reads : f ≡ only_read f.read
  pub are_bytes : IsBytes f.read
  pub needs : NeedsItem (fed w f.read)
  pub within : reach (fed w f.read) ≤ input_limit

-- Only reads were made, and this holds of the bytes that are in hand after them.
pub record FixesItem (Holds : Walking → Type 0) (w : Walking) (f : Effects) : Type 0 where
  pub reads : f ≡ only_read f.read
  pub are_bytes : IsBytes f.read
  pub within : reach (fed w f.read) ≤ input_limit
  pub gives : Holds (fed w f.read)

-- The input is over where more bytes are wanted: where a codestream may begin, or inside one.
abbrev pub EndsWalk : WalkOut → Walking → Type 0
EndsWalk out.End w = Ends piece.End w
EndsWalk (out.Refused fault) w = Ends (piece.Refused fault) w
EndsWalk answer w = ⊥

-- The input is over where more bytes are wanted, which is the answer.
pub record MeetsItemEnd (answer : WalkOut) (w : Walking) (f : Effects) : Type 0 where
  pub reads : f ≡ read_to_end f.read
  pub waits : WaitsItem w (only_read f.read)
  pub ends : EndsWalk answer (fed w f.read)

-- All bytes that may be read were, more are wanted, and a further one is there.
pub record MeetsItemLimit (fault : WalkFault) (w : Walking) (f : Effects) : Type 0 where
  pub bytes : List ℕ
  pub more : List ℕ
  pub one : length more ≡ 1
  pub are_bytes : IsBytes more
  pub reads : f ≡ only_read (bytes ++ more)
  pub waits : WaitsItem w (only_read bytes)
  pub full : reach (fed w bytes) ≡ input_limit
  pub passes : Passes fault (fed w bytes)

-- What a step did and left, by its answer.
abbrev pub WalkGives : WalkOut → Walking → Walked → Effects → Type 0
WalkGives out.Packet w v f = FixesItem (λ x. GivesPacket x v) w f
WalkGives out.FrameEnd w v f = FixesItem (λ x. GivesEnd x v) w f
WalkGives out.End w v f = MeetsItemEnd out.End w f × (v.walk.stage ≡ AtEnd)
WalkGives (out.Refused fault) w v f =
    (FixesItem (λ x. RefusesItem x fault.at (walk_refusal fault.why)) w f
    ⊎ (MeetsItemEnd (out.Refused fault) w f ⊎ MeetsItemLimit fault w f))
    × (v.walk.stage ≡ AtEnd)
WalkGives out.ReadFault w v f = (f ≡ read_until_failed f.read) × WaitsItem w (only_read f.read) × (v.walk.stage ≡ AtEnd)

-- A step made only reads, each where the bytes in hand fixed no answer, and then gave this answer.
pub record Walks (w : Walking) (s t : Meaning) (answer : WalkOut) (v : Walked) (es : List Event) : Type 0 where
  pub trace : Trace s es t
  pub within : AtReads (WaitsItem w) nothing es
  pub gives : WalkGives answer w v (effects es)
