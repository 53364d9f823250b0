-- What asking for one datagram does, and the end.
use Rattle.std.specs.Prelude.{◌≡◌, ◌≤◌, ◌<◌, ◌+◌, ◌++◌, ℕ, true, false, List, [], ◌∷◌, codes, decimal}
use Rattle.wire_model.specs.Receptions.{Reception, Arrived, Closed, Failed}
use Rattle.relay_model.specs.Lines.{has_closed}
use Rattle.stream_model.specs.Commands.{release_lines, reported}
use Rattle.stream_model.specs.Decoder.{Release}
use Rattle.stream_model.specs.Receiver.{take_frame}
use Rattle.stream_model.specs.ReceiverJoins.{forgetful, having_given}
use Rattle.scl_outside.specs.Meaning.{Meaning}
use Rattle.scl_outside.specs.Events.{Event, Received}
use Rattle.scl_outside.specs.Effects.{Effects, nothing, effects}
use Rattle.scl_outside.specs.Traces.{Trace, AtReads}
use Rattle.scl_outside.specs.Writing.{Puts}
use Rattle.scl_outside.specs.declared.duct.PutOut.{PutOut}
use Rattle.scl_outside.specs.declared.duct.PutOut.TheVariants.{Done, WriteFault as NotDone}
use Rattle.scl_run.specs.declared.ending.Ending.{Ending}
use Rattle.scl_run.specs.declared.ending.Ending.TheVariants.{WriteFault, WireFault}
use Rattle.scl_run.specs.declared.ending.Ending.TheVariants as ending
use Rattle.stream_receiver.specs.States.{ReceiverState, new_state}
use Rattle.receiving_job.specs.Giving.{IsReady}
use Rattle.receiving_job.specs.Turns.{due_by, IsLike}
use Rattle.recv_job.specs.Settings.{Settings}
use Rattle.recv_job.specs.Job.{idle_after}
use Rattle.recv_job.specs.declared.link.End.{End}
use Rattle.recv_job.specs.declared.link.End.TheVariants as end
use Rattle.recv_job.specs.declared.link.Link.{Link}
use Rattle.recv_job.specs.declared.link.Turn.{Turn}
use Rattle.recv_job.specs.declared.link.Turn.TheVariants.{On, Over, Stop}

-- A datagram came and was taken after the packets `xs`, and the lines of what was due were written.
pub record TakesDatagram (xs : List Release) (r s : ReceiverState) (d : List ℕ) (f : Effects) : Type 0 where
  pub like : List ℕ
  pub is_like : IsLike r d like
  pub left : s.rules ≡ forgetful (take_frame r.pick r.rules d)
  pub ready : IsReady s
  pub text : List ℕ
  pub adds : release_lines (xs ++ due_by r d) ≡ release_lines xs ++ text
  pub is : f ≡ record nothing { wire = Received (Arrived d) ∷ []; written = text }

-- What was done by one answer that didn't fail.
abbrev pub After : List Release → ReceiverState → ReceiverState → Reception → Effects → Type 0
After xs r s (Arrived d) f = TakesDatagram xs r s d f
After xs r s Failed f = ⊥
After xs r s answer f = (s ≡ r) × (f ≡ record nothing { wire = Received answer ∷ [] })

-- The receiver after a datagram, where no write failed.
abbrev pub LeavesBy : PutOut → ReceiverState → List ℕ → ReceiverState → Type 0
LeavesBy Done r d s =
    (like : List ℕ) × IsLike r d like × (s.rules ≡ forgetful (take_frame r.pick r.rules d)) × IsReady s
LeavesBy NotDone r d s = Unit {0}

-- A datagram was taken after the packets `xs`, and the lines of what was due were written.
pub record TakesWhat
    (xs : List Release) (r : ReceiverState) (d : List ℕ) (result : PutOut) (s : ReceiverState) (m n : Meaning) (es : List Event)
    : Type 0 where
  pub text : List ℕ
  pub adds : release_lines (xs ++ due_by r d) ≡ release_lines xs ++ text
  pub puts : Puts text m n result es
  pub left : LeavesBy result r d s

-- What follows after so many datagrams and calls in a row that found none.
abbrev pub IsTurnAfter : Settings → ℕ → ℕ → Turn → Type 0
IsTurnAfter s came idle On = (came < s.max) × (idle < s.idle)
IsTurnAfter s came idle (Over end.Max) = s.max ≤ came
IsTurnAfter s came idle (Over end.Idle) = (came < s.max) × (s.idle ≤ idle)
IsTurnAfter s came idle turn = ⊥

-- A write failed after a datagram came.
pub record BreaksOff (xs : List Release) (r : ReceiverState) (f : Effects) : Type 0 where
  pub d : List ℕ
  pub front : List ℕ
  pub rest : List ℕ
  pub adds : release_lines (xs ++ due_by r d) ≡ release_lines xs ++ (front ++ rest)
  pub is : f ≡ record nothing { wire = Received (Arrived d) ∷ []; written = front; write_failed = true }

-- How many datagrams came after one more answer.
abbrev pub came_after : ℕ → Reception → ℕ
came_after n (Arrived d) = n + 1
came_after n r = n

-- How far a receiver is: its state, how many datagrams came, and how many calls in a row found none.
pub record Progress : Type 0 where
  pub receiver : ReceiverState
  pub came : ℕ
  pub idle : ℕ

-- How far the state of the code is.
abbrev pub progress_of : Link → Progress
progress_of l = record { receiver = l.receiver; came = l.came; idle = l.idle }

-- A new one: nothing came.
abbrev pub IsNew : Settings → Link → Type 0
IsNew s l = progress_of l ≡ record { receiver = new_state s.pick; came = 0; idle = 0 }

-- One answer was got and dealt with.
pub record Answered (xs : List Release) (b a : Progress) (answer : Reception) (f : Effects) : Type 0 where
  pub after : After xs b.receiver a.receiver answer f
  pub came : a.came ≡ came_after b.came answer
  pub idle : a.idle ≡ idle_after b.idle answer

-- Why no further datagram is asked for after this answer.
abbrev pub EndsAfter : Settings → End → Progress → Reception → Type 0
EndsAfter s end.Closed a answer = answer ≡ Closed
EndsAfter s end.Max a answer = (has_closed (answer ∷ []) ≡ false) × (s.max ≤ a.came)
EndsAfter s end.Idle a answer = (has_closed (answer ∷ []) ≡ false) × (a.came < s.max) × (s.idle ≤ a.idle)

-- What one call for a datagram came to.
abbrev pub TurnGives : Settings → List Release → Progress → Progress → Turn → Effects → Type 0
TurnGives s xs b a On f =
    (answer : Reception) × Answered xs b a answer f × (has_closed (answer ∷ []) ≡ false) × (a.came < s.max) × (a.idle < s.idle)
TurnGives s xs b a (Over why) f = (answer : Reception) × Answered xs b a answer f × EndsAfter s why a answer
TurnGives s xs b a (Stop WireFault) f = f ≡ record nothing { wire = Received Failed ∷ [] }
TurnGives s xs b a (Stop WriteFault) f = BreaksOff xs b.receiver f
TurnGives s xs b a (Stop ending) f = ⊥

-- Nothing was done before.
abbrev pub AtStart : Effects → Type 0
AtStart f = f ≡ nothing

-- One datagram was asked for, by these calls.
pub record Turns (s : Settings) (xs : List Release) (b a : Progress) (m n : Meaning) (result : Turn) (es : List Event) : Type 0 where
  pub trace : Trace m es n
  pub within : AtReads AtStart nothing es
  pub gives : TurnGives s xs b a result (effects es)

-- The word for an end.
abbrev pub word_of : End → List ℕ
word_of end.Closed = codes "closed"
word_of end.Max = codes "max"
word_of end.Idle = codes "idle"

-- The last line.
abbrev pub last_line : End → ℕ → List ℕ
last_line why came = codes "RECV end=" ++ word_of why ++ codes " in=" ++ decimal came ++ codes "\n"

-- At the end what a report writes then, after the packets `xs`, and the last line were written.
pub record Finishes (xs : List Release) (b : Progress) (why : End) (m n : Meaning) (result : PutOut) (es : List Event) : Type 0 where
  pub text : List ℕ
  pub adds : reported (having_given xs b.receiver.rules) true ≡ release_lines xs ++ text
  pub puts : Puts (text ++ last_line why b.came) m n result es

-- The ending of a run by what became of its last lines.
abbrev pub ending_of : PutOut → Ending
ending_of Done = ending.Done
ending_of NotDone = WriteFault
