-- What performing a job does, by how it ends.
use Rattle.std.specs.Prelude.{◌≡◌, ◌⊎◌, ◌++◌, ℕ, Bool, true, false, List, []}
use Rattle.scl_outside.specs.Meaning.{Meaning}
use Rattle.scl_outside.specs.Events.{Event, WireEvent}
use Rattle.scl_outside.specs.Effects.{Effects, nothing, effects, parcels, wire_failed}
use Rattle.scl_outside.specs.Traces.{Trace, AtReads}
use Rattle.scl_run.specs.declared.ending.Ending.{Ending}
use Rattle.scl_run.specs.declared.ending.Ending.TheVariants.{Done, ReadFault, WriteFault, WireFault, Refused, NoMemory}
use Rattle.scl_run.specs.Endings.{is_read_fault, is_write_fault, is_wire_fault}
use Rattle.scl_run.specs.InputClass.{InputClass}
use Rattle.scl_run.specs.Job.{Seen, seen, Memory, Never, BeforeInput, BeforeOutput, Job}

-- These bytes were read and these were written, and nothing else was done.
abbrev pub passed : List ℕ → List ℕ → Effects
passed read written = record nothing { read = read; written = written }

-- The bytes read are an accepted input, and the end was met where only the end shows it.
abbrev pub IsAccepted : InputClass → List ℕ → Bool → Type 0
IsAccepted inputs read ended = inputs.Accepts read × (inputs.AcceptsAtEnd → ended ≡ true)

-- What was written by a run that ended because it was out of memory.
abbrev pub WrittenAtWant : Memory → List ℕ → List ℕ → Type 0
WrittenAtWant Never made written = ⊥
WrittenAtWant BeforeInput made written = written ≡ []
WrittenAtWant BeforeOutput made written = written ≡ []

-- What was read by a run that ended because it was out of memory.
abbrev pub ReadAtWant : Memory → InputClass → List ℕ → Bool → List WireEvent → Type 0
ReadAtWant Never inputs read ended wire = ⊥
ReadAtWant BeforeInput inputs read ended wire = (read ≡ []) × (ended ≡ false) × (wire ≡ [])
ReadAtWant BeforeOutput inputs read ended wire = Unit {0}

-- All that the job asks for came in: its input is accepted, and what it does on the wire was done.
abbrev pub IsFinished : Job → List ℕ → Bool → List WireEvent → Type 0
IsFinished job read ended wire = IsAccepted job.inputs read ended × job.Closes wire

-- `written` is a prefix of `all`.
abbrev pub HasPrefix : List ℕ → List ℕ → Type 0
HasPrefix all written = (rest : List ℕ) × (all ≡ written ++ rest)

-- What was written by the end: all that the job makes of what came in; a prefix of it where a write failed.
abbrev pub IsOutput : Job → Ending → Seen → Bool → List WireEvent → List ℕ → Type 0
IsOutput job Done x ended wire written = written ≡ job.made x true
IsOutput job WriteFault x ended wire written = HasPrefix (job.made x false) written ⊎ (IsFinished job x.read ended wire × HasPrefix (job.made x true) written)
IsOutput job NoMemory x ended wire written = WrittenAtWant job.memory (job.made x false) written
IsOutput job ending x ended wire written = written ≡ job.made x false

-- What was sent by the end.
abbrev pub IsSent : Job → Ending → Seen → List WireEvent → Type 0
IsSent job NoMemory x wire = Unit {0}
IsSent job ending x wire = job.Sends x (parcels wire)

-- Why the run ended so, as far as the input is the cause.
abbrev pub IsCause : Job → Ending → List ℕ → Bool → List WireEvent → Type 0
IsCause job Done read ended wire = IsFinished job read ended wire
IsCause job ReadFault read ended wire = Unit {0}
IsCause job WriteFault read ended wire = Unit {0}
IsCause job WireFault read ended wire = Unit {0}
IsCause job (Refused r) read ended wire = job.inputs.Refuses read r × (job.inputs.RefusesAtEnd r.reason → ended ≡ true)
IsCause job NoMemory read ended wire = ReadAtWant job.memory job.inputs read ended wire

-- A call failed exactly where that is how the run ended.
pub record FailsAs (ending : Ending) (read write : Bool) (wire : List WireEvent) : Type 0 where
  pub read_failed : read ≡ is_read_fault ending
  pub write_failed : write ≡ is_write_fault ending
  pub on_wire : wire_failed wire ≡ is_wire_fault ending

-- All that the run of a job did, by how it ended.
pub record EndsAs (job : Job) (ending : Ending) (f : Effects) : Type 0 where
  pub output : IsOutput job ending (seen f.read f.wire) f.ended f.wire f.written
  pub sent : IsSent job ending (seen f.read f.wire) f.wire
  pub cause : IsCause job ending f.read f.ended f.wire
  pub fails : FailsAs ending f.read_failed f.write_failed f.wire
  pub fits : job.inputs.Fits f.read
  pub wires : job.Wires f.wire

-- What holds before each call that asks for input: all that the job makes of what came in so far was written and sent, the end
-- wasn't met, and more input may be asked for.
pub record IsSoFar (job : Job) (f : Effects) : Type 0 where
  pub made : f.written ≡ job.made (seen f.read f.wire) false
  pub sent : job.Sends (seen f.read f.wire) (parcels f.wire)
  pub goes_on : f.ended ≡ false
  pub asks : job.Asks f

-- These calls perform a job, before the line of its ending is noted.
pub record Performs (job : Job) (s t : Meaning) (ending : Ending) (es : List Event) : Type 0 where
  pub trace : Trace s es t
  pub so_far : AtReads (IsSoFar job) nothing es
  pub noted : (effects es).noted ≡ []
  pub ends : EndsAs job ending (effects es)
