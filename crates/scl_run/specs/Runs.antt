-- What a run of a job does, and what its input decides.
use Rattle.std.specs.Prelude.{◌≡◌, ◌⊎◌, ℕ, List, [], Some}
use Rattle.wire_model.specs.Causes.{Rose, Grew}
use Rattle.scl_outside.specs.Meaning.{Meaning}
use Rattle.scl_outside.specs.Events.{Event}
use Rattle.scl_outside.specs.Effects.{nothing, effects}
use Rattle.scl_outside.specs.Traces.{Trace, AtReads, Affects}
use Rattle.scl_outside.specs.Prompt.{Prompt}
use Rattle.scl_run.specs.declared.ending.Refusal.{Refusal}
use Rattle.scl_run.specs.declared.ending.Ending.{Ending}
use Rattle.scl_run.specs.declared.ending.Ending.TheVariants.{ReadFault, WriteFault, WireFault}
use Rattle.scl_run.specs.Endings.{line_of, refusal_line}
use Rattle.scl_run.specs.Job.{Memory, Never, BeforeInput, BeforeOutput, Job}
use Rattle.scl_run.specs.Performing.{EndsAs, IsSoFar}

-- The count of the faults that ended the run rose.
abbrev pub HasRisen : Ending → Meaning → Meaning → Type 0
HasRisen ReadFault s t = Rose s.read_faults t.read_faults
HasRisen WriteFault s t = Rose s.write_faults t.write_faults
HasRisen WireFault s t = Rose s.wire.faults t.wire.faults
HasRisen ending s t = Unit {0}

-- A run of a job: these calls were made and no others. What they did holds of what the object tells, and so does promptness: at each
-- mark, what was written by then is what the job makes of what came in by then.
pub record RunsAs (job : Job) (s t : Meaning) (ending : Ending) : Type 0 where
  pub events : List Event
  pub trace : Trace s events t
  pub so_far : AtReads (IsSoFar job) nothing events
  pub ends : EndsAs job ending (effects events)
  pub noted : (effects events).noted ≡ line_of ending
  pub rose : HasRisen ending s t
  pub affects : Affects s (effects events) t
  pub prompt : Prompt (IsSoFar job) s t

-- Nothing was written, where the object tells what was.
abbrev pub WritesNothing : Meaning → Meaning → Type 0
WritesNothing s t = Grew s.written t.written []

-- Nothing was read, where the object tells what was.
abbrev pub ReadsNothing : Meaning → Meaning → Type 0
ReadsNothing s t = Grew s.read t.read []

-- What is known of a run that ended because it was out of memory.
abbrev pub WantsMemory : Memory → Meaning → Meaning → Type 0
WantsMemory Never s t = ⊥
WantsMemory BeforeInput s t = ReadsNothing s t × WritesNothing s t
WantsMemory BeforeOutput s t = WritesNothing s t

-- The status of a run whose input is accepted, without a fault.
abbrev pub IsDone : Memory → ℕ → Type 0
IsDone Never status = status ≡ 0
IsDone memory status = (status ≡ 0) ⊎ (status ≡ 7)

-- The status and the noted line of a run whose input is refused.
abbrev pub IsRefused : Refusal → Meaning → Meaning → ℕ → Type 0
IsRefused r s t status = (status ≡ 6) × Grew s.noted t.noted (refusal_line r)

-- How a run ends whose input is refused, without a fault.
abbrev pub EndsRefused : Memory → Refusal → Meaning → Meaning → ℕ → Type 0
EndsRefused Never r s t status = IsRefused r s t status
EndsRefused memory r s t status = IsRefused r s t status ⊎ (status ≡ 7)

-- Where the object tells what is left of its input before and after, and no count of faults rose, the input decides how the run
-- ends: an accepted one with 0, a refused one with 6 and its line, or with 7 where the job may be out of memory.
abbrev pub Decides : Job → Meaning → Meaning → ℕ → Type 0
Decides job s t status =
    (input rest : List ℕ) → s.left ≡ Some input → t.left ≡ Some rest
    → (Rose s.read_faults t.read_faults → ⊥) → (Rose s.write_faults t.write_faults → ⊥) → (Rose s.wire.faults t.wire.faults → ⊥)
    → (job.inputs.Accepts input → IsDone job.memory status) × ((r : Refusal) → job.inputs.Refuses input r → EndsRefused job.memory r s t status)
