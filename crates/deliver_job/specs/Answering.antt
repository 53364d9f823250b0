-- What is done with a capture that was read.
use Rattle.std.specs.Prelude.{◌≡◌, ◌++◌, ℕ, true, List}
use Rattle.scl_outside.specs.Meaning.{Meaning}
use Rattle.scl_outside.specs.Events.{Event}
use Rattle.scl_outside.specs.Effects.{Effects, nothing, only_written, written_until_failed, effects}
use Rattle.scl_outside.specs.Traces.{Trace, AtReads}
use Rattle.scl_outside.specs.Writing.{Never}
use Rattle.delivery_model.specs.Delivering.{Range, deliver_output}
use Rattle.scl_run.specs.declared.ending.Ending.{Ending}
use Rattle.scl_run.specs.declared.ending.Ending.TheVariants.{Done, WriteFault, Refused, NoMemory}
use Rattle.deliver_job.specs.DeliverInput.{IsDelivered, RefusesDelivery}

-- What was written, by how the run ends.
abbrev pub AnswerGives : List Range → List ℕ → Ending → Effects → Type 0
AnswerGives list capture Done f =
    IsDelivered list capture × (f ≡ only_written (deliver_output list capture true))
AnswerGives list capture WriteFault f =
    IsDelivered list capture × ((front : List ℕ) × (rest : List ℕ)
    × (deliver_output list capture true ≡ front ++ rest) × (f ≡ written_until_failed front))
AnswerGives list capture (Refused r) f = RefusesDelivery list capture r × (f ≡ nothing)
AnswerGives list capture NoMemory f = f ≡ nothing
AnswerGives list capture ending f = ⊥

-- The listed frames are written, or nothing is; nothing is read.
pub record Answers (list : List Range) (capture : List ℕ) (s t : Meaning) (ending : Ending) (es : List Event) : Type 0 where
  pub trace : Trace s es t
  pub within : AtReads Never nothing es
  pub gives : AnswerGives list capture ending (effects es)
