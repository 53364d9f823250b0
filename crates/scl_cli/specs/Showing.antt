-- What writing the lines of a main header does.
use Rattle.std.specs.Prelude.{◌≡◌, ◌++◌, ℕ, List}
use Rattle.scl_outside.specs.Meaning.{Meaning}
use Rattle.scl_outside.specs.Events.{Event}
use Rattle.scl_outside.specs.Effects.{Effects, nothing, only_written, written_until_failed, effects}
use Rattle.scl_outside.specs.Traces.{Trace, AtReads}
use Rattle.scl_outside.specs.Writing.{Never}
use Rattle.scl_run.specs.declared.ending.Ending.{Ending}
use Rattle.scl_run.specs.declared.ending.Ending.TheVariants.{Done, WriteFault}

-- What was written, by how the run ends.
abbrev pub ShowGives : List ℕ → Ending → Effects → Type 0
ShowGives lines Done f = f ≡ only_written lines
ShowGives lines WriteFault f = (front : List ℕ) × (rest : List ℕ) × (lines ≡ front ++ rest) × (f ≡ written_until_failed front)
ShowGives lines ending f = ⊥

-- The lines are shown to the end, or a prefix of them before a write that failed; nothing was read.
pub record Shows (lines : List ℕ) (s t : Meaning) (ending : Ending) (es : List Event) : Type 0 where
  pub trace : Trace s es t
  pub within : AtReads Never nothing es
  pub gives : ShowGives lines ending (effects es)
