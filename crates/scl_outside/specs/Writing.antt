-- What putting bytes out does.
use Rattle.std.specs.Prelude.{◌≡◌, ◌++◌, ℕ, List}
use Rattle.scl_outside.specs.Meaning.{Meaning}
use Rattle.scl_outside.specs.Events.{Event}
use Rattle.scl_outside.specs.Effects.{Effects, nothing, only_written, written_until_failed, effects}
use Rattle.scl_outside.specs.Traces.{Trace, AtReads}
use Rattle.scl_outside.specs.declared.duct.PutOut.{PutOut}
use Rattle.scl_outside.specs.declared.duct.PutOut.TheVariants.{Done, WriteFault}

-- No call asks for input.
abbrev pub Never : Effects → Type 0
Never f = ⊥

-- All of these bytes were written, or a prefix of them before a write that failed.
abbrev pub PutGives : PutOut → List ℕ → Effects → Type 0
PutGives Done bytes f = f ≡ only_written bytes
PutGives WriteFault bytes f =
    (front : List ℕ) × (rest : List ℕ) × (bytes ≡ front ++ rest) × (f ≡ written_until_failed front)

-- These calls put bytes out and do nothing else.
pub record Puts (bytes : List ℕ) (s t : Meaning) (result : PutOut) (es : List Event) : Type 0 where
  pub trace : Trace s es t
  pub within : AtReads Never nothing es
  pub gives : PutGives result bytes (effects es)
