-- What was done of a job that writes a text, by how it ended.
use Rattle.std.proofs.Common.{◌≡◌, ◌++◌, ℕ, List, [], ◌∷◌, refl, ◌∙◌, sym, inl}
use Rattle.scl_outside.specs.Meaning.{Meaning}
use Rattle.scl_outside.specs.Events.{Wrote, WriteFailed}
use Rattle.scl_outside.specs.Steps.{Step}
use Rattle.scl_outside.specs.Effects.{nothing, only_written, written_until_failed}
use Rattle.scl_outside.proofs.Traces.{trace_one, and_then-nothing}
use Rattle.scl_run.specs.declared.ending.Ending.TheVariants.{Done, WriteFault, NoMemory}
use Rattle.scl_run.specs.Performing.{Performs}
use Rattle.scl_run.proofs.Performed.{performs}
use Rattle.scl_run.specs.Job.{writing}

-- There was no memory, and nothing was done.
pub no_memory : (text : List ℕ) (s : Meaning) → Performs (writing text) s s NoMemory []
no_memory text s =
    performs (writing text) s s NoMemory [] nothing refl tt refl refl record {
      output = refl;
      sent = tt;
      cause = (refl, refl, refl);
      fails = record { read_failed = refl; write_failed = refl; on_wire = refl };
      fits = refl;
      wires = refl;
    }

-- The text was written,
pub written : (text bytes : List ℕ) (s t : Meaning) → bytes ≡ text → Step s (Wrote bytes) t → Performs (writing text) s t Done (Wrote bytes ∷ [])
written text bytes s t is step =
    performs (writing text) s t Done (Wrote bytes ∷ []) (only_written bytes) (trace_one s t (Wrote bytes) step)
    (tt, record { reads = refl; writes = refl; on_wire = refl }, tt) (and_then-nothing (only_written bytes)) refl record {
      output = is;
      sent = refl;
      cause = ((tt, λ ends. absurd ends), tt);
      fails = record { read_failed = refl; write_failed = refl; on_wire = refl };
      fits = refl;
      wires = refl;
    }

-- or some of its first bytes were, and then the write failed.
pub broken : (text bytes front rest : List ℕ) (s t : Meaning) → bytes ≡ text → bytes ≡ front ++ rest → Step s (WriteFailed front) t
    → Performs (writing text) s t WriteFault (WriteFailed front ∷ [])
broken text bytes front rest s t is split step =
    performs (writing text) s t WriteFault (WriteFailed front ∷ []) (written_until_failed front) (trace_one s t (WriteFailed front) step)
    (tt, record { reads = refl; writes = refl; on_wire = refl }, tt) (and_then-nothing (written_until_failed front)) refl record {
      output = inl (rest, sym is ∙ split);
      sent = refl;
      cause = tt;
      fails = record { read_failed = refl; write_failed = refl; on_wire = refl };
      fits = refl;
      wires = refl;
    }
