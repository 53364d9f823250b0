-- A capture as far as it was read.
use Rattle.std.proofs.Common.{◌≡◌, ◌≤◌, ◌+◌, ℕ, List, [], ◌∷◌, ◌++◌, length, refl, sym, subst, ◌∙◌, ap}
use Rattle.std.proofs.lemmas.List.{append-nil}
use Rattle.scl_outside.specs.Meaning.{Meaning}
use Rattle.scl_outside.specs.Events.{Event, Took, Ended, ReadFailed}
use Rattle.scl_outside.specs.Steps.{Step}
use Rattle.scl_outside.specs.Effects.{Effects, nothing, only_read, read_to_end, read_until_failed, effects}
use Rattle.scl_outside.proofs.Traces.{trace_join, trace_one, effects_more, at_reads_join}
use Rattle.capture_frames.proofs.ReadEffects.{reads_passed}
use Rattle.delivery_model.specs.Delivering.{most_delivered}
use Rattle.scl_run.specs.declared.ending.Reason.TheVariants.{CaptureTooLong}
use Rattle.scl_run.specs.declared.ending.Ending.TheVariants.{ReadFault, Refused, NoMemory}
use Rattle.deliver_job.specs.ReadingAll.{IsReading, Reads, ReadsAll, StopsReading}

-- so far these bytes were read
pub record SoFar (s t : Meaning) (read : List ℕ) (es : List Event) : Type 0 where
  pub calls : Reads s t es
  pub bytes : effects es ≡ only_read read

pub at_start : (s : Meaning) → SoFar s s [] []
at_start s = record { calls = record { trace = refl; within = tt }; bytes = refl }

-- what holds before a further read
still_reading : (s t : Meaning) (read : List ℕ) (es : List Event) → SoFar s t read es → length read ≤ most_delivered → IsReading (effects es)
still_reading s t read es f few =
    let P : Effects → Type 0 = λ x. IsReading x in
    subst P (sym f.bytes) (refl, few)

-- one more read took bytes,
pub took : (s t u : Meaning) (read bytes : List ℕ) (es : List Event) → SoFar s t read es → length read ≤ most_delivered → Step t (Took bytes) u → SoFar s u (read ++ bytes) (es ++ Took bytes ∷ [])
took s t u read bytes es f few step = record {
  calls = record {
    trace = trace_join s t u es (Took bytes ∷ []) f.calls.trace (trace_one t u (Took bytes) step);
    within = at_reads_join IsReading nothing es (Took bytes ∷ []) f.calls.within (still_reading s t read es f few, reads_passed (effects es) read f.bytes, tt);
  };
  bytes = effects_more es (Took bytes) (only_read read) f.bytes;
}

-- met the end,
pub met_end : (s t u : Meaning) (read : List ℕ) (es : List Event) → SoFar s t read es → length read ≤ most_delivered → Step t Ended u → Reads s u (es ++ Ended ∷ []) × ReadsAll read (effects (es ++ Ended ∷ []))
met_end s t u read es f few step = (
  record {
    trace = trace_join s t u es (Ended ∷ []) f.calls.trace (trace_one t u Ended step);
    within = at_reads_join IsReading nothing es (Ended ∷ []) f.calls.within (still_reading s t read es f few, reads_passed (effects es) read f.bytes, tt);
  },
  (few, effects_more es Ended (only_read read) f.bytes ∙ ap (λ (l : List ℕ). read_to_end l) (append-nil read)),
)

-- or failed
pub failed : (s t u : Meaning) (read : List ℕ) (es : List Event) → SoFar s t read es → length read ≤ most_delivered → Step t ReadFailed u → Reads s u (es ++ ReadFailed ∷ []) × StopsReading ReadFault (effects (es ++ ReadFailed ∷ []))
failed s t u read es f few step =
    let is : effects (es ++ ReadFailed ∷ []) ≡ read_until_failed read = effects_more es ReadFailed (only_read read) f.bytes ∙ ap (λ (l : List ℕ). read_until_failed l) (append-nil read) in
    let P : Effects → Type 0 = λ x. StopsReading ReadFault x in (
      record {
        trace = trace_join s t u es (ReadFailed ∷ []) f.calls.trace (trace_one t u ReadFailed step);
        within = at_reads_join IsReading nothing es (ReadFailed ∷ []) f.calls.within (still_reading s t read es f few, reads_passed (effects es) read f.bytes, tt);
      },
      subst P (sym is) (few, refl),
    )

-- what was read can't be kept
pub no_memory : (s t : Meaning) (read : List ℕ) (es : List Event) → SoFar s t read es → length read ≤ most_delivered + 1 → Reads s t es × StopsReading NoMemory (effects es)
no_memory s t read es f few =
    let P : Effects → Type 0 = λ x. StopsReading NoMemory x in
    (f.calls, subst P (sym f.bytes) (few, refl))

-- one byte too many was read
pub too_long : (s t : Meaning) (read : List ℕ) (es : List Event) → SoFar s t read es → length read ≡ most_delivered + 1 → Reads s t es × StopsReading (Refused (record { at = most_delivered; reason = CaptureTooLong })) (effects es)
too_long s t read es f long =
    let P : Effects → Type 0 = λ x. StopsReading (Refused (record { at = most_delivered; reason = CaptureTooLong })) x in
    (f.calls, subst P (sym f.bytes) (long, refl, refl))
