-- A capture that was read, and then delivered or refused.
use Rattle.std.proofs.Common.{◌≡◌, ◌⊎◌, ◌+◌, ℕ, true, false, List, ◌++◌, length, refl, sym, subst, ◌∙◌, ap, arith, inl, inr}
use Rattle.std.proofs.lemmas.List.{append-nil}
use Rattle.scl_outside.specs.Meaning.{Meaning}
use Rattle.scl_outside.specs.Events.{Event}
use Rattle.scl_outside.specs.Effects.{Effects, HasPassed, nothing, only_read, read_to_end, read_until_failed, effects}
use Rattle.scl_outside.specs.Writing.{Never}
use Rattle.scl_outside.proofs.Traces.{trace_join, effects_then, at_reads_then, at_reads_map, has_passed}
use Rattle.delivery_model.specs.Delivering.{Range, CaptureTooLong, most_delivered, deliver_output}
use Rattle.scl_run.specs.declared.ending.Reason.TheVariants as reason
use Rattle.scl_run.specs.declared.ending.Refusal.{Refusal}
use Rattle.scl_run.specs.declared.ending.Ending.{Ending}
use Rattle.scl_run.specs.declared.ending.Ending.TheVariants.{Done, ReadFault, WriteFault, WireFault, Refused, NoMemory}
use Rattle.scl_run.specs.Performing.{Performs, IsSoFar, passed}
use Rattle.scl_run.proofs.Performed.{EndsWith, ends_with}
use Rattle.deliver_job.specs.DeliverInput.{RefusesDelivery}
use Rattle.deliver_job.specs.DeliverJob.{deliver_job}
use Rattle.deliver_job.specs.ReadingAll.{IsReading, Reads, ReadsAll, StopsReading}
use Rattle.deliver_job.specs.Answering.{Answers}

-- before each read nothing is written, and no more than may be was read
so_far : (list : List Range) (f : Effects) → IsReading f → IsSoFar (deliver_job list) f
so_far list f (reads, few) =
    let P : Effects → Type 0 = λ x. IsSoFar (deliver_job list) x in
    subst P (sym reads) (record { made = refl; sent = refl; goes_on = refl; asks = few })

-- a capture that is too long is refused
long_is_refused : (list : List Range) (read : List ℕ) (r : Refusal) → length read ≡ most_delivered + 1 → r ≡ record { at = most_delivered; reason = reason.CaptureTooLong } → RefusesDelivery list read r
long_is_refused list read r long is =
    let P : Refusal → Type 0 = λ q. RefusesDelivery list read q in
    subst P (sym is) (CaptureTooLong, refl, (omega (arith, long), refl))

-- reading stopped before the end
stop_gives : (list : List Range) (ending : Ending) (f : Effects) → StopsReading ending f → EndsWith (deliver_job list) ending f
stop_gives list ReadFault f (few, is) = ends_with (deliver_job list) ReadFault f (read_until_failed f.read) is (
  record {
    output = refl;
    sent = refl;
    cause = tt;
    fails = record { read_failed = refl; write_failed = refl; on_wire = refl };
    fits = omega (arith, few);
    wires = refl;
  },
  refl,
)
stop_gives list NoMemory f (few, is) = ends_with (deliver_job list) NoMemory f (only_read f.read) is (
  record {
    output = refl;
    sent = tt;
    cause = tt;
    fails = record { read_failed = refl; write_failed = refl; on_wire = refl };
    fits = few;
    wires = refl;
  },
  refl,
)
stop_gives list (Refused r) f (long, is, what) = ends_with (deliver_job list) (Refused r) f (only_read f.read) is (
  record {
    output = refl;
    sent = refl;
    cause = (long_is_refused list f.read r long what, not_at_end);
    fails = record { read_failed = refl; write_failed = refl; on_wire = refl };
    fits = omega (arith, long);
    wires = refl;
  },
  refl,
) where
  not_at_end : (r.reason ≡ reason.CutFrame) ⊎ (r.reason ≡ reason.NoSuchDatagram) → false ≡ true
  not_at_end (inl e) = let f : reason.CaptureTooLong ≡ reason.CutFrame = sym (ap (λ (q : Refusal). q.reason) what) ∙ e in absurd (cc)
  not_at_end (inr e) = let f : reason.CaptureTooLong ≡ reason.NoSuchDatagram = sym (ap (λ (q : Refusal). q.reason) what) ∙ e in absurd (cc)
stop_gives list Done f stops = absurd stops
stop_gives list WriteFault f stops = absurd stops
stop_gives list WireFault f stops = absurd stops

pub stopped : (list : List Range) (s t : Meaning) (ending : Ending) (es : List Event) → Reads s t es → StopsReading ending (effects es) → Performs (deliver_job list) s t ending es
stopped list s t ending es reads stops =
    let over = stop_gives list ending (effects es) stops in
    record {
      trace = reads.trace;
      so_far = at_reads_map IsReading (IsSoFar (deliver_job list)) nothing es (so_far list) reads.within;
      noted = over.1;
      ends = over.0;
    }

-- the whole capture was read, and then it was answered
answer_gives : (list : List Range) (capture : List ℕ) (t u : Meaning) (ending : Ending) (es fs : List Event) → ReadsAll capture (effects es) → Answers list capture t u ending fs → EndsWith (deliver_job list) ending (effects (es ++ fs))
answer_gives list capture t u Done es fs (few, all) a =
    ends_with (deliver_job list) Done (effects (es ++ fs)) (record (passed capture (deliver_output list capture true)) { ended = true })
    (effects_then es fs _ _ all a.gives.1 ∙ ap (λ (l : List ℕ). record (passed l (deliver_output list capture true)) { ended = true }) (append-nil capture)) (
      record {
        output = refl;
        sent = refl;
        cause = ((a.gives.0, (λ e. refl)), tt);
        fails = record { read_failed = refl; write_failed = refl; on_wire = refl };
        fits = omega (arith, few);
        wires = refl;
      },
      refl,
    )
answer_gives list capture t u WriteFault es fs (few, all) a =
    let front = a.gives.1.0 in
    ends_with (deliver_job list) WriteFault (effects (es ++ fs)) (record (passed capture front) { ended = true; write_failed = true })
    (effects_then es fs _ _ all a.gives.1.3 ∙ ap (λ (l : List ℕ). record (passed l front) { ended = true; write_failed = true }) (append-nil capture)) (
      record {
        output = inr (((a.gives.0, (λ e. refl)), tt), (a.gives.1.1, a.gives.1.2));
        sent = refl;
        cause = tt;
        fails = record { read_failed = refl; write_failed = refl; on_wire = refl };
        fits = omega (arith, few);
        wires = refl;
      },
      refl,
    )
answer_gives list capture t u (Refused r) es fs (few, all) a =
    ends_with (deliver_job list) (Refused r) (effects (es ++ fs)) (read_to_end capture)
    (effects_then es fs _ _ all a.gives.1 ∙ ap (λ (l : List ℕ). read_to_end l) (append-nil capture)) (
      record {
        output = refl;
        sent = refl;
        cause = (a.gives.0, (λ e. refl));
        fails = record { read_failed = refl; write_failed = refl; on_wire = refl };
        fits = omega (arith, few);
        wires = refl;
      },
      refl,
    )
answer_gives list capture t u NoMemory es fs (few, all) a =
    ends_with (deliver_job list) NoMemory (effects (es ++ fs)) (read_to_end capture)
    (effects_then es fs _ _ all a.gives ∙ ap (λ (l : List ℕ). read_to_end l) (append-nil capture)) (
      record {
        output = refl;
        sent = tt;
        cause = tt;
        fails = record { read_failed = refl; write_failed = refl; on_wire = refl };
        fits = omega (arith, few);
        wires = refl;
      },
      refl,
    )
answer_gives list capture t u ReadFault es fs all a = absurd a.gives
answer_gives list capture t u WireFault es fs all a = absurd a.gives

pub answered : (list : List Range) (capture bytes : List ℕ) (s t u : Meaning) (ending : Ending) (es fs : List Event) → Reads s t es → ReadsAll capture (effects es) → bytes ≡ capture → Answers list bytes t u ending fs → Performs (deliver_job list) s u ending (es ++ fs)
answered list capture bytes s t u ending es fs reads all same answers =
    let P : List ℕ → Type 0 = λ l. Answers list l t u ending fs in
    let a : Answers list capture t u ending fs = subst P same answers in
    let over = answer_gives list capture t u ending es fs all a in
    let passed_all : HasPassed (effects es) = has_passed (effects es) (read_to_end capture) all.1 (record { reads = refl; writes = refl; on_wire = refl }) in
    record {
      trace = trace_join s t u es fs reads.trace a.trace;
      so_far = at_reads_then Never (IsSoFar (deliver_job list)) es fs (at_reads_map IsReading (IsSoFar (deliver_job list)) nothing es (so_far list) reads.within) passed_all (λ f i. absurd i) a.within;
      noted = over.1;
      ends = over.0;
    }
