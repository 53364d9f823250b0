-- A job that was performed, and then how it ended.
use Rattle.std.proofs.Common.{◌≡◌, ◌||◌, ℕ, Bool, true, false, List, [], ◌∷◌, ◌++◌, refl, sym, subst, ◌∙◌, ap}
use Rattle.std.specs.List.{AllByRecursion}
use Rattle.std.proofs.lemmas.List.{append-nil}
use Rattle.scl_outside.specs.Meaning.{Meaning}
use Rattle.scl_outside.specs.Events.{Event, Noted, asks, is_note}
use Rattle.scl_outside.specs.Effects.{Effects, nothing, only_noted, and_then, effects, wire_failed}
use Rattle.scl_outside.specs.Traces.{Trace, AtReads, Affects}
use Rattle.scl_outside.proofs.Traces.{trace_join, trace_one, effects_then, at_reads_join, at_reads_none, and_then-nothing}
use Rattle.scl_outside.proofs.Affects.{trace_affects, wire_counts}
use Rattle.wire_model.specs.Causes.{Rose}
use Rattle.scl_outside.specs.Steps.{Counts}
use Rattle.scl_outside.proofs.Prompted.{prompt}
use Rattle.scl_run.specs.declared.ending.Ending.{Ending}
use Rattle.scl_run.specs.declared.ending.Ending.TheVariants.{ReadFault, WriteFault, WireFault}
use Rattle.scl_run.specs.Endings.{line_of, Notes}
use Rattle.scl_run.specs.Job.{Job}
use Rattle.scl_run.specs.Performing.{EndsAs, FailsAs, IsSoFar, Performs}
use Rattle.scl_run.specs.Runs.{RunsAs, HasRisen}

-- the calls of a note, or none
pub record Noting (line : List ℕ) (t u : Meaning) : Type 0 where
  pub events : List Event
  pub trace : Trace t events u
  pub effect : effects events ≡ only_noted line
  pub asks_nothing : AllByRecursion (λ e. (asks e ≡ false) × (is_note e ≡ true)) events

noting : (line : List ℕ) (t u : Meaning) → Notes line t u → Noting line t u
noting [] t u e = record { events = []; trace = e; effect = refl; asks_nothing = tt }
noting (c ∷ line) t u step = record {
  events = Noted (c ∷ line) ∷ [];
  trace = trace_one t u (Noted (c ∷ line)) step;
  effect = and_then-nothing (only_noted (c ∷ line));
  asks_nothing = ((refl, refl), tt);
}

-- what was done, and then the line
with_line : (f : Effects) (line : List ℕ) → f.noted ≡ [] → and_then f (only_noted line) ≡ record f { noted = line }
with_line f line e = rw (append-nil f.read, append-nil f.written, e, append-nil f.wire, or-false f.ended, or-false f.read_failed, or-false f.write_failed) refl where
  or-false : (b : Bool) → (b || false) ≡ b
  or-false true = refl
  or-false false = refl

-- how a job ended is no matter of the line
ends_noted : (job : Job) (ending : Ending) (f : Effects) (line : List ℕ) → EndsAs job ending f → EndsAs job ending (record f { noted = line })
ends_noted job ending f line h = record { output = h.output; sent = h.sent; cause = h.cause; fails = h.fails; fits = h.fits; wires = h.wires }

-- how a job ended, and that nothing was noted
abbrev pub EndsWith : Job → Ending → Effects → Type 0
EndsWith job ending f = EndsAs job ending f × (f.noted ≡ [])

pub ends_with : (job : Job) (ending : Ending) (f g : Effects) → f ≡ g → EndsWith job ending g → EndsWith job ending f
ends_with job ending f g e h = let P : Effects → Type 0 = λ x. EndsWith job ending x in subst P (sym e) h

-- what calls did, written out, says how they performed a job
pub performs : (job : Job) (s t : Meaning) (ending : Ending) (es : List Event) (f : Effects) → Trace s es t → AtReads (IsSoFar job) nothing es → effects es ≡ f → f.noted ≡ [] → EndsAs job ending f → Performs job s t ending es
performs job s t ending es f trace so_far is quiet ends =
    let P : Effects → Type 0 = λ x. EndsAs job ending x in
    record { trace = trace; so_far = so_far; noted = ap (λ (x : Effects). x.noted) is ∙ quiet; ends = subst P (sym is) ends }

rose_by : (failed : Bool) (before now : ℕ) → failed ≡ true → Counts failed before now → Rose before now
rose_by true before now e c = c.1
rose_by false before now e c = absurd (cc)

-- a call that failed raised its count
has_risen : (ending : Ending) (s t : Meaning) (f : Effects) → FailsAs ending f.read_failed f.write_failed f.wire → Affects s f t → HasRisen ending s t
has_risen ReadFault s t f fails a = rose_by f.read_failed s.read_faults t.read_faults fails.read_failed a.read_faults
has_risen WriteFault s t f fails a = rose_by f.write_failed s.write_faults t.write_faults fails.write_failed a.write_faults
has_risen WireFault s t f fails a = rose_by (wire_failed f.wire) s.wire.faults t.wire.faults fails.on_wire (wire_counts s.wire t.wire f.wire a.wire)
has_risen ending s t f fails a = tt

pub performed : (job : Job) (s t u : Meaning) (ending : Ending) (es : List Event) → Performs job s t ending es → Notes (line_of ending) t u → RunsAs job s u ending
performed job s t u ending es h note =
    let n = noting (line_of ending) t u note in
    let all : effects (es ++ n.events) ≡ record (effects es) { noted = line_of ending } = effects_then es n.events _ _ refl n.effect ∙ with_line (effects es) (line_of ending) h.noted in
    let trace = trace_join s t u es n.events h.trace n.trace in
    let so_far = at_reads_join (IsSoFar job) nothing es n.events h.so_far (at_reads_none (IsSoFar job) _ n.events n.asks_nothing) in
    let P : Effects → Type 0 = λ f. EndsAs job ending f in
    let ends = subst P (sym all) (ends_noted job ending (effects es) (line_of ending) h.ends) in
    let affects = trace_affects s u (es ++ n.events) trace in
    record {
      events = es ++ n.events;
      trace = trace;
      so_far = so_far;
      ends = ends;
      noted = ap (λ (f : Effects). f.noted) all;
      rose = has_risen ending s u (effects (es ++ n.events)) ends.fails affects;
      affects = affects;
      prompt = prompt (IsSoFar job) s u (es ++ n.events) trace so_far;
    }
