-- What a run of `report` promises follows from its job.
use Rattle.std.proofs.Common.{◌≡◌, ◌⊎◌, ◌≤◌, ℕ, List, [], ◌∷◌, Some, sym, subst, inl, inr}
use Rattle.std.specs.List.{AllByRecursion}
use Rattle.wire_model.specs.Bytes.{IsBytes}
use Rattle.stream_model.specs.Receiver.{Pick}
use Rattle.scl_outside.specs.Meaning.{Meaning}
use Rattle.scl_outside.specs.Events.{Event}
use Rattle.scl_outside.specs.Effects.{Effects, nothing, effects}
use Rattle.scl_outside.specs.Prompt.{IsDoneBy}
use Rattle.scl_outside.specs.declared.duct.Mark.{Mark}
use Rattle.scl_outside.proofs.Traces.{at_reads_map}
use Rattle.scl_outside.proofs.Prompted.{prompt}
use Rattle.scl_outside.proofs.ReadBytes.{all_bytes, bytes_at_reads}
use Rattle.scl_run.specs.declared.ending.Ending.{Ending}
use Rattle.scl_run.specs.declared.ending.Ending.TheVariants.{Done, ReadFault, WriteFault, WireFault, Refused, NoMemory}
use Rattle.scl_run.specs.Endings.{status_of, line_of, Notes}
use Rattle.scl_run.specs.Performing.{Performs, IsSoFar}
use Rattle.scl_run.specs.Runs.{RunsAs}
use Rattle.scl_run.proofs.Performed.{performed}
use Rattle.stream_receiver.specs.States.{pick_of}
use Rattle.report_job.specs.Job.{report_job}
use Rattle.report_job.specs.Headlines.{Headline, IsDueSoFar, ThinnedStream}
use Rattle.report_job.specs.Readings.{WritesReadings}
use Rattle.report_job.proofs.Readings.{readings_so_far, readings_at_end}
use Rattle.report_job.proofs.Promised.{headline_follows, whole_stream_is_reported, thinned_follows, headline_so_far, headline_at_fault}
use Rattle.scl_cli.specs.declared.command.Command.{Command}
use Rattle.scl_cli.specs.declared.command.Command.TheVariants.{Report}
use Rattle.stream_receiver.specs.declared.pick.Pick.{Pick as Picked}
use Rattle.scl_cli.specs.Commands.{IsPick}
use Rattle.scl_cli.specs.Jobs.{job}
use Rattle.scl_cli.specs.ReportPromise.{WholeStream, DueAtFault, WritesReadingsAlone, Reports}

-- what holds of each mark by one fact holds by another that follows
each_mark : (P Q : Effects → Type 0) (s t : Meaning) (marks : List Mark) → ((f : Effects) → P f → Q f)
    → AllByRecursion (λ m. (f : Effects) × IsDoneBy s t m f × P f) marks → AllByRecursion (λ m. (f : Effects) × IsDoneBy s t m f × Q f) marks
each_mark P Q s t [] follows all = all
each_mark P Q s t (m ∷ marks) follows all = ((all.0.0, all.0.1, follows all.0.0 all.0.2), each_mark P Q s t marks follows all.1)

-- a status of one ending and no other
by_headline : (pick : Pick) (s t : Meaning) (ending : Ending) → 1 ≤ pick.window → RunsAs (report_job pick) s t ending → status_of ending ≡ 0 → Headline pick s t × WholeStream pick s t × ThinnedStream pick s t
by_headline pick s t Done some runs is = (headline_follows pick s t some runs, whole_stream_is_reported pick s t some runs, thinned_follows pick s t runs)
by_headline pick s t ReadFault some runs is = absurd (cc)
by_headline pick s t WriteFault some runs is = absurd (cc)
by_headline pick s t WireFault some runs is = absurd (cc)
by_headline pick s t (Refused r) some runs is = absurd (cc)
by_headline pick s t NoMemory some runs is = absurd (cc)

by_fault : (pick : Pick) (s t : Meaning) (ending : Ending) → 1 ≤ pick.window → RunsAs (report_job pick) s t ending → (status_of ending ≡ 3) ⊎ (status_of ending ≡ 6) → DueAtFault pick s t
by_fault pick s t ReadFault some runs is = (effects runs.events, runs.affects, headline_at_fault pick ReadFault (effects runs.events) some tt runs.ends)
by_fault pick s t (Refused r) some runs is = (effects runs.events, runs.affects, headline_at_fault pick (Refused r) (effects runs.events) some tt runs.ends)
by_fault pick s t Done some runs (inl is) = absurd (cc)
by_fault pick s t Done some runs (inr is) = absurd (cc)
by_fault pick s t WriteFault some runs (inl is) = absurd (cc)
by_fault pick s t WriteFault some runs (inr is) = absurd (cc)
by_fault pick s t WireFault some runs (inl is) = absurd (cc)
by_fault pick s t WireFault some runs (inr is) = absurd (cc)
by_fault pick s t NoMemory some runs (inl is) = absurd (cc)
by_fault pick s t NoMemory some runs (inr is) = absurd (cc)

-- what was read are bytes, so what was written are lines of readings
with_bytes : (pick : Pick) (f : Effects) → IsSoFar (report_job pick) f × IsBytes f.read → WritesReadings pick f
with_bytes pick f so = readings_so_far pick f so.1 so.0

readings : (pick : Pick) (s t : Meaning) (ending : Ending) → RunsAs (report_job pick) s t ending → WritesReadingsAlone pick s t (status_of ending)
readings pick s t ending runs =
    let so_far = bytes_at_reads (IsSoFar (report_job pick)) s t runs.events runs.trace runs.so_far in
    let at_reads = at_reads_map (λ f. IsSoFar (report_job pick) f × IsBytes f.read) (WritesReadings pick) nothing runs.events (with_bytes pick) so_far in
    let f = effects runs.events in (
      prompt (WritesReadings pick) s t runs.events runs.trace at_reads,
      (f, runs.affects, readings_at_end pick ending f (all_bytes s t runs.events runs.trace) runs.ends),
    )

-- the whole promise, by how the run ended
reports : (pick : Pick) (s t : Meaning) (ending : Ending) → 1 ≤ pick.window → RunsAs (report_job pick) s t ending → Reports pick s t (status_of ending)
reports pick s t ending some runs = record {
  headline = λ is. (by_headline pick s t ending some runs is).0;
  whole = λ is. (by_headline pick s t ending some runs is).1;
  thinned = λ is. (by_headline pick s t ending some runs is).2;
  prompt = (runs.prompt.0, runs.prompt.1, each_mark (IsSoFar (report_job pick)) (IsDueSoFar pick) s t runs.prompt.0 (λ f so_far. headline_so_far pick f some so_far) runs.prompt.2);
  at_fault = λ is. by_fault pick s t ending some runs is;
  readings = readings pick s t ending runs;
}

pub reported : (command : Command) (pick : Picked) (s t u : Meaning) (ending : Ending) (status : ℕ) (es : List Event) → Some command ≡ Some (Report pick) → IsPick pick → status ≡ status_of ending
    → Performs (job command) s t ending es → Notes (line_of ending) t u → Reports (pick_of pick) s u status
reported command pick s t u ending status es same range is h note =
    let e : command ≡ Report pick = cc in
    let P : Command → Type 0 = λ c. RunsAs (job c) s u ending in
    let runs : RunsAs (report_job (pick_of pick)) s u ending = subst P e (performed (job command) s t u ending es h note) in
    let Q : ℕ → Type 0 = λ n. Reports (pick_of pick) s u n in
    subst Q (sym is) (reports (pick_of pick) s u ending range.some runs)
