-- What a run of `rebuild` promises follows from its job.
use Rattle.std.proofs.Common.{◌≡◌, ◌≤◌, ℕ, List, Some, sym, subst}
use Rattle.stream_model.specs.Receiver.{Pick}
use Rattle.scl_outside.specs.Meaning.{Meaning}
use Rattle.scl_outside.specs.Events.{Event}
use Rattle.scl_outside.specs.Effects.{effects}
use Rattle.scl_outside.proofs.ReadBytes.{all_bytes}
use Rattle.scl_run.specs.declared.ending.Ending.{Ending}
use Rattle.scl_run.specs.declared.ending.Ending.TheVariants.{Done, ReadFault, WriteFault, WireFault, Refused, NoMemory}
use Rattle.scl_run.specs.Endings.{status_of, line_of, Notes}
use Rattle.scl_run.specs.Performing.{Performs}
use Rattle.scl_run.specs.Runs.{RunsAs}
use Rattle.scl_run.proofs.Performed.{performed}
use Rattle.stream_receiver.specs.declared.pick.Pick.{Pick as Picked}
use Rattle.stream_receiver.specs.States.{pick_of}
use Rattle.rebuild_job.specs.Job.{rebuild_job}
use Rattle.rebuild_job.proofs.Promised.{stream_is_rebuilt, rebuilt_at_end}
use Rattle.scl_cli.specs.declared.command.Command.{Command}
use Rattle.scl_cli.specs.declared.command.Command.TheVariants.{Rebuild}
use Rattle.scl_cli.specs.Commands.{IsPick}
use Rattle.scl_cli.specs.Jobs.{job}
use Rattle.scl_cli.specs.RebuildPromise.{RebuildsOfStreams, RebuildsAs}

-- a status of one ending and no other
by_stream : (pick : Pick) (s t : Meaning) (ending : Ending) → 1 ≤ pick.window → RunsAs (rebuild_job pick) s t ending → status_of ending ≡ 0 → RebuildsOfStreams pick s t
by_stream pick s t Done some runs is = stream_is_rebuilt pick s t some runs
by_stream pick s t ReadFault some runs is = absurd (cc)
by_stream pick s t WriteFault some runs is = absurd (cc)
by_stream pick s t WireFault some runs is = absurd (cc)
by_stream pick s t (Refused r) some runs is = absurd (cc)
by_stream pick s t NoMemory some runs is = absurd (cc)

-- the whole promise, by how the run ended
rebuilds : (pick : Pick) (s t : Meaning) (ending : Ending) → 1 ≤ pick.window → RunsAs (rebuild_job pick) s t ending → RebuildsAs pick s t (status_of ending)
rebuilds pick s t ending some runs =
    let f = effects runs.events in
    record {
      stream = λ is. by_stream pick s t ending some runs is;
      ends = (f, runs.affects, rebuilt_at_end pick ending f (all_bytes s t runs.events runs.trace) runs.ends);
    }

pub rebuilt : (command : Command) (pick : Picked) (s t u : Meaning) (ending : Ending) (status : ℕ) (es : List Event) → Some command ≡ Some (Rebuild pick) → IsPick pick → status ≡ status_of ending
    → Performs (job command) s t ending es → Notes (line_of ending) t u → RebuildsAs (pick_of pick) s u status
rebuilt command pick s t u ending status es same range is h note =
    let e : command ≡ Rebuild pick = cc in
    let P : Command → Type 0 = λ c. RunsAs (job c) s u ending in
    let runs : RunsAs (rebuild_job (pick_of pick)) s u ending = subst P e (performed (job command) s t u ending es h note) in
    let Q : ℕ → Type 0 = λ n. RebuildsAs (pick_of pick) s u n in
    subst Q (sym is) (rebuilds (pick_of pick) s u ending range.some runs)
