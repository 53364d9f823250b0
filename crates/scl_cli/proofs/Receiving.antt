-- What a run of `recv` promises follows from its job.
use Rattle.std.proofs.Common.{◌≡◌, ℕ, List, Some, sym, subst}
use Rattle.scl_outside.specs.Meaning.{Meaning}
use Rattle.scl_outside.specs.Events.{Event}
use Rattle.scl_outside.specs.Effects.{nothing, effects}
use Rattle.scl_outside.proofs.Traces.{at_reads_map}
use Rattle.scl_outside.proofs.Prompted.{prompt}
use Rattle.scl_run.specs.declared.ending.Ending.{Ending}
use Rattle.scl_run.specs.Endings.{status_of, line_of, Notes}
use Rattle.scl_run.specs.Performing.{Performs, IsSoFar}
use Rattle.scl_run.specs.Runs.{RunsAs}
use Rattle.scl_run.proofs.Performed.{performed}
use Rattle.recv_job.specs.Settings.{Settings, AreSettings}
use Rattle.recv_job.specs.Job.{recv_job}
use Rattle.recv_job.specs.Headlines.{WritesDue}
use Rattle.recv_job.proofs.Promised.{due_so_far, due_at_end}
use Rattle.scl_cli.specs.declared.command.Command.{Command}
use Rattle.scl_cli.specs.declared.command.Command.TheVariants.{Recv}
use Rattle.scl_cli.specs.Commands.{IsReceiver}
use Rattle.scl_cli.specs.Jobs.{job}
use Rattle.scl_cli.specs.RecvPromise.{ReceivesAs}

-- the whole promise, by how the run ended
received : (s : Settings) (m n : Meaning) (ending : Ending) → AreSettings s → RunsAs (recv_job s) m n ending → ReceivesAs s m n (status_of ending)
received s m n ending fits runs =
    let at_reads = at_reads_map (IsSoFar (recv_job s)) (WritesDue s) nothing runs.events (λ f so. due_so_far s f fits so) runs.so_far in
    let f = effects runs.events in
    record { prompt = prompt (WritesDue s) m n runs.events runs.trace at_reads; ends = (f, runs.affects, due_at_end s ending f fits runs.ends) }

pub receives : (command : Command) (s : Settings) (l m n : Meaning) (ending : Ending) (status : ℕ) (es : List Event) → Some command ≡ Some (Recv s) → IsReceiver s → status ≡ status_of ending
    → Performs (job command) l m ending es → Notes (line_of ending) m n → ReceivesAs s l n status
receives command s l m n ending status es same range is h note =
    let e : command ≡ Recv s = cc in
    let P : Command → Type 0 = λ c. RunsAs (job c) l n ending in
    let runs : RunsAs (recv_job s) l n ending = subst P e (performed (job command) l m n ending es h note) in
    let Q : ℕ → Type 0 = λ k. ReceivesAs s l n k in
    subst Q (sym is) (received s l n ending range.settings runs)
