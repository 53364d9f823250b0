-- What a run of `send` promises follows from its job.
use Rattle.std.proofs.Common.{◌≡◌, ℕ, List, Some, sym, subst}
use Rattle.wire_model.specs.Bytes.{IsBytes}
use Rattle.stream_model.specs.Cut.{IsPlan}
use Rattle.scl_outside.specs.Meaning.{Meaning}
use Rattle.scl_outside.specs.Events.{Event}
use Rattle.scl_outside.specs.Effects.{Effects, nothing, effects}
use Rattle.scl_outside.proofs.Traces.{at_reads_map}
use Rattle.scl_outside.proofs.Prompted.{prompt}
use Rattle.scl_outside.proofs.ReadBytes.{bytes_at_reads}
use Rattle.scl_run.specs.declared.ending.Ending.{Ending}
use Rattle.scl_run.specs.Endings.{status_of, line_of, Notes}
use Rattle.scl_run.specs.Performing.{Performs, IsSoFar}
use Rattle.scl_run.specs.Runs.{RunsAs}
use Rattle.scl_run.proofs.Performed.{performed}
use Rattle.send_job.specs.Settings.{Settings, AreSettings}
use Rattle.send_job.specs.Job.{send_job}
use Rattle.send_job.specs.SentStreams.{IsSentSoFar}
use Rattle.sender_model.proofs.Told.{sending_is_told}
use Rattle.send_job.proofs.Lawful.{sent_so_far, sent_at_end}
use Rattle.scl_cli.specs.declared.command.Command.{Command}
use Rattle.scl_cli.specs.declared.command.Command.TheVariants.{Send}
use Rattle.scl_cli.specs.Jobs.{job}
use Rattle.scl_cli.specs.SendPromise.{SendsAs}

-- what was read are bytes
with_bytes : (s : Settings) (f : Effects) → IsPlan s.plan → IsSoFar (send_job s) f × IsBytes f.read → IsSentSoFar s f
with_bytes s f plan so = sent_so_far sending_is_told s f plan so.1 so.0

-- the whole promise, by how the run ended
sent : (s : Settings) (m n : Meaning) (ending : Ending) → AreSettings s → RunsAs (send_job s) m n ending → SendsAs s m n (status_of ending)
sent s m n ending fits runs =
    let so_far = bytes_at_reads (IsSoFar (send_job s)) m n runs.events runs.trace runs.so_far in
    let at_reads = at_reads_map (λ f. IsSoFar (send_job s) f × IsBytes f.read) (IsSentSoFar s) nothing runs.events (λ f so. with_bytes s f fits.plan so) so_far in
    record { prompt = prompt (IsSentSoFar s) m n runs.events runs.trace at_reads; ends = (effects runs.events, runs.affects, sent_at_end sending_is_told s m n ending fits.plan runs) }

pub sends : (command : Command) (s : Settings) (l m n : Meaning) (ending : Ending) (status : ℕ) (es : List Event) → Some command ≡ Some (Send s) → AreSettings s → status ≡ status_of ending
    → Performs (job command) l m ending es → Notes (line_of ending) m n → SendsAs s l n status
sends command s l m n ending status es same range is h note =
    let e : command ≡ Send s = cc in
    let P : Command → Type 0 = λ c. RunsAs (job c) l n ending in
    let runs : RunsAs (send_job s) l n ending = subst P e (performed (job command) l m n ending es h note) in
    let Q : ℕ → Type 0 = λ k. SendsAs s l n k in
    subst Q (sym is) (sent s l n ending range runs)
