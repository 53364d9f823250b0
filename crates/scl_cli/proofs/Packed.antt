-- What a run of `pack` promises follows from its job.
use Rattle.std.proofs.Common.{◌≡◌, ℕ, List, Some, sym, subst}
use Rattle.wire_model.specs.Bytes.{IsBytes}
use Rattle.stream_model.specs.Cut.{Plan, IsPlan}
use Rattle.scl_outside.specs.Meaning.{Meaning}
use Rattle.scl_outside.specs.Events.{Event}
use Rattle.scl_outside.specs.Effects.{Effects, nothing, effects}
use Rattle.scl_outside.proofs.Traces.{at_reads_map}
use Rattle.scl_outside.proofs.Prompted.{prompt}
use Rattle.scl_outside.proofs.ReadBytes.{all_bytes, bytes_at_reads}
use Rattle.scl_run.specs.declared.ending.Ending.{Ending}
use Rattle.scl_run.specs.declared.ending.Ending.TheVariants.{Done, ReadFault, WriteFault, WireFault, Refused, NoMemory}
use Rattle.scl_run.specs.Endings.{status_of, line_of, Notes}
use Rattle.scl_run.specs.Performing.{Performs, IsSoFar}
use Rattle.scl_run.specs.Runs.{RunsAs}
use Rattle.scl_run.proofs.Performed.{performed}
use Rattle.pack_job.specs.PackJob.{pack_job}
use Rattle.pack_job.specs.PackedStreams.{PacksStream, IsPackedSoFar}
use Rattle.pack_job.proofs.Promised.{stream_is_packed, packed_so_far, packed_at_end}
use Rattle.scl_cli.specs.declared.command.Command.{Command}
use Rattle.scl_cli.specs.declared.command.Command.TheVariants.{Pack}
use Rattle.scl_cli.specs.Jobs.{job}
use Rattle.scl_cli.specs.PackPromise.{Packs}

-- a status of one ending and no other
by_stream : (p : Plan) (s t : Meaning) (ending : Ending) → IsPlan p → RunsAs (pack_job p) s t ending → status_of ending ≡ 0 → PacksStream p s t
by_stream p s t Done plan runs is = stream_is_packed p s t plan runs
by_stream p s t ReadFault plan runs is = absurd (cc)
by_stream p s t WriteFault plan runs is = absurd (cc)
by_stream p s t WireFault plan runs is = absurd (cc)
by_stream p s t (Refused r) plan runs is = absurd (cc)
by_stream p s t NoMemory plan runs is = absurd (cc)

-- what was read are bytes
with_bytes : (p : Plan) (f : Effects) → IsPlan p → IsSoFar (pack_job p) f × IsBytes f.read → IsPackedSoFar p f
with_bytes p f plan so = packed_so_far p f plan so.1 so.0

-- the whole promise, by how the run ended
packs : (p : Plan) (s t : Meaning) (ending : Ending) → IsPlan p → RunsAs (pack_job p) s t ending → Packs p s t (status_of ending)
packs p s t ending plan runs =
    let so_far = bytes_at_reads (IsSoFar (pack_job p)) s t runs.events runs.trace runs.so_far in
    let at_reads = at_reads_map (λ f. IsSoFar (pack_job p) f × IsBytes f.read) (IsPackedSoFar p) nothing runs.events (λ f so. with_bytes p f plan so) so_far in
    let f = effects runs.events in
    record {
      stream = λ is. by_stream p s t ending plan runs is;
      prompt = prompt (IsPackedSoFar p) s t runs.events runs.trace at_reads;
      ends = (f, runs.affects, packed_at_end p ending f plan (all_bytes s t runs.events runs.trace) runs.ends);
    }

pub packed : (command : Command) (p : Plan) (s t u : Meaning) (ending : Ending) (status : ℕ) (es : List Event) → Some command ≡ Some (Pack p) → IsPlan p → status ≡ status_of ending
    → Performs (job command) s t ending es → Notes (line_of ending) t u → Packs p s u status
packed command p s t u ending status es same plan is h note =
    let e : command ≡ Pack p = cc in
    let P : Command → Type 0 = λ c. RunsAs (job c) s u ending in
    let runs : RunsAs (pack_job p) s u ending = subst P e (performed (job command) s t u ending es h note) in
    let Q : ℕ → Type 0 = λ n. Packs p s u n in
    subst Q (sym is) (packs p s u ending plan runs)
