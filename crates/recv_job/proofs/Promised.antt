-- What `recv` has written of a stream.
use Rattle.std.proofs.Common.{◌≡◌, ◌∙◌}
use Rattle.delivery_model.proofs.Received.{recv_writes_what_is_due}
use Rattle.scl_outside.specs.Effects.{Effects, receptions}
use Rattle.scl_run.specs.declared.ending.Ending.{Ending}
use Rattle.scl_run.specs.declared.ending.Ending.TheVariants.{Done, ReadFault, WriteFault, WireFault, Refused, NoMemory}
use Rattle.scl_run.specs.Endings.{status_of}
use Rattle.scl_run.specs.Performing.{EndsAs}
use Rattle.recv_job.specs.Settings.{Settings, AreSettings}
use Rattle.recv_job.specs.Job.{recv_job}
use Rattle.recv_job.specs.Headlines.{WritesDue, WritesAllDue, DueSoFar, DueAtEnd}

pub due_so_far : DueSoFar
due_so_far s f fits so sent codestreams datagrams events c arrive =
    so.made ∙ (recv_writes_what_is_due sent codestreams datagrams events s.pick s.max (receptions f.wire) c fits.some_window arrive).0

-- by how the run ended
finished : (s : Settings) (ending : Ending) (f : Effects) → AreSettings s → EndsAs (recv_job s) ending f → status_of ending ≡ 0 → WritesAllDue s f
finished s Done f fits ends is = λ sent codestreams datagrams events c arrive.
    ends.output ∙ (recv_writes_what_is_due sent codestreams datagrams events s.pick s.max (receptions f.wire) c fits.some_window arrive).1
finished s ReadFault f fits ends is = absurd (cc)
finished s WriteFault f fits ends is = absurd (cc)
finished s WireFault f fits ends is = absurd (cc)
finished s (Refused r) f fits ends is = absurd (cc)
finished s NoMemory f fits ends is = absurd (cc)

at_fault : (s : Settings) (ending : Ending) (f : Effects) → AreSettings s → EndsAs (recv_job s) ending f → status_of ending ≡ 5 → WritesDue s f
at_fault s WireFault f fits ends is = λ sent codestreams datagrams events c arrive.
    ends.output ∙ (recv_writes_what_is_due sent codestreams datagrams events s.pick s.max (receptions f.wire) c fits.some_window arrive).0
at_fault s Done f fits ends is = absurd (cc)
at_fault s ReadFault f fits ends is = absurd (cc)
at_fault s WriteFault f fits ends is = absurd (cc)
at_fault s (Refused r) f fits ends is = absurd (cc)
at_fault s NoMemory f fits ends is = absurd (cc)

pub due_at_end : DueAtEnd
due_at_end s ending f fits ends = record { finished = finished s ending f fits ends; at_fault = at_fault s ending f fits ends }
