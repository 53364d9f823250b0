-- How a relay whose turns have ended finishes.
use Rattle.std.specs.Prelude.{◌≡◌, false, List}
use Rattle.relay_model.specs.Lines.{end_word}
use Rattle.scl_outside.specs.Meaning.{Meaning}
use Rattle.scl_outside.specs.Events.{Event, WireEvent}
use Rattle.scl_outside.specs.Effects.{receptions, wire_failed}
use Rattle.scl_run.specs.declared.ending.Ending.{Ending}
use Rattle.scl_run.specs.Performing.{Performs}
use Rattle.thinning_relay.specs.declared.relay.Relay.{Relay}
use Rattle.relay_job.specs.declared.serving.End.{End}
use Rattle.relay_job.specs.Settings.{Settings}
use Rattle.relay_job.specs.Job.{HasEnded, relay_job}
use Rattle.relay_job.specs.Serving.{Turned, word_of}

-- After turns that had this end, the calls of all perform the job with this ending.
abbrev pub Finishes : Settings → Relay → End → Ending → Meaning → Meaning → Type 0
Finishes s r end ending m n =
    (first : Meaning) (es : List Event) (wire : List WireEvent) → Turned s r first m es wire → wire_failed wire ≡ false
    → HasEnded s wire → end_word s.max (receptions wire) ≡ word_of end
    → (fs : List Event) × Performs (relay_job s) first n ending fs
