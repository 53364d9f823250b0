-- What naming the addresses of a relay does.
use Rattle.std.specs.Prelude.{◌≡◌, List, length}
use Rattle.scl_outside.specs.Meaning.{Meaning}
use Rattle.scl_outside.specs.Events.{Event}
use Rattle.scl_outside.specs.Traces.{Trace}
use Rattle.scl_outside.specs.declared.outside.BindOut.{BindOut}
use Rattle.scl_outside.specs.declared.outside.BindOut.TheVariants.{Bound, Failed}
use Rattle.scl_run.specs.declared.ending.Ending.TheVariants.{WireFault}
use Rattle.scl_run.specs.Performing.{Performs}
use Rattle.polled_datagrams.specs.Offers.{on_wire}
use Rattle.relay_job.specs.Settings.{Settings}
use Rattle.relay_job.specs.Job.{naming, relay_job}

-- All addresses were named, or one couldn't be, which ends the run.
abbrev pub NamesAll : Settings → BindOut → Meaning → Meaning → Type 0
NamesAll s Bound m n = Trace m (on_wire (naming s)) n × (n.wire.peers ≡ length s.targets)
NamesAll s Failed m n = (es : List Event) × Performs (relay_job s) m n WireFault es
