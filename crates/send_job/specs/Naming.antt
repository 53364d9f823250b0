-- How a sender names its addresses.
use Rattle.std.specs.Prelude.{◌≡◌, ◌⊎◌, ◌++◌, ℕ, true, false, List, [], ◌∷◌}
use Rattle.scl_outside.specs.Meaning.{Meaning}
use Rattle.scl_outside.specs.Events.{WireEvent, Bound, Joined}
use Rattle.scl_outside.specs.Traces.{Trace}
use Rattle.scl_outside.specs.declared.outside.BindOut.{BindOut}
use Rattle.scl_outside.specs.declared.outside.BindOut.TheVariants as bind
use Rattle.polled_datagrams.specs.Offers.{on_wire}
use Rattle.send_job.specs.Settings.{Settings}

-- The local address is bound, and then the peer's is joined.
abbrev pub naming : Settings → List WireEvent
naming s = Bound s.local true ∷ Joined s.peer true ∷ []

-- Both addresses were named before anything else.
abbrev pub BeginsNamed : Settings → List WireEvent → Type 0
BeginsNamed s wire = (later : List WireEvent) × (wire ≡ naming s ++ later)

-- A call may name an address.
abbrev pub named_by : WireEvent → List (List ℕ)
named_by (Bound text done) = text ∷ []
named_by (Joined text done) = text ∷ []
named_by w = []

-- Both addresses were named, or one couldn't be, with nothing done after it.
abbrev pub Names : Settings → BindOut → Meaning → Meaning → Type 0
Names s bind.Bound m n = Trace m (on_wire (naming s)) n × (n.wire.peers ≡ 1)
Names s bind.Failed m n =
    Trace m (on_wire (Bound s.local false ∷ [])) n
    ⊎ Trace m (on_wire (Bound s.local true ∷ Joined s.peer false ∷ [])) n
