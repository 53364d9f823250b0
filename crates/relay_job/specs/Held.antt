-- A receiver's values, as the settings of a relay hold them.
use Rattle.std.specs.Prelude.{List, map}
use Rattle.thinning_relay.specs.declared.relay.Peer.{Peer}
use Rattle.relay_job.specs.declared.settings.Held.{Held}
use Rattle.relay_job.specs.Settings.{Target}

-- What is held of a receiver says this.
abbrev pub target_of : Held → Target
target_of h = record { address = h.address.bytes; limit = h.limit; depth = h.depth }

-- What is held of receivers says this.
abbrev pub targets_of : List Held → List Target
targets_of held = map target_of held

-- Receivers are peers of the relay, each with its limit and its depth.
abbrev pub peers_of : List Target → List Peer
peers_of targets = map (λ r. record { limit = r.limit; depth = r.depth }) targets
