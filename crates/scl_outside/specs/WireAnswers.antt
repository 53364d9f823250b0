-- What the answers of the wire say.
use Rattle.std.specs.Prelude.{◌≡◌, ◌≤◌, ℕ, Bool, true, false, List, take, length, min}
use Rattle.wire_model.specs.Receptions.{Arrived}
use Rattle.wire_model.specs.LinkAnswers.{LinkAnswer}
use Rattle.wire_model.specs.Receptions as receptions
use Rattle.wire_model.specs.LinkAnswers as link
use Rattle.scl_outside.specs.Meaning.{Meaning, Parcel}
use Rattle.scl_outside.specs.Events.{OnWire, Received}
use Rattle.scl_outside.specs.Events as events
use Rattle.scl_outside.specs.Steps.{Step}
use Rattle.scl_outside.specs.declared.outside.BindOut.{BindOut}
use Rattle.scl_outside.specs.declared.outside.BindOut.TheVariants.{Bound, Failed}
use Rattle.scl_outside.specs.declared.outside.RecvOut.{RecvOut}
use Rattle.scl_outside.specs.declared.outside.RecvOut.TheVariants as got
use Rattle.scl_outside.specs.declared.outside.SendOut.{SendOut}
use Rattle.scl_outside.specs.declared.outside.SendOut.TheVariants as sent

-- A call named an address.
abbrev pub is_bound : BindOut → Bool
is_bound Bound = true
is_bound Failed = false

-- A datagram that came has no more bytes in the buffer than it holds.
abbrev pub FitsDatagram : RecvOut → ℕ → Type 0
FitsDatagram (got.Got n) room = n ≤ room
FitsDatagram r room = Unit {0}

-- The datagram that came is at the front of the buffer, as much of it as fits.
pub record IsAtFront (d : List ℕ) (n : ℕ) (buf : List ℕ) : Type 0 where
  pub count : n ≡ min (length d) (length buf)
  pub bytes : take n buf ≡ take n d

-- A call for a datagram with this answer, and this buffer after it, is this step.
abbrev pub Receives : Meaning → RecvOut → List ℕ → Meaning → Type 0
Receives s (got.Got n) buf t = (d : List ℕ) × IsAtFront d n buf × Step s (OnWire (Received (Arrived d))) t
Receives s got.NotReady buf t = Step s (OnWire (Received receptions.NotReady)) t
Receives s got.Closed buf t = Step s (OnWire (Received receptions.Closed)) t
Receives s got.Failed buf t = Step s (OnWire (Received receptions.Failed)) t

-- A peer's link answers so.
abbrev pub answer_of : SendOut → LinkAnswer
answer_of sent.Sent = link.Sent
answer_of sent.NotReady = link.NotReady
answer_of sent.Failed = link.Failed

-- These bytes are a parcel for this peer.
abbrev pub parcel : ℕ → List ℕ → Parcel
parcel peer bytes = record { peer = peer; bytes = bytes }

-- A call named the local address, with this answer.
abbrev pub Binds : Meaning → List ℕ → BindOut → Meaning → Type 0
Binds s text result t = Step s (OnWire (events.Bound text (is_bound result))) t

-- A call added a peer, with this answer.
abbrev pub Joins : Meaning → List ℕ → BindOut → Meaning → Type 0
Joins s text result t = Step s (OnWire (events.Joined text (is_bound result))) t

-- A call sent a datagram to a peer, with this answer.
abbrev pub Sends : Meaning → ℕ → List ℕ → SendOut → Meaning → Type 0
Sends s peer bytes result t = Step s (OnWire (events.Offered (parcel peer bytes) (answer_of result))) t
