-- The job of `recv`.
use Rattle.std.specs.Prelude.{◌≡◌, ◌≤◌, ◌<◌, ◌+◌, ◌⊎◌, ℕ, true, false, List, [], ◌∷◌, length, map}
use Rattle.wire_model.specs.Receptions.{Reception, Arrived, NotReady}
use Rattle.relay_model.specs.Lines.{came, has_closed}
use Rattle.delivery_model.specs.Receiving.{recv_output}
use Rattle.scl_outside.specs.Events.{WireEvent, Received, Bound}
use Rattle.scl_outside.specs.Effects.{Effects}
use Rattle.scl_run.specs.InputClass.{no_input}
use Rattle.scl_run.specs.Job.{Job, BeforeInput}
use Rattle.recv_job.specs.Settings.{Settings}

-- How many calls in a row found no datagram, after one more answer.
abbrev pub idle_after : ℕ → Reception → ℕ
idle_after n (Arrived d) = 0
idle_after n NotReady = n + 1
idle_after n r = n

-- After this number of calls in a row that found no datagram, and then these answers, the last calls
-- of this number found none.
abbrev pub idle_run : ℕ → List Reception → ℕ
idle_run n [] = n
idle_run n (r ∷ received) = idle_run (idle_after n r) received

-- The local address was bound, and then datagrams were asked for, with these answers; nothing was
-- sent.
abbrev pub Receives : Settings → List Reception → List WireEvent → Type 0
Receives s received wire = wire ≡ Bound s.local true ∷ map (λ r. Received r) received

-- A further datagram may be asked for: fewer came than the most that are taken, no call said that
-- none will come, and the last calls found none fewer times than it ends after.
pub record MayReceive (s : Settings) (f : Effects) : Type 0 where
  pub received : List Reception
  pub receives : Receives s received f.wire
  pub few : length (came received) < s.max
  pub not_closed : has_closed received ≡ false
  pub busy : idle_run 0 received < s.idle

-- It has come to its end: no datagram will come, the most that are taken came, or the last calls
-- found none, in the number that it ends after.
abbrev pub HasEnded : Settings → List Reception → Type 0
HasEnded s received =
    (has_closed received ≡ true) ⊎ (s.max ≤ length (came received)) ⊎ (s.idle ≤ idle_run 0 received)

-- All is done on the wire.
abbrev pub IsClosed : Settings → List WireEvent → Type 0
IsClosed s wire = (received : List Reception) × Receives s received wire × HasEnded s received

-- Nothing else is ever done on the wire: no address is named but the local one, and nothing is sent.
abbrev pub OnlyReceives : Settings → List WireEvent → Type 0
OnlyReceives s wire =
    (wire ≡ []) ⊎ (wire ≡ Bound s.local false ∷ []) ⊎ ((received : List Reception) × Receives s received wire)

-- `recv` reads no input. It writes what a report writes of the datagrams that came, and at the end
-- its line; it may find no memory before it asks for anything.
abbrev pub recv_job : Settings → Job
recv_job s = record {
  inputs = no_input;
  made = λ x ended. recv_output s.pick s.max x.received ended;
  Sends = λ x parcels. parcels ≡ [];
  Asks = MayReceive s;
  Wires = OnlyReceives s;
  Closes = IsClosed s;
  memory = BeforeInput;
}
