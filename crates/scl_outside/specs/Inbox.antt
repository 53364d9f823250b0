-- The way in of a wire in memory.
use Rattle.std.specs.Prelude.{◌≡◌, ℕ, Bool, true, false, List, [], ◌∷◌, Option, drop}
use Rattle.wire_model.specs.Receptions.{Reception}
use Rattle.wire_model.specs.Receptions as receptions
use Rattle.scl_outside.specs.Record.{room_of, with_room}
use Rattle.scl_outside.specs.Inbound.{first_of, after_first, datagrams_in, received_in}
use Rattle.scl_outside.specs.WireAnswers.{IsAtFront}
use Rattle.scl_outside.specs.declared.inbox.Inbound.{Inbound}
use Rattle.scl_outside.specs.declared.inbox.Inbox.{Inbox}
use Rattle.scl_outside.specs.declared.outside.RecvOut.{RecvOut}
use Rattle.scl_outside.specs.declared.outside.RecvOut.TheVariants as got

-- These planned entries are left.
abbrev pub entries_left : Inbox → List Inbound
entries_left i = drop i.next i.entries.items

-- The next call for a datagram answers this.
abbrev pub next_reception : Inbox → Reception
next_reception i = first_of i.never_fails (entries_left i)

-- These datagrams are left.
abbrev pub inbound_left : Inbox → List (List ℕ)
inbound_left i = datagrams_in (entries_left i)

-- These answers were given, as far as they are told.
abbrev pub received_of : Inbox → Option (List Reception)
received_of i = received_in i.entries.items i.answers

-- After one more answer these are told.
abbrev pub received_after : Inbox → Reception → Option (List Reception)
received_after i reception = with_room (room_of i.answers) (received_of i) (reception ∷ [])

-- A call answered this reception, with the datagram at the buffer's front.
abbrev pub IsReception : RecvOut → List ℕ → Reception → Type 0
IsReception (got.Got n) buf (receptions.Arrived d) = IsAtFront d n buf
IsReception got.NotReady buf receptions.NotReady = Unit {0}
IsReception got.Closed buf receptions.Closed = Unit {0}
IsReception got.Failed buf receptions.Failed = Unit {0}
IsReception result buf reception = ⊥

-- A call for a datagram failed.
abbrev pub recv_fails : RecvOut → Bool
recv_fails (got.Got n) = false
recv_fails got.NotReady = false
recv_fails got.Closed = false
recv_fails got.Failed = true

-- A call for a datagram answers what is planned, records the answer, and goes on to the next entry.
pub record TakesNext (i : Inbox) (result : RecvOut) (buf : List ℕ) (j : Inbox) : Type 0 where
  pub gives : IsReception result buf (next_reception i)
  pub left : entries_left j ≡ after_first (entries_left i)
  pub told : received_of j ≡ received_after i (next_reception i)
  pub room : room_of j.answers ≡ room_of i.answers
  pub never_fails : j.never_fails ≡ i.never_fails
