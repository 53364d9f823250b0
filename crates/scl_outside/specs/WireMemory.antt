-- A wire in memory: what it tells, and what each of its calls does.
use Rattle.std.specs.Prelude.{◌≡◌, ◌+◌, ◌-◌, ◌^◌, ℕ, Bool, List, [], Some, IsSome, get_or, min, replicate, if◌then◌else◌}
use Rattle.scl_outside.specs.Meaning.{Wire, no_wire}
use Rattle.scl_outside.specs.Steps.{Counts}
use Rattle.scl_outside.specs.Record.{room_of}
use Rattle.scl_outside.specs.Texts.{texts_of, texts_room}
use Rattle.scl_outside.specs.Inbound.{datagrams_in}
use Rattle.scl_outside.specs.Inbox.{entries_left, inbound_left, received_of, TakesNext}
use Rattle.scl_outside.specs.LinkPlans.{replies_of, SendsNext}
use Rattle.scl_outside.specs.Addresses.{addresses_of, BindsNext, JoinsNext}
use Rattle.scl_outside.specs.declared.inbox.Inbound.{Inbound}
use Rattle.scl_outside.specs.declared.links.LinkPlan.{LinkPlan}
use Rattle.scl_outside.specs.declared.wire_mem.WireMem.{WireMem}
use Rattle.scl_outside.specs.declared.outside.BindOut.{BindOut}
use Rattle.scl_outside.specs.declared.outside.RecvOut.{RecvOut}
use Rattle.scl_outside.specs.declared.outside.SendOut.{SendOut}

-- A wire in memory tells this.
abbrev pub wire_of : WireMem → Wire
wire_of w = record {
  inbound = Some (inbound_left w.inbox);
  received = received_of w.inbox;
  sent = texts_of w.links.sent;
  replies = replies_of w.links;
  bound = addresses_of w.addresses.bound;
  joined = addresses_of w.addresses.joined;
  peers = w.addresses.peers;
  faults = w.faults;
  peer_faults = λ peer. get_or w.links.faults peer 0;
}

-- A call for a datagram changes the way in alone.
pub record ReceivesInMemory (w : WireMem) (result : RecvOut) (buf : List ℕ) (v : WireMem) : Type 0 where
  pub takes : TakesNext w.inbox result buf v.inbox
  pub links : v.links ≡ w.links
  pub addresses : v.addresses ≡ w.addresses

-- A call that sends a datagram changes the links alone.
pub record SendsInMemory (w : WireMem) (peer : ℕ) (bytes : List ℕ) (result : SendOut) (v : WireMem)
    : Type 0 where
  pub sends : SendsNext w.links peer bytes result v.links
  pub inbox : v.inbox ≡ w.inbox
  pub addresses : v.addresses ≡ w.addresses

-- A call that names the local address changes the addresses alone.
pub record BindsInMemory (w : WireMem) (text : List ℕ) (result : BindOut) (v : WireMem) : Type 0 where
  pub binds : BindsNext w.addresses text result v.addresses
  pub inbox : v.inbox ≡ w.inbox
  pub links : v.links ≡ w.links

-- A call that joins a peer changes the addresses alone.
pub record JoinsInMemory (w : WireMem) (text : List ℕ) (result : BindOut) (v : WireMem) : Type 0 where
  pub joins : JoinsNext w.addresses text result v.addresses
  pub inbox : v.inbox ≡ w.inbox
  pub links : v.links ≡ w.links

-- A failure is counted, and nothing else changes.
pub record CountsFault (w : WireMem) (failed : Bool) (v : WireMem) : Type 0 where
  pub faults : v.faults ≡ (if failed then min (w.faults + 1) (2 ^ 64 - 1) else w.faults)
  pub counts : Counts failed w.faults v.faults
  pub inbox : v.inbox ≡ w.inbox
  pub links : v.links ≡ w.links
  pub addresses : v.addresses ≡ w.addresses

-- All lists of a wire are told.
abbrev pub TellsWire : Wire → Type 0
TellsWire w = IsSome w.received × IsSome w.sent × IsSome w.replies × IsSome w.bound × IsSome w.joined

-- On this wire these datagrams are left, nothing was received, sent or named, and nothing failed.
abbrev pub fresh_wire : List (List ℕ) → Wire
fresh_wire inbound = record no_wire { inbound = Some inbound }

-- Each record of a wire has room for this number of items.
pub record HasRoom (w : WireMem) (room : ℕ) : Type 0 where
  pub received : room_of w.inbox.answers ≡ room
  pub sent : texts_room w.links.sent ≡ room
  pub replies : room_of w.links.replies ≡ room
  pub bound : texts_room w.addresses.bound ≡ room
  pub joined : texts_room w.addresses.joined ≡ room

-- These entries and links are planned for a wire, these calls are to fail to name an address, and no call
-- was made.
pub record IsPlanned (inbound : List Inbound) (links : List LinkPlan) (bad_binds : List ℕ) (never_fails : Bool)
    (w : WireMem) : Type 0 where
  pub entries : entries_left w.inbox ≡ inbound
  pub plans : w.links.plans.items ≡ links
  pub asked : w.links.asked ≡ replicate 64 0
  pub bad : w.addresses.bad.items ≡ bad_binds
  pub calls : w.addresses.calls ≡ 0
  pub inbox_fails : w.inbox.never_fails ≡ never_fails
  pub links_fail : w.links.never_fails ≡ never_fails

-- A new wire has nothing coming in and no plans for its links.
pub record StartsWire (bad_binds : List ℕ) (never_fails : Bool) (len : ℕ) (w : WireMem) : Type 0 where
  pub meaning : wire_of w ≡ no_wire
  pub planned : IsPlanned [] [] bad_binds never_fails w
  pub room : HasRoom w len

-- A wire that is planned anew forgets all that was done on it. Its rooms and the calls that are to fail stay.
pub record PlansWire (w : WireMem) (inbound : List Inbound) (links : List LinkPlan) (v : WireMem) : Type 0 where
  pub meaning : wire_of v ≡ fresh_wire (datagrams_in inbound)
  pub planned : w.inbox.never_fails ≡ w.links.never_fails
      → IsPlanned inbound links w.addresses.bad.items w.inbox.never_fails v
  pub room : (len : ℕ) → HasRoom w len → HasRoom v len
