-- What each call does to what an object tells, and that all else stays.
use Rattle.std.specs.Prelude.{◌≡◌, ◌≤◌, ◌+◌, ℕ, Bool, true, false, List, [], ◌∷◌, length, Option, Some, None, IfSome, MatchBool}
use Rattle.std.specs.List.{flat_map}
use Rattle.wire_model.specs.Causes.{Rose, Grew, Fell}
use Rattle.wire_model.specs.Receptions.{Reception}
use Rattle.scl_outside.specs.Meaning.{Meaning, Wire}
use Rattle.scl_outside.specs.Events.{Event, WireEvent, IsCall, datagram_in, taken_by, written_by, noted_by, wire_by, asks, is_end, read_fails, write_fails, arrived_by, received_by, sent_by, replies_by, bound_by, joined_by, peers_by, wire_fails, peer_fails}
use Rattle.scl_outside.specs.declared.duct.Mark.{Mark}

-- A list that the call is about grows by these items. Any other stays, and stays told.
abbrev pub Moves : {A : Type 0} → Option (List A) → Option (List A) → Option (List A) → Type 0
Moves before now None = now ≡ before
Moves before now (Some items) = Grew before now items

-- A list of what is left loses these items where the call is about it. Any other stays, and stays told.
abbrev pub Loses : {A : Type 0} → Option (List A) → Option (List A) → Option (List A) → Type 0
Loses before now None = now ≡ before
Loses before now (Some items) = Fell before now items

-- A count never falls, and rises where the call fails.
abbrev pub Counts : Bool → ℕ → ℕ → Type 0
Counts false before now = before ≤ now
Counts true before now = (before ≤ now) × Rose before now

-- These are the datagrams among answers, where the answers are told.
abbrev pub datagrams_of : Option (List Reception) → Option (List (List ℕ))
datagrams_of None = None
datagrams_of (Some answers) = Some (flat_map datagram_in answers)

-- The numbers of a mark say how far the object was, where that is told.
pub record IsMarkOf (s : Meaning) (m : Mark) : Type 0 where
  pub read : IfSome s.read (λ bytes. m.read ≡ length bytes)
  pub received : IfSome (datagrams_of s.wire.received) (λ datagrams. m.received ≡ length datagrams)
  pub written : IfSome s.written (λ bytes. m.written ≡ length bytes)
  pub sent : IfSome s.wire.sent (λ parcels. m.sent ≡ length parcels)

-- A call that asks for input adds a mark of how far the object was before it.
abbrev pub Marks : Bool → Meaning → Option (List Mark) → Type 0
Marks false s now = now ≡ s.marks
Marks true s None = Unit {0}
Marks true s (Some now) = (m : Mark) × IsMarkOf s m × Grew s.marks (Some now) (m ∷ [])

-- A call of the wire changes what it is about, and all else of the wire stays but for counts of faults.
pub record WireStep (s : Wire) (w : WireEvent) (t : Wire) : Type 0 where
  pub inbound : Loses s.inbound t.inbound (arrived_by w)
  pub received : Moves s.received t.received (received_by w)
  pub sent : Moves s.sent t.sent (sent_by w)
  pub replies : Moves s.replies t.replies (replies_by w)
  pub bound : Moves s.bound t.bound (bound_by w)
  pub joined : Moves s.joined t.joined (joined_by w)
  pub peers : t.peers ≡ s.peers + peers_by w
  pub faults : Counts (wire_fails w) s.faults t.faults
  pub peer_faults : (peer : ℕ) → Counts (peer_fails peer w) (s.peer_faults peer) (t.peer_faults peer)

-- Where no call of the wire is made, its lists and its peers stay, and no count of faults falls.
pub record KeepsWire (s t : Wire) : Type 0 where
  pub inbound : t.inbound ≡ s.inbound
  pub received : t.received ≡ s.received
  pub sent : t.sent ≡ s.sent
  pub replies : t.replies ≡ s.replies
  pub bound : t.bound ≡ s.bound
  pub joined : t.joined ≡ s.joined
  pub peers : t.peers ≡ s.peers
  pub faults : s.faults ≤ t.faults
  pub peer_faults : (peer : ℕ) → s.peer_faults peer ≤ t.peer_faults peer

-- These calls of the wire, one after another, led from the first wire to the second.
abbrev pub WireTrace : Wire → List WireEvent → Wire → Type 0
WireTrace s [] t = KeepsWire s t
WireTrace s (w ∷ ws) t = (m : Wire) × WireStep s w m × WireTrace m ws t

-- Where what is left is told, nothing is left.
abbrev pub IsOver : Meaning → Type 0
IsOver t = IfSome t.left (λ rest. rest ≡ [])

-- A call changes what it is about by what it says, and all else stays but for counts of faults, which never
-- fall.
pub record Step (s : Meaning) (e : Event) (t : Meaning) : Type 0 where
  pub some : IsCall e
  pub read : Moves s.read t.read (taken_by e)
  pub left : Loses s.left t.left (taken_by e)
  pub over : MatchBool (is_end e) (IsOver t) (Unit {0})
  pub written : Moves s.written t.written (written_by e)
  pub noted : Moves s.noted t.noted (noted_by e)
  pub marks : Marks (asks e) s t.marks
  pub wire : WireTrace s.wire (wire_by e) t.wire
  pub read_faults : Counts (read_fails e) s.read_faults t.read_faults
  pub write_faults : Counts (write_fails e) s.write_faults t.write_faults
