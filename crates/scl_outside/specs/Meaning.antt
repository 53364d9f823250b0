-- What an object of the outside tells of itself: each list only where the object can tell it, the counts
-- always.
use Rattle.std.specs.Prelude.{ℕ, List, [], Option, Some, None}
use Rattle.wire_model.specs.Receptions.{Reception}
use Rattle.wire_model.specs.LinkAnswers.{LinkAnswer}
use Rattle.scl_outside.specs.declared.duct.Mark.{Mark}

-- A parcel is a datagram with the number of its peer.
pub record Parcel : Type 0 where
  pub peer : ℕ
  pub bytes : List ℕ

-- A reply is an answer of a peer's link with the number of its peer.
pub record Reply : Type 0 where
  pub peer : ℕ
  pub answer : LinkAnswer

-- A wire tells the inbound datagrams left, the answers to calls for one, what was sent, the answers of
-- links, the addresses bound and joined, the number of peers, and its counts of faults.
pub record Wire : Type 0 where
  pub inbound : Option (List (List ℕ))
  pub received : Option (List Reception)
  pub sent : Option (List Parcel)
  pub replies : Option (List Reply)
  pub bound : Option (List (List ℕ))
  pub joined : Option (List (List ℕ))
  pub peers : ℕ
  pub faults : ℕ
  pub peer_faults : ℕ → ℕ

-- An object tells the bytes read and left of its input, those written and noted, a mark for each call that
-- asks for input, its wire, and its counts of reads and writes that failed.
pub record Meaning : Type 0 where
  pub read : Option (List ℕ)
  pub left : Option (List ℕ)
  pub written : Option (List ℕ)
  pub noted : Option (List ℕ)
  pub marks : Option (List Mark)
  pub wire : Wire
  pub read_faults : ℕ
  pub write_faults : ℕ

-- On this wire nothing comes in, and nothing was received, sent or named.
abbrev pub no_wire : Wire
no_wire = record {
  inbound = Some [];
  received = Some [];
  sent = Some [];
  replies = Some [];
  bound = Some [];
  joined = Some [];
  peers = 0;
  faults = 0;
  peer_faults = λ peer. 0;
}

-- A wire that tells nothing but its number of peers and its counts.
abbrev pub silent_wire : ℕ → ℕ → (ℕ → ℕ) → Wire
silent_wire peers faults peer_faults = record {
  inbound = None;
  received = None;
  sent = None;
  replies = None;
  bound = None;
  joined = None;
  peers = peers;
  faults = faults;
  peer_faults = peer_faults;
}

-- An object that tells nothing but its counts, and has no wire.
abbrev pub silent : ℕ → ℕ → Meaning
silent read_faults write_faults = record {
  read = None;
  left = None;
  written = None;
  noted = None;
  marks = None;
  wire = silent_wire 0 0 (λ peer. 0);
  read_faults = read_faults;
  write_faults = write_faults;
}
