-- What the real outside tells: none of its content, its counts of faults, and its peers.
use Rattle.std.specs.Prelude.{ℕ, zero, suc, List, [], ◌∷◌, length, None}
use Rattle.scl_outside.specs.Meaning.{Meaning, Wire, silent}
use Rattle.scl_cli.specs.declared.machine.Peer.{Peer}

-- How many sends to the peer with this number failed; none where there is no such peer.
unfoldable pub faults_at : List Peer → ℕ → ℕ
faults_at [] j = 0
faults_at (p ∷ peers) zero = p.faults
faults_at (p ∷ peers) (suc j) = faults_at peers j

-- The wire of a machine with these peers, whose socket failed this often.
abbrev pub machine_wire : ℕ → List Peer → Wire
machine_wire faults peers = record {
  inbound = None;
  received = None;
  sent = None;
  replies = None;
  bound = None;
  joined = None;
  peers = length peers;
  faults = faults;
  peer_faults = faults_at peers;
}

-- The meaning of a machine with these counts of faults of its reads, its writes and its socket, and these peers.
abbrev pub machine_meaning : ℕ → ℕ → ℕ → List Peer → Meaning
machine_meaning read_faults write_faults wire_faults peers = record (silent read_faults write_faults) { wire = machine_wire wire_faults peers }
