-- The datagrams that the bytes of an input already fix, computed. The law `ClosedIsComputed` says
-- that they are those of `Closed`.
use Rattle.std.specs.Prelude.{ℕ, zero, suc, List, [], ◌∷◌, map, take, drop, Ok, Err, if◌then◌else◌}
use Rattle.wire_model.specs.Datagram.{Datagram}
use Rattle.codestream_model.specs.Values.{Head, Place}
use Rattle.codestream_model.specs.Precincts.{grids}
use Rattle.codestream_model.specs.PacketOrder.{packet_order}
use Rattle.codestream_model.specs.MainHeaderReading.{head_of}
use Rattle.codestream_model.specs.PacketHeaderReading.{HeaderReading, Done, Need, Bad}
use Rattle.codestream_model.specs.MarkedHeader.{marked_header_of}
use Rattle.stream_model.specs.Decoder.{found_packet, Whole, Part, Other}
use Rattle.stream_model.specs.Commands.{Walked, walk}
use Rattle.stream_model.specs.Cut.{Plan, Piece, Known, datagrams_by, datagram_bytes, sendable}

-- The greatest number of codestreams of a run.
abbrev pub most_codestreams : ℕ
most_codestreams = 65536

-- The greatest number of datagrams of a run: fewer than 2^23.
abbrev pub most_datagrams : ℕ
most_datagrams = 8388607

-- What is there of a packet that isn't whole: its bytes, where its header is whole, and else
-- nothing.
abbrev pub opened_by : Place → List ℕ → HeaderReading → List Piece
opened_by p bytes (Done used blocks) = record { place = p; bytes = bytes } ∷ []
opened_by p bytes Need = []
opened_by p bytes (Bad why) = []

-- The packets of these precincts at the front of bytes, as far as they are there.
unfoldable pub pieces_at : Head → List Place → List ℕ → List Piece
pieces_at h [] bytes = []
pieces_at h (p ∷ places) bytes = elim (found_packet h p bytes) [
  | Whole blocks header size ↦
      record { place = p; bytes = take size bytes } ∷ pieces_at h places (drop size bytes)
  | Part ↦ opened_by p bytes (marked_header_of (grids h p) h.eph bytes)
  | Other ↦ []
]

-- The bytes of a codestream with this main header walked through: whether it is whole, and the
-- bytes after it.
abbrev pub walk_of : Head → List ℕ → Walked
walk_of h bytes = walk h 0 h.length (packet_order h) (drop h.length bytes)

-- What is there of a codestream with this main header.
abbrev pub known_at : Head → List ℕ → Known
known_at h bytes = record {
  head = h;
  header = take h.length bytes;
  pieces = pieces_at h (packet_order h) (drop h.length bytes);
  ended = (walk_of h bytes).whole;
}

-- What is there of the codestreams at the front of bytes: of at most `n` whole ones, and of the
-- next.
unfoldable pub known : ℕ → List ℕ → List Known
known zero bytes = []
known (suc n) bytes = elim (head_of bytes) [
  | Ok h ↦
      known_at h bytes ∷ (if (walk_of h bytes).whole then known n (walk_of h bytes).rest else [])
  | Err why ↦ []
]

-- The datagrams that bytes fix, without regard to how many a run may send.
abbrev pub due_by : Plan → List ℕ → List Datagram
due_by p bytes = datagrams_by p (sendable p (known most_codestreams bytes))

-- The datagrams that bytes fix.
abbrev pub closed : Plan → List ℕ → List (List ℕ)
closed p bytes = map datagram_bytes (take most_datagrams (due_by p bytes))
