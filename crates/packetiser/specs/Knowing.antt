-- What a sender knows of the codestreams of which its reader gave bytes.
use Rattle.std.specs.Prelude.{◌≡◌, ◌⊎◌, ◌<◌, ◌≤◌, ◌+◌, ◌++◌, ℕ, List, [], ◌∷◌, length}
use Rattle.std.specs.List.{AllZip}
use Rattle.codestream_model.specs.Values.{Head, Place, Block}
use Rattle.codestream_model.specs.MainHeader.{SpellsHead}
use Rattle.codestream_model.specs.PacketOrder.{IsPacketOrder}
use Rattle.codestream_model.specs.Packet.{Content, SpellsPacketHeader, HasFewBlocks, segment_bytes}
use Rattle.codestream_model.specs.Codestream.{joined}
use Rattle.stream_model.specs.Stream.{Parts, ArePackets, ArePartsOf}
use Rattle.stream_model.specs.Cut.{Piece, Known, pieces_of}
use Rattle.codestream_walk.specs.Walking.{Stage, AtStart, AtNext, InBody, AtEnd, Walking}
use Rattle.packetiser.specs.Filled.{part}

-- The bytes are a main header and whole packets; those of the precincts `later` are to come.
pub record HasPackets
    (h : Head) (later : List Place) (bytes header : List ℕ) (pieces : List Piece)
    : Type 0 where
  pub before : List Place
  pub content : List Content
  pub packets : List (List ℕ)
  pub is_head : SpellsHead h header
  pub order : IsPacketOrder h (before ++ later)
  pub are_packets : ArePackets h before content packets
  pub whole : bytes ≡ header ++ joined packets
  pub are_pieces : pieces ≡ pieces_of before packets

-- The bytes are a main header, whole packets, and of the packet of a precinct the header and all but the last `left`
-- bytes of its segments.
pub record HasPart
    (h : Head) (p : Place) (blocks : List Block) (later : List Place) (left : ℕ)
    (bytes header : List ℕ) (pieces : List Piece)
    : Type 0 where
  pub before : List ℕ
  pub earlier : List Piece
  pub packets : HasPackets h (p ∷ later) before header earlier
  pub start : List ℕ
  pub segments : List ℕ
  pub few_blocks : HasFewBlocks h p
  pub is_header : SpellsPacketHeader h p blocks start
  pub some : 1 ≤ left
  pub length_is : length segments + left ≡ segment_bytes blocks
  pub fits : length start + segment_bytes blocks ≤ 16777216
  pub whole : bytes ≡ before ++ (start ++ segments)
  pub are_pieces : pieces ≡ earlier ++ record { place = p; bytes = start ++ segments } ∷ []

-- At this stage of its reader a sender knows this of the codestream begun last.
abbrev pub IsKnown : Stage → List ℕ → List Known → Type 0
IsKnown AtStart bytes known = (bytes ≡ []) × (known ≡ [])
IsKnown (AtNext h later size) bytes known =
    (header : List ℕ) × (pieces : List Piece) × (size ≡ length bytes)
    × HasPackets h later bytes header pieces × (known ≡ part h header pieces ∷ [])
IsKnown (InBody h p blocks later size left) bytes known =
    (header : List ℕ) × (pieces : List Piece) × (size ≡ length bytes)
    × HasPart h p blocks later left bytes header pieces × (known ≡ part h header pieces ∷ [])
IsKnown AtEnd bytes known = ⊥

-- The bytes `consumed` of an input are whole codestreams of these parts, and this is known of one more.
pub record Knows
    (consumed : List ℕ) (w : Walking) (parts : List Parts) (known : List Known)
    : Type 0 where
  pub codestreams : List (List ℕ)
  pub front : List ℕ
  pub whole : consumed ≡ joined codestreams ++ front
  pub are_parts : AllZip (λ c codestream. ArePartsOf c codestream) parts codestreams
  pub count : w.codestreams ≡ length codestreams
  pub few : w.codestreams ≤ 65536
  pub room : (front ≡ []) ⊎ (w.codestreams < 65536)
  pub offset : w.offset ≡ length consumed
  pub is_known : IsKnown w.stage front known
