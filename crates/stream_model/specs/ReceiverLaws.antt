-- What is promised of the rules of a receiver.
use Rattle.std.specs.Prelude.{◌≡◌, ◌<◌, ◌≤◌, ◌⊎◌, ◌↔◌, ◌+◌, ◌==◌, ◌&&◌, ◌++◌, ℕ, false, List, [], length}
use Rattle.wire_model.specs.Datagram.{datagram_of, is_well_formed}
use Rattle.codestream_model.specs.Values.{Head, Place}
use Rattle.codestream_model.specs.Bytes.{IsBytes}
use Rattle.codestream_model.specs.Precincts.{grids}
use Rattle.codestream_model.specs.HeaderPieces.{HeaderRefusal}
use Rattle.codestream_model.specs.MarkedHeader.{RefusesMarkedHeader}
use Rattle.codestream_model.specs.Packet.{Content, HasFewBlocks, block_count, SpellsPacket, IsPacketTooLong, NeedsPacketBytes}
use Rattle.stream_model.specs.Decoder.{Found, Whole, Part, Other, found_packet}
use Rattle.stream_model.specs.Receiver.{Pick, Receiver, take_frame, received, flushed}

-- A frame that isn't a well-formed datagram of the payload type changes the count of refused frames alone.
abbrev pub MalformedFramesAreCountedAlone : Type 0
MalformedFramesAreCountedAlone = (pick : Pick) (r : Receiver) (frame : List ℕ) → (is_well_formed frame && ((datagram_of frame).rtp.kind == pick.kind)) ≡ false → take_frame pick r frame ≡ record r { refused = r.refused + 1 }

-- Each frame is counted once: kept, old or refused.
abbrev pub EachFrameIsCountedOnce : Type 0
EachFrameIsCountedOnce = (pick : Pick) (frames : List (List ℕ)) → (flushed (received pick frames)).kept + (flushed (received pick frames)).old + (flushed (received pick frames)).refused ≡ length frames

-- What is where a precinct's packet should be: a whole packet with these code-blocks, and the numbers of bytes of its
-- header and of itself; no bytes, or less than a packet; or, in some bytes, a precinct with too many code-blocks, a
-- refused header, or a packet that would be too long.
abbrev pub FoundIs : Head → Place → List ℕ → Found → Type 0
FoundIs h p bytes (Whole blocks header size) =
    (x : Content) × (packet : List ℕ) × (more : List ℕ) × (s : SpellsPacket h p x packet) × (bytes ≡ packet ++ more)
    × (x.blocks ≡ blocks) × (length s.header ≡ header) × (length packet ≡ size)
FoundIs h p bytes Part = (bytes ≡ []) ⊎ NeedsPacketBytes h p bytes
FoundIs h p bytes Other =
    (1 ≤ length bytes) × ((65536 < block_count (grids h p))
    ⊎ (HasFewBlocks h p × (((why : HeaderRefusal) × RefusesMarkedHeader (grids h p) h.eph bytes why) ⊎ IsPacketTooLong h p bytes)))

-- What is found of a packet is what is there.
abbrev pub FoundIsWhatStands : Type 0
FoundIsWhatStands = (h : Head) (p : Place) (bytes : List ℕ) (f : Found) → IsBytes bytes → (found_packet h p bytes ≡ f) ↔ FoundIs h p bytes f
