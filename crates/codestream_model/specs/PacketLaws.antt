-- What is promised of the definitions of packets and of their headers.
use Rattle.std.specs.Prelude.{◌≡◌, ◌<◌, ◌≤◌, ◌^◌, ◌⊎◌, ◌++◌, ℕ, Bool, List, [], ◌∷◌, length, take}
use Rattle.codestream_model.specs.Values.{Head, Place, Grid, Block}
use Rattle.codestream_model.specs.Bytes.{IsBytes}
use Rattle.codestream_model.specs.StuffedBits.{carried, Packs, packing}
use Rattle.codestream_model.specs.TagTrees.{exponent}
use Rattle.codestream_model.specs.HeaderPieces.{HeaderRefusal, TooLong}
use Rattle.codestream_model.specs.PacketHeader.{HaveOwnBands, AreBlocks, HeaderBits, SpellsHeader, RefusesHeader, NeedsHeaderBytes, written_bits}
use Rattle.codestream_model.specs.PacketHeaderReading.{Done, Need, Bad, header_of}
use Rattle.codestream_model.specs.Packet.{Content, SpellsPacket}
use Rattle.codestream_model.specs.Codestream.{SpellsPackets}

-- `packing` produces bytes that `Packs` accepts.
abbrev pub PackingPacks : Type 0
PackingPacks = (bits : List Bool) → 1 ≤ length bits → Packs bits (packing bits)

-- The bits that are packed in bytes are the first that the bytes carry.
abbrev pub PackedBitsAreCarried : Type 0
PackedBitsAreCarried = (bits : List Bool) (bytes : List ℕ) → Packs bits bytes → (more : List Bool) × (carried bytes ≡ bits ++ more)

-- Of two runs of bits that are packed in the same bytes one is a prefix of the other.
abbrev pub PackedBitsAgree : Type 0
PackedBitsAgree = (bits others : List Bool) (bytes : List ℕ) → Packs bits bytes → Packs others bytes → (more : List Bool) × ((others ≡ bits ++ more) ⊎ (bits ≡ others ++ more))

-- The exponent of a number is the least whose power of two isn't below it.
abbrev pub ExponentIsLeast : Type 0
ExponentIsLeast = (n : ℕ) → (n ≤ 2 ^ exponent n) × ((e : ℕ) → n ≤ 2 ^ e → exponent n ≤ e)

-- A header is read as it is spelled, whatever follows it.
abbrev pub HeadersAreRead : Type 0
HeadersAreRead = (gs : List Grid) (blocks : List Block) (header more : List ℕ) → HaveOwnBands gs → SpellsHeader gs blocks header → header_of gs (header ++ more) ≡ Done (length header) blocks

-- What is read of bytes is a header at their start.
abbrev pub HeadersAreSound : Type 0
HeadersAreSound = (gs : List Grid) (bytes : List ℕ) (used : ℕ) (blocks : List Block) → IsBytes bytes → HaveOwnBands gs → header_of gs bytes ≡ Done used blocks → SpellsHeader gs blocks (take used bytes)

-- Bytes that are refused are read as refused, for the same reason.
abbrev pub RefusalsAreRead : Type 0
RefusalsAreRead = (gs : List Grid) (bytes : List ℕ) (why : HeaderRefusal) → HaveOwnBands gs → RefusesHeader gs bytes why → header_of gs bytes ≡ Bad why

-- What is read as refused is refused.
abbrev pub RefusalsAreSound : Type 0
RefusalsAreSound = (gs : List Grid) (bytes : List ℕ) (why : HeaderRefusal) → IsBytes bytes → HaveOwnBands gs → header_of gs bytes ≡ Bad why → RefusesHeader gs bytes why

-- Bytes that end before a header does, and before it is refused, are read as unfinished.
abbrev pub NeedsAreRead : Type 0
NeedsAreRead = (gs : List Grid) (bytes : List ℕ) → HaveOwnBands gs → NeedsHeaderBytes gs bytes → header_of gs bytes ≡ Need

-- What is read as unfinished ends before a header does, and before it is refused.
abbrev pub NeedsAreSound : Type 0
NeedsAreSound = (gs : List Grid) (bytes : List ℕ) → IsBytes bytes → HaveOwnBands gs → header_of gs bytes ≡ Need → NeedsHeaderBytes gs bytes

-- The bytes begin with a header.
abbrev pub BeginWithHeader : List Grid → List ℕ → Type 0
BeginWithHeader gs bytes = (blocks : List Block) × (header : List ℕ) × (more : List ℕ) × SpellsHeader gs blocks header × (bytes ≡ header ++ more)

-- Bytes begin with a header, or are refused, or end before a header does.
abbrev pub PacketHeadersAreJudged : Type 0
PacketHeadersAreJudged =
    (gs : List Grid) (bytes : List ℕ) → IsBytes bytes → HaveOwnBands gs
    → BeginWithHeader gs bytes ⊎ (((why : HeaderRefusal) × RefusesHeader gs bytes why) ⊎ NeedsHeaderBytes gs bytes)

-- Only one of these three holds of the bytes, and a refusal has one reason.
pub record HasOneVerdict (gs : List Grid) (bytes : List ℕ) : Type 0 where
  pub one_reason : (why other : HeaderRefusal) → RefusesHeader gs bytes why → RefusesHeader gs bytes other → why ≡ other
  pub not_refused : BeginWithHeader gs bytes → (why : HeaderRefusal) → RefusesHeader gs bytes why → ⊥
  pub not_unfinished : BeginWithHeader gs bytes → NeedsHeaderBytes gs bytes → ⊥
  pub not_both : (why : HeaderRefusal) → RefusesHeader gs bytes why → NeedsHeaderBytes gs bytes → ⊥

-- Any bytes have one verdict as packet headers.
abbrev pub PacketHeadersHaveOneVerdict : Type 0
PacketHeadersHaveOneVerdict = (gs : List Grid) (bytes : List ℕ) → HaveOwnBands gs → HasOneVerdict gs bytes

-- A refusal stays, whatever follows.
abbrev pub RefusalsStay : Type 0
RefusalsStay = (gs : List Grid) (bytes more : List ℕ) (why : HeaderRefusal) → RefusesHeader gs bytes why → RefusesHeader gs (bytes ++ more) why

-- A header without its last bytes is unfinished.
abbrev pub HeaderFrontsNeedBytes : Type 0
HeaderFrontsNeedBytes =
    (gs : List Grid) (blocks : List Block) (front rest : List ℕ) → HaveOwnBands gs → SpellsHeader gs blocks (front ++ rest) → 1 ≤ length rest → NeedsHeaderBytes gs front

-- A header of more than 65,536 bytes, all else of which is as it should be, is refused for its length, whatever follows it.
abbrev pub LongHeadersAreRefused : Type 0
LongHeadersAreRefused =
    (gs : List Grid) (blocks : List Block) (bits : List Bool) (bytes more : List ℕ) → HaveOwnBands gs → HeaderBits gs blocks bits → Packs bits bytes → 65536 < length bytes
    → RefusesHeader gs (bytes ++ more) TooLong

-- Bytes begin with at most one header, and it says one thing; so no header is a prefix of another.
abbrev pub HeadersAreReadOneWay : Type 0
HeadersAreReadOneWay =
    (gs : List Grid) (blocks others : List Block) (header other more rest : List ℕ) → HaveOwnBands gs → SpellsHeader gs blocks header → SpellsHeader gs others other
    → header ++ more ≡ other ++ rest → (header ≡ other) × (blocks ≡ others)

-- A byte whose first bit is 0 is an empty packet, and is read as one.
abbrev pub EmptyPacketIsRead : Type 0
EmptyPacketIsRead = (gs : List Grid) (byte : ℕ) (more : List ℕ) → byte < 128 → (header_of gs (byte ∷ more) ≡ Done 1 []) × SpellsHeader gs [] (byte ∷ [])

-- Bytes begin with at most one packet of a precinct, and it says one thing.
abbrev pub PacketsAreReadOneWay : Type 0
PacketsAreReadOneWay =
    (h : Head) (p : Place) (x y : Content) (packet other more rest : List ℕ) → SpellsPacket h p x packet → SpellsPacket h p y other
    → packet ++ more ≡ other ++ rest → (packet ≡ other) × (x ≡ y)

-- Bytes begin in at most one way with the packets of these precincts.
abbrev pub PacketRunsAreReadOneWay : Type 0
PacketRunsAreReadOneWay =
    (h : Head) (places : List Place) (content others : List Content) (packets other more rest : List ℕ)
    → SpellsPackets h places content packets → SpellsPackets h places others other
    → packets ++ more ≡ other ++ rest → (packets ≡ other) × (content ≡ others)

-- The header that our writer gives code-blocks says them.
abbrev pub WrittenIsHeader : Type 0
WrittenIsHeader = (gs : List Grid) (blocks : List Block) → HaveOwnBands gs → AreBlocks gs blocks → HeaderBits gs blocks (written_bits gs blocks)
