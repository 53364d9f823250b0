-- What is promised of packet headers with their EPH: each is read, refused or unfinished in one way.
use Rattle.std.specs.Prelude.{◌≡◌, ◌≤◌, ◌⊎◌, ◌++◌, ℕ, Bool, List, length, take}
use Rattle.codestream_model.specs.Values.{Grid, Block}
use Rattle.codestream_model.specs.Bytes.{IsBytes}
use Rattle.codestream_model.specs.HeaderPieces.{HeaderRefusal}
use Rattle.codestream_model.specs.PacketHeader.{HaveOwnBands}
use Rattle.codestream_model.specs.PacketHeaderReading.{Done, Need, Bad}
use Rattle.codestream_model.specs.MarkedHeader.{SpellsMarkedHeader, RefusesMarkedHeader, NeedsMarkedHeaderBytes, marked_header_of}

-- A header with its EPH is read as it is spelled, whatever follows it.
abbrev pub MarkedHeadersAreRead : Type 0
MarkedHeadersAreRead =
    (gs : List Grid) (eph : Bool) (blocks : List Block) (header more : List ℕ) → HaveOwnBands gs → SpellsMarkedHeader gs eph blocks header
    → marked_header_of gs eph (header ++ more) ≡ Done (length header) blocks

-- What is read of bytes is a header with its EPH at their start.
abbrev pub MarkedHeadersAreSound : Type 0
MarkedHeadersAreSound =
    (gs : List Grid) (eph : Bool) (bytes : List ℕ) (used : ℕ) (blocks : List Block) → IsBytes bytes → HaveOwnBands gs
    → marked_header_of gs eph bytes ≡ Done used blocks → SpellsMarkedHeader gs eph blocks (take used bytes)

-- Bytes that are refused are read as refused, for the same reason.
abbrev pub MarkedRefusalsAreRead : Type 0
MarkedRefusalsAreRead =
    (gs : List Grid) (eph : Bool) (bytes : List ℕ) (why : HeaderRefusal) → HaveOwnBands gs → RefusesMarkedHeader gs eph bytes why → marked_header_of gs eph bytes ≡ Bad why

-- What is read as refused is refused.
abbrev pub MarkedRefusalsAreSound : Type 0
MarkedRefusalsAreSound =
    (gs : List Grid) (eph : Bool) (bytes : List ℕ) (why : HeaderRefusal) → IsBytes bytes → HaveOwnBands gs → marked_header_of gs eph bytes ≡ Bad why → RefusesMarkedHeader gs eph bytes why

-- Bytes that end before a header with its EPH does, and that nothing refuses, are read so.
abbrev pub MarkedNeedsAreRead : Type 0
MarkedNeedsAreRead = (gs : List Grid) (eph : Bool) (bytes : List ℕ) → HaveOwnBands gs → NeedsMarkedHeaderBytes gs eph bytes → marked_header_of gs eph bytes ≡ Need

-- What is read so ends before a header with its EPH does, and nothing refuses it.
abbrev pub MarkedNeedsAreSound : Type 0
MarkedNeedsAreSound = (gs : List Grid) (eph : Bool) (bytes : List ℕ) → IsBytes bytes → HaveOwnBands gs → marked_header_of gs eph bytes ≡ Need → NeedsMarkedHeaderBytes gs eph bytes

-- A refusal stays, whatever follows.
abbrev pub MarkedRefusalsStay : Type 0
MarkedRefusalsStay = (gs : List Grid) (eph : Bool) (bytes more : List ℕ) (why : HeaderRefusal) → RefusesMarkedHeader gs eph bytes why → RefusesMarkedHeader gs eph (bytes ++ more) why

-- The bytes begin with a header and its EPH.
abbrev pub BeginWithMarkedHeader : List Grid → Bool → List ℕ → Type 0
BeginWithMarkedHeader gs eph bytes = (blocks : List Block) × (header : List ℕ) × (more : List ℕ) × SpellsMarkedHeader gs eph blocks header × (bytes ≡ header ++ more)

-- Bytes begin with a header and its EPH, or are refused, or end before them.
abbrev pub MarkedHeadersAreJudged : Type 0
MarkedHeadersAreJudged =
    (gs : List Grid) (eph : Bool) (bytes : List ℕ) → IsBytes bytes → HaveOwnBands gs
    → BeginWithMarkedHeader gs eph bytes ⊎ (((why : HeaderRefusal) × RefusesMarkedHeader gs eph bytes why) ⊎ NeedsMarkedHeaderBytes gs eph bytes)

-- Of these three only one holds of bytes, and a refusal has one reason.
pub record HasOneMarkedVerdict (gs : List Grid) (eph : Bool) (bytes : List ℕ) : Type 0 where
  pub one_reason : (why other : HeaderRefusal) → RefusesMarkedHeader gs eph bytes why → RefusesMarkedHeader gs eph bytes other → why ≡ other
  pub not_refused : BeginWithMarkedHeader gs eph bytes → (why : HeaderRefusal) → RefusesMarkedHeader gs eph bytes why → ⊥
  pub not_unfinished : BeginWithMarkedHeader gs eph bytes → NeedsMarkedHeaderBytes gs eph bytes → ⊥
  pub not_both : (why : HeaderRefusal) → RefusesMarkedHeader gs eph bytes why → NeedsMarkedHeaderBytes gs eph bytes → ⊥

-- This holds of all bytes.
abbrev pub MarkedHeadersHaveOneVerdict : Type 0
MarkedHeadersHaveOneVerdict = (gs : List Grid) (eph : Bool) (bytes : List ℕ) → HaveOwnBands gs → HasOneMarkedVerdict gs eph bytes

-- Bytes begin with one header and its EPH at most, and it says one thing.
abbrev pub MarkedHeadersAreReadOneWay : Type 0
MarkedHeadersAreReadOneWay =
    (gs : List Grid) (eph : Bool) (blocks others : List Block) (header other more rest : List ℕ) → HaveOwnBands gs → SpellsMarkedHeader gs eph blocks header → SpellsMarkedHeader gs eph others other
    → header ++ more ≡ other ++ rest → (header ≡ other) × (blocks ≡ others)

-- A header with its EPH that lacks its last bytes is unfinished.
abbrev pub MarkedFrontsNeedBytes : Type 0
MarkedFrontsNeedBytes =
    (gs : List Grid) (eph : Bool) (blocks : List Block) (front rest : List ℕ) → HaveOwnBands gs → SpellsMarkedHeader gs eph blocks (front ++ rest) → 1 ≤ length rest
    → NeedsMarkedHeaderBytes gs eph front
