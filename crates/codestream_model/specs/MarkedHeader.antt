-- A packet header with what marks its end: EPH follows it where the main header says so (T.800 A.8.2).
use Rattle.std.specs.Prelude.{◌≡◌, ◌≢◌, ◌⊎◌, ◌+◌, ◌==◌, ◌&&◌, ◌++◌, ℕ, Bool, true, false, List, [], ◌∷◌, drop, if◌then◌else◌}
use Rattle.codestream_model.specs.Values.{Grid, Block}
use Rattle.codestream_model.specs.HeaderPieces.{HeaderRefusal, Stuffed, ZeroPlanes, Passes, LengthBits, CleanupShort, CleanupLong, RefineLong, TooLong, NoEph}
use Rattle.codestream_model.specs.PacketHeader.{written_header, SpellsHeader, RefusesHeader, NeedsHeaderBytes}
use Rattle.codestream_model.specs.PacketHeaderReading.{HeaderReading, Done, Need, Bad, header_of}

-- What follows each packet header: the marker EPH, FF92, or nothing.
abbrev pub end_marker : Bool → List ℕ
end_marker eph = if eph then 255 ∷ 146 ∷ [] else []

-- The bytes are a header that says these code-blocks, with EPH after it where it is asked for.
pub record SpellsMarkedHeader (grids : List Grid) (eph : Bool) (blocks : List Block) (bytes : List ℕ) : Type 0 where
  pub header : List ℕ
  pub is_header : SpellsHeader grids blocks header
  pub whole : bytes ≡ header ++ end_marker eph

-- The header that our writer gives these code-blocks, with its EPH.
abbrev pub written_marked_header : List Grid → Bool → List Block → List ℕ
written_marked_header grids eph blocks = written_header grids blocks ++ end_marker eph

-- The bytes begin with a header, and `rest` follows it.
pub record BeginsHeader (grids : List Grid) (bytes rest : List ℕ) : Type 0 where
  pub blocks : List Block
  pub header : List ℕ
  pub is_header : SpellsHeader grids blocks header
  pub whole : bytes ≡ header ++ rest

-- The bytes don't begin with EPH, and no bytes after them change that: the first isn't FF, or the second isn't 92.
abbrev pub IsNoEph : List ℕ → Type 0
IsNoEph [] = ⊥
IsNoEph (a ∷ []) = a ≢ 255
IsNoEph (a ∷ b ∷ more) = (a ≡ 255) × (b ≡ 146) → ⊥

-- The bytes are EPH without its last bytes.
abbrev pub IsPartOfEph : List ℕ → Type 0
IsPartOfEph bytes = (bytes ≡ []) ⊎ (bytes ≡ 255 ∷ [])

-- EPH is asked for, and a header is there which other bytes follow.
pub record RefusesEph (grids : List Grid) (eph : Bool) (bytes : List ℕ) : Type 0 where
  pub asked : eph ≡ true
  pub rest : List ℕ
  pub begins : BeginsHeader grids bytes rest
  pub other : IsNoEph rest

-- EPH is asked for, and the bytes end after a header and before the end of its EPH.
pub record LacksEph (grids : List Grid) (eph : Bool) (bytes : List ℕ) : Type 0 where
  pub asked : eph ≡ true
  pub rest : List ℕ
  pub begins : BeginsHeader grids bytes rest
  pub part : IsPartOfEph rest

-- Why bytes are no header with its EPH: the header is refused, or EPH is missing.
abbrev pub RefusesMarkedHeader : List Grid → Bool → List ℕ → HeaderRefusal → Type 0
RefusesMarkedHeader grids eph bytes Stuffed = RefusesHeader grids bytes Stuffed
RefusesMarkedHeader grids eph bytes ZeroPlanes = RefusesHeader grids bytes ZeroPlanes
RefusesMarkedHeader grids eph bytes Passes = RefusesHeader grids bytes Passes
RefusesMarkedHeader grids eph bytes LengthBits = RefusesHeader grids bytes LengthBits
RefusesMarkedHeader grids eph bytes CleanupShort = RefusesHeader grids bytes CleanupShort
RefusesMarkedHeader grids eph bytes CleanupLong = RefusesHeader grids bytes CleanupLong
RefusesMarkedHeader grids eph bytes RefineLong = RefusesHeader grids bytes RefineLong
RefusesMarkedHeader grids eph bytes TooLong = RefusesHeader grids bytes TooLong
RefusesMarkedHeader grids eph bytes NoEph = RefusesEph grids eph bytes

-- The bytes end before a header with its EPH does, and nothing refuses them.
abbrev pub NeedsMarkedHeaderBytes : List Grid → Bool → List ℕ → Type 0
NeedsMarkedHeaderBytes grids eph bytes = NeedsHeaderBytes grids bytes ⊎ LacksEph grids eph bytes

-- The answer after a header of `used` bytes, by the bytes that follow it.
abbrev pub after_header : Bool → List ℕ → ℕ → List Block → HeaderReading
after_header false rest used blocks = Done used blocks
after_header true [] used blocks = Need
after_header true (a ∷ []) used blocks = if a == 255 then Need else Bad NoEph
after_header true (a ∷ b ∷ more) used blocks = if (a == 255) && (b == 146) then Done (used + 2) blocks else Bad NoEph

-- The answer by what is read of the header.
abbrev pub marked_answer : Bool → List ℕ → HeaderReading → HeaderReading
marked_answer eph bytes (Done used blocks) = after_header eph (drop used bytes) used blocks
marked_answer eph bytes Need = Need
marked_answer eph bytes (Bad why) = Bad why

-- What is read at the start of bytes: a header with its EPH, a refusal, or nothing yet. The laws of `MarkedLaws` say that it is
-- what the relations say.
abbrev pub marked_header_of : List Grid → Bool → List ℕ → HeaderReading
marked_header_of grids eph bytes = marked_answer eph bytes (header_of grids bytes)
