-- Packet headers (T.800 B.10; the lengths after T.814): which bits and bytes say which code-blocks, and which are refused.
use Rattle.std.specs.Prelude.{◌≡◌, ◌≢◌, ◌<◌, ◌≤◌, ◌^◌, ◌⊎◌, ◌-◌, ◌+◌, ◌==◌, ◌++◌, ℕ, max, Bool, true, false, List, [], ◌∷◌, map, length, Some, if◌then◌else◌}
use Rattle.std.specs.List.{AllByRecursion, filter, flat_map, list_any}
use Rattle.codestream_model.specs.Values.{Grid, Block}
use Rattle.codestream_model.specs.Bytes.{IsBytes}
use Rattle.codestream_model.specs.StuffedBits.{IsStuffed, Packs, carried, packing}
use Rattle.codestream_model.specs.TagTrees.{Seat, IsSeat, Labels, seats, label, NeverFalls, seat_of, exponent, least_inclusion, least_planes}
use Rattle.codestream_model.specs.HeaderPieces.{HeaderRefusal, Stuffed, ZeroPlanes, Passes, LengthBits, CleanupShort, CleanupLong, RefineLong, TooLong, NoEph, Piece, IsSound, fault_of, deciding_bits, bits_of, Choices, refine_width, stands_at, header_pieces}

-- No two grids are of one band.
abbrev pub HaveOwnBands : List Grid → Type 0
HaveOwnBands [] = Unit {0}
HaveOwnBands (g ∷ more) = AllByRecursion (λ other. other.band ≢ g.band) more × HaveOwnBands more

-- A code-block is included at this position.
abbrev pub is_included : List Block → Seat → Bool
is_included blocks s = list_any (stands_at s) blocks

-- The code-blocks are distinct, lie in the grids and come in header order: their positions are those of the grids, in
-- raster order in each, at which one is included.
abbrev pub AreSeated : List Grid → List Block → Type 0
AreSeated grids blocks = map seat_of blocks ≡ filter (is_included blocks) (flat_map seats grids)

-- The values of a code-block are within the limits.
pub record IsWithinLimits (b : Block) : Type 0 where
  pub planes : b.planes ≤ 74
  pub some_passes : 1 ≤ b.passes
  pub few_passes : b.passes ≤ 3
  pub some_cleanup : 2 ≤ b.cleanup
  pub short_cleanup : b.cleanup < 65535
  pub short_refine : b.refine < 2047
  pub no_refine : b.passes ≡ 1 → b.refine ≡ 0

-- These are the code-blocks of a packet.
pub record AreBlocks (grids : List Grid) (blocks : List Block) : Type 0 where
  pub seated : AreSeated grids blocks
  pub limits : AllByRecursion IsWithinLimits blocks

-- These are labels of a grid's inclusion tree: they never fall, and a leaf has 0 where its code-block is included, else
-- 1.
pub record LabelsInclusion (blocks : List Block) (labels : Labels) (g : Grid) : Type 0 where
  pub never_falls : NeverFalls g labels
  pub leaves : (s : Seat) → IsSeat g s → label labels 0 s ≡ (if is_included blocks s then 0 else 1)

-- Labels of a grid's value tree: they never fall, and the leaf of an included code-block has its zero bit-planes. Nodes of
-- which no included code-block is a leaf may have any.
pub record LabelsPlanes (blocks : List Block) (labels : Labels) (g : Grid) : Type 0 where
  pub never_falls : NeverFalls g labels
  pub leaves : AllByRecursion (λ b. b.band ≡ g.band → label labels 0 (seat_of b) ≡ b.planes) blocks

-- The lengths of a code-block fit the bits that they have with this Lblock, which is at least 3; with one pass there is
-- no refinement segment, and its length is 0.
pub record FitLengths (lblock : ℕ) (b : Block) : Type 0 where
  pub least : 3 ≤ lblock
  pub cleanup : b.cleanup < 2 ^ lblock
  pub refine : b.passes ≢ 1 → b.refine < 2 ^ refine_width b.passes lblock
  pub none : b.passes ≡ 1 → b.refine ≡ 0

-- With these choices a header can say these code-blocks, all limits left aside.
pub record CanSay (grids : List Grid) (choices : Choices) (blocks : List Block) : Type 0 where
  pub seated : AreSeated grids blocks
  pub inclusion : AllByRecursion (λ g. LabelsInclusion blocks (choices.inclusion g.band) g) grids
  pub planes : AllByRecursion (λ g. LabelsPlanes blocks (choices.planes g.band) g) grids
  pub passes : AllByRecursion (λ b. (1 ≤ b.passes) × (b.passes ≤ 6)) blocks
  pub lengths : AllByRecursion (λ b. FitLengths (choices.lblock (seat_of b)) b) blocks

-- The bits are those of a packet that isn't empty.
pub record FilledHeaderBits (grids : List Grid) (blocks : List Block) (bits : List Bool) : Type 0 where
  pub choices : Choices
  pub can_say : CanSay grids choices blocks
  pub limits : AllByRecursion IsWithinLimits blocks
  pub lblocks : AllByRecursion (λ b. choices.lblock (seat_of b) ≤ 24) blocks
  pub whole : bits ≡ true ∷ bits_of (header_pieces grids choices blocks)

-- The bits are those of a header that says these code-blocks: a single 0 where there is none, or 1 and the pieces.
abbrev pub HeaderBits : List Grid → List Block → List Bool → Type 0
HeaderBits grids blocks bits = ((bits ≡ false ∷ []) × (blocks ≡ [])) ⊎ FilledHeaderBits grids blocks bits

-- The bytes are those of a header that says these code-blocks.
pub record SpellsHeader (grids : List Grid) (blocks : List Block) (bytes : List ℕ) : Type 0 where
  pub bits : List Bool
  pub is_header : HeaderBits grids blocks bits
  pub packs : Packs bits bytes
  pub short : length bytes ≤ 65536

-- The bits are a sound front of a header, and not a whole one: 1 and pieces of which all but the last are whole and sound,
-- and of the last so few bits, or none, that they don't decide it.
pub record EndsInPiece (grids : List Grid) (bits : List Bool) : Type 0 where
  pub blocks : List Block
  pub choices : Choices
  pub can_say : CanSay grids choices blocks
  pub before : List Piece
  pub piece : Piece
  pub after : List Piece
  pub pieces : header_pieces grids choices blocks ≡ before ++ piece ∷ after
  pub sound : AllByRecursion IsSound before
  pub part : List Bool
  pub rest : List Bool
  pub undecided : deciding_bits piece ≡ part ++ rest
  pub more : 1 ≤ length rest
  pub whole : bits ≡ true ∷ (bits_of before ++ part)

-- The bytes are a whole header's but for the byte that closes it after FF.
pub record LacksClosing (grids : List Grid) (bytes : List ℕ) : Type 0 where
  pub blocks : List Block
  pub bits : List Bool
  pub is_header : HeaderBits grids blocks bits
  pub front : List ℕ
  pub pad : List Bool
  pub whole : bytes ≡ front ++ 255 ∷ []
  pub filled : carried bytes ≡ bits ++ pad
  pub needed : length (carried front) < length bits

-- The bytes are well stuffed and end before a header does, and no piece in them has been refused. It may be that no bytes
-- after them make a header.
pub record WantsMore (grids : List Grid) (bytes : List ℕ) : Type 0 where
  pub each : IsBytes bytes
  pub stuffed : IsStuffed bytes
  pub unfinished : (bytes ≡ []) ⊎ (EndsInPiece grids (carried bytes) ⊎ LacksClosing grids bytes)

-- After 65,536 bytes or more a header still needs another byte.
pub record IsTooLong (grids : List Grid) (bytes : List ℕ) : Type 0 where
  pub front : List ℕ
  pub back : List ℕ
  pub whole : bytes ≡ front ++ back
  pub long : length front ≡ 65536
  pub wants : WantsMore grids front

-- Where a header needs another byte after FF there is one, but its top bit is 1.
pub record IsBrokenStuffing (grids : List Grid) (bytes : List ℕ) : Type 0 where
  pub front : List ℕ
  pub byte : ℕ
  pub back : List ℕ
  pub whole : bytes ≡ front ++ 255 ∷ byte ∷ back
  pub high : 128 ≤ byte
  pub short : length front + 1 < 65536
  pub wants : WantsMore grids (front ++ 255 ∷ [])

-- The first bits are 1, sound pieces, and the bits of another piece up to the one that decides that it is refused for
-- this reason.
pub record HasFault (grids : List Grid) (bits : List Bool) (why : HeaderRefusal) : Type 0 where
  pub blocks : List Block
  pub choices : Choices
  pub can_say : CanSay grids choices blocks
  pub before : List Piece
  pub piece : Piece
  pub after : List Piece
  pub pieces : header_pieces grids choices blocks ≡ before ++ piece ∷ after
  pub sound : AllByRecursion IsSound before
  pub fault : fault_of piece ≡ Some why
  pub rest : List Bool
  pub whole : bits ≡ true ∷ (bits_of before ++ (deciding_bits piece ++ rest))

-- A piece is refused in the first 65,536 bytes, which are well stuffed up to there.
pub record IsRefusedPiece (grids : List Grid) (bytes : List ℕ) (why : HeaderRefusal) : Type 0 where
  pub front : List ℕ
  pub back : List ℕ
  pub whole : bytes ≡ front ++ back
  pub short : length front ≤ 65536
  pub each : IsBytes front
  pub stuffed : IsStuffed front
  pub fault : HasFault grids (carried front) why

-- Why bytes are no header: each cause has its deciding bit, and all bits before it are a sound prefix of a header. EPH is no
-- part of a header.
abbrev pub RefusesHeader : List Grid → List ℕ → HeaderRefusal → Type 0
RefusesHeader grids bytes Stuffed = IsBrokenStuffing grids bytes
RefusesHeader grids bytes ZeroPlanes = IsRefusedPiece grids bytes ZeroPlanes
RefusesHeader grids bytes Passes = IsRefusedPiece grids bytes Passes
RefusesHeader grids bytes LengthBits = IsRefusedPiece grids bytes LengthBits
RefusesHeader grids bytes CleanupShort = IsRefusedPiece grids bytes CleanupShort
RefusesHeader grids bytes CleanupLong = IsRefusedPiece grids bytes CleanupLong
RefusesHeader grids bytes RefineLong = IsRefusedPiece grids bytes RefineLong
RefusesHeader grids bytes TooLong = IsTooLong grids bytes
RefusesHeader grids bytes NoEph = ⊥

-- The bytes end before a header does, and before it is refused.
pub record NeedsHeaderBytes (grids : List Grid) (bytes : List ℕ) : Type 0 where
  pub wants : WantsMore grids bytes
  pub short : length bytes < 65536

-- The least Lblock that both lengths fit.
abbrev pub least_lblock : Block → ℕ
least_lblock b = max 3 (max (exponent (b.cleanup + 1)) (exponent (b.refine + 1) - (if b.passes == 3 then 1 else 0)))

-- The least Lblock of the first of these code-blocks, or 3 if there is none.
abbrev pub first_lblock : List Block → ℕ
first_lblock [] = 3
first_lblock (b ∷ more) = least_lblock b

-- The Lblock that our writer takes for the code-block at a position.
abbrev pub lblock_at : List Block → Seat → ℕ
lblock_at blocks s = first_lblock (filter (stands_at s) blocks)

-- What our writer chooses: the least labels and the least Lblock.
abbrev pub least_choices : List Block → Choices
least_choices blocks = record { inclusion = least_inclusion blocks; planes = least_planes blocks; lblock = lblock_at blocks }

-- The bits of the header that our writer gives these code-blocks.
abbrev pub written_bits : List Grid → List Block → List Bool
written_bits grids [] = false ∷ []
written_bits grids (b ∷ more) = true ∷ bits_of (header_pieces grids (least_choices (b ∷ more)) (b ∷ more))

-- The bytes of the header that our writer gives these code-blocks, with pad bits that are 0.
abbrev pub written_header : List Grid → List Block → List ℕ
written_header grids blocks = packing (written_bits grids blocks)

-- The bits are those of our writer's header.
abbrev pub Written : List Grid → List Block → List Bool → Type 0
Written grids blocks bits = bits ≡ written_bits grids blocks
