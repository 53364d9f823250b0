-- How far the code-blocks of a header were read.
use Rattle.std.specs.Prelude.{◌≡◌, ◌<◌, ◌≤◌, ◌+◌, ◌++◌, ℕ, Bool, true, false, List, [], ◌∷◌, map, length, drop, vec_len, vec_capacity, Option, Some, None, Result, Ok, Err}
use Rattle.codestream_model.specs.Values as values
use Rattle.codestream_model.specs.StuffedBits.{packed_bits}
use Rattle.codestream_model.specs.Packet.{block_count}
use Rattle.codestream_model.specs.TagTrees.{root_level, levels_from}
use Rattle.codestream_model.specs.PacketHeaderReading.{Read, Got, and_then, Node, read_bit, read_bits, read_either, read_grids}
use Rattle.precinct_geometry.specs.Spans.{grid_of}
use Rattle.precinct_geometry.specs.declared.place.Grid.{Grid}
use Rattle.stuffed_bits.specs.BitInState.{BitInState, IsFree}
use Rattle.stuffed_bits.specs.BitsRead.{HasRead}
use Rattle.stuffed_bits.specs.declared.part.Part.{Part}
use Rattle.packet_header.specs.Answers.{block_of}
use Rattle.packet_header.specs.Moves.{taken_of, all_of, IsStop}
use Rattle.packet_header.specs.Steps.{Fits}
use Rattle.tag_tree.specs.Kinds.{levels_of}
use Rattle.packet_header.specs.Positions.{KnowsBoth, HasGrid, IsUnread, ahead}
use Rattle.packet_header.specs.Walks.{walk_rest, positions_from}
use Rattle.packet_header.specs.declared.blocks.BlocksReader.{BlocksReader}
use Rattle.packet_header.specs.declared.grids.TagTrees.{TagTrees}
use Rattle.stuffed_bits.specs.declared.source.Source.{Source}
use Rattle.packet_header.specs.declared.step.Step.{Step}
use Rattle.packet_header.specs.declared.step.Step.TheVariants.{Inclusion}
use Rattle.packet_header.specs.declared.refusal.HeaderStop.{HeaderStop}
use Rattle.packet_header.specs.declared.refusal.HeaderStop.TheVariants.{Need}

-- A reader has room for this many code-blocks.
pub record HasRoom (room : ℕ) (r : BlocksReader) : Type 0 where
  pub inclusion : r.trees.inclusion.leaves ≡ room
  pub planes : r.trees.planes.leaves ≡ room
  pub blocks : room ≤ vec_capacity r.blocks

-- The room of a reader stays.
pub record IsSameRoom (before after : BlocksReader) : Type 0 where
  pub inclusion : after.trees.inclusion.leaves ≡ before.trees.inclusion.leaves
  pub planes : after.trees.planes.leaves ≡ before.trees.planes.leaves
  pub blocks : vec_capacity after.blocks ≡ vec_capacity before.blocks
  pub bands : after.bands.items ≡ before.bands.items

-- The grids of the precinct from this index on.
abbrev pub later_grids : ℕ → BlocksReader → List values.Grid
later_grids i r = map grid_of (drop i r.bands.items)

-- The grids whose code-blocks aren't all read.
abbrev pub grids_left : BlocksReader → List values.Grid
grids_left r = later_grids r.grid r

-- What is read of the grids after one whose code-blocks are these.
abbrev pub grid_and_more : List values.Grid → List values.Block → List Bool → Read (List values.Block)
grid_and_more later own l = ahead own (read_grids later l)

-- What is to be read of these grids, at a place and a step in the first of them, where its trees know these nodes.
abbrev pub grids_rest : List values.Grid → ℕ → ℕ → Step → List Node → List Node → List Bool → Read (List values.Block)
grids_rest [] row col step nodes others l = Got [] l
grids_rest (g ∷ later) row col step nodes others l = and_then (walk_rest (levels_from (root_level g)) (positions_from g row col) nodes others step l) (grid_and_more later)

-- What is to be read of a header whose grids are read so: its first bit says whether it has any code-block.
abbrev pub header_rest : Bool → (List Bool → Read (List values.Block)) → List Bool → Read (List values.Block)
header_rest true rest l = rest l
header_rest false rest l = and_then (read_bit l) (λ filled m. read_either filled rest (λ k. Got [] k) m)

-- What a reader has still to read.
abbrev pub left_of : BlocksReader → List Node → List Node → List Bool → Read (List values.Block)
left_of r nodes others l = header_rest r.begun (grids_rest (grids_left r) r.row r.col r.step nodes others) l

-- A reader is in this grid, which these follow, and has room for the code-blocks that are left.
pub record IsInGrid (g : values.Grid) (later : List values.Grid) (r : BlocksReader) : Type 0 where
  pub grid : HasGrid r.trees g.cols g.rows
  pub col_in : 0 < g.cols → r.col < g.cols
  pub none : positions_from g r.row r.col ≡ [] → r.step ≡ Inclusion
  pub inclusion : block_count later ≤ r.trees.inclusion.leaves
  pub planes : block_count later ≤ r.trees.planes.leaves
  pub room : vec_len r.blocks + (length (positions_from g r.row r.col) + block_count later) ≤ vec_capacity r.blocks

-- A reader is in the first of these grids, or past the last.
abbrev pub IsAmong : List values.Grid → BlocksReader → Type 0
IsAmong [] r = r.step ≡ Inclusion
IsAmong (g ∷ later) r = IsInGrid g later r

-- The leaf that is read next isn't known yet, or nothing of its label was read.
abbrev pub IsNextUnread : List values.Grid → BlocksReader → List Node → Part → Type 0
IsNextUnread [] r others p = Unit {0}
IsNextUnread (g ∷ later) r others p = IsUnread (levels_of r.trees.planes) (record { band = g.band; col = r.col; row = r.row }) others r.step p

-- A reader has taken these bytes, and its reader of bits has these in hand: whatever bits follow, the reading `first` of all gives
-- the code-blocks that were read and then what is read of those that follow.
pub record HasTaken (first : List Bool → Read (List values.Block)) (r : BlocksReader) (bytes : List ℕ) (h : BitInState) : Type 0 where
  pub done : List Bool
  pub nodes : List Node
  pub others : List Node
  pub read : HasRead done bytes h
  pub knows : KnowsBoth r.trees nodes others
  pub unread : IsNextUnread (grids_left r) r others h.part
  pub fits : Fits r.step h.part
  pub fresh : r.begun ≡ false → r.step ≡ Inclusion
  pub among : IsAmong (grids_left r) r
  pub goes_on : (further : List Bool) → first (done ++ further) ≡ ahead (map block_of r.blocks.items) (left_of r nodes others further)

-- A reader of the code-blocks of these grids has taken nothing.
abbrev pub BeginsBlocks : List values.Grid → BlocksReader → Type 0
BeginsBlocks gs r = (h : BitInState) → IsFree h → HasRead [] [] h → HasTaken (read_bits gs) r [] h

-- All code-blocks were read of the bytes that came; or the reading of them stops, and where a further piece is wanted all of this
-- one was taken.
abbrev pub Took : (List Bool → Read (List values.Block)) → BlocksReader → List ℕ → Source → Source → Result (Unit {0}) HeaderStop → Type 0
Took first r before old new (Ok x) = HasTaken first r (taken_of before new) new.bits × (grids_left r ≡ []) × (r.begun ≡ true)
Took first r before old new (Err stopped) =
    IsStop (first (packed_bits (all_of before old)).bits) (packed_bits (all_of before old)).broken_at stopped
    × (stopped ≡ Need → (new.at ≡ length new.piece.now) × HasTaken first r (taken_of before new) new.bits)

-- A part was read of the bytes that came; or the reading of it stops, and where a further piece is wanted all of this one was taken.
abbrev pub TookPart : (List Bool → Read (List values.Block)) → BlocksReader → List ℕ → Source → Source → Result (Unit {0}) HeaderStop → Type 0
TookPart first r before old new (Ok x) = HasTaken first r (taken_of before new) new.bits
TookPart first r before old new (Err stopped) =
    IsStop (first (packed_bits (all_of before old)).bits) (packed_bits (all_of before old)).broken_at stopped
    × (stopped ≡ Need → (new.at ≡ length new.piece.now) × HasTaken first r (taken_of before new) new.bits)

-- The trees know no node, and are those of the first of these grids.
abbrev pub IsEntered : List values.Grid → TagTrees → Type 0
IsEntered [] t = KnowsBoth t [] []
IsEntered (g ∷ later) t = HasGrid t g.cols g.rows × KnowsBoth t [] []

-- The grid whose code-blocks are read, if not all are read.
abbrev pub IsCurrent : BlocksReader → Option Grid → Type 0
IsCurrent r (Some own) = (grids_left r ≡ grid_of own ∷ later_grids (r.grid + 1) r) × (r.grid < length r.bands.items)
IsCurrent r None = grids_left r ≡ []

-- A reader can go on in the bytes of a source: it has taken those before its place, for some reading.
abbrev pub IsReadyIn : BlocksReader → Source → Type 0
IsReadyIn r s = (first : List Bool → Read (List values.Block)) × (before : List ℕ) × HasTaken first r (taken_of before s) s.bits

-- A call reads a part of what is left, for whatever reading and whatever bytes before.
abbrev pub TakesPart : BlocksReader → BlocksReader → Source → Source → Result (Unit {0}) HeaderStop → Type 0
TakesPart r now old new out =
    (first : List Bool → Read (List values.Block)) (before : List ℕ) → HasTaken first r (taken_of before old) old.bits → TookPart first now before old new out

-- A call reads all that is left, for whatever reading and whatever bytes before.
abbrev pub TakesAll : BlocksReader → BlocksReader → Source → Source → Result (Unit {0}) HeaderStop → Type 0
TakesAll r now old new out =
    (first : List Bool → Read (List values.Block)) (before : List ℕ) → HasTaken first r (taken_of before old) old.bits → Took first now before old new out
