-- What is put of the code-blocks of a header, position by position and grid by grid.
use Rattle.std.specs.Prelude.{◌≡◌, ◌+◌, ◌*◌, ◌==◌, ◌++◌, ℕ, Bool, false, List, [], ◌∷◌, map, length, take, slice_index, slice_set, Result, IfOk, if◌then◌else◌}
use Rattle.std.specs.List.{AllByRecursion, filter, flat_map}
use Rattle.codestream_model.specs.Values as values
use Rattle.codestream_model.specs.TagTrees.{Seat, Labels, IsSeat, seats, seat_of, least_inclusion, least_planes}
use Rattle.codestream_model.specs.HeaderPieces.{bits_of, header_pieces, stands_at, seat_pieces}
use Rattle.codestream_model.specs.PacketHeader.{is_included, IsWithinLimits, least_choices, least_lblock}
use Rattle.stuffed_bits.specs.BitWriterState.{BitWriterState}
use Rattle.stuffed_bits.specs.declared.bit_writer.Full.{Full}
use Rattle.tag_tree.specs.TreeState.{TreeState}
use Rattle.tag_tree.specs.LeafWriting.{grid_of as tree_grid, Holds, HoldsLeast, HasMet, Writes, leaf_bits, value_step}
use Rattle.packet_header.specs.Puts.{Fills, value_bits}
use Rattle.packet_header.specs.declared.fault.PutFault.{PutFault}
use Rattle.packet_header.specs.declared.grids.TagTrees.{TagTrees}

-- The code-blocks of a packet, as a grid of it sees them: those of its band are at positions of the grid, in raster order, each
-- is alone at its position, and all values are in their ranges.
pub record AreOnGrid (g : values.Grid) (blocks : List values.Block) : Type 0 where
  pub own_seats : map seat_of (filter (λ x. x.band == g.band) blocks) ≡ filter (is_included blocks) (seats g)
  pub own_band : AllByRecursion (λ b. b.band ≡ g.band → IsSeat g (seat_of b)) blocks
  pub alone : AllByRecursion (λ b. filter (stands_at (seat_of b)) blocks ≡ b ∷ []) blocks
  pub limits : AllByRecursion IsWithinLimits blocks

-- The index of the leaf of a position among those of a grid, in raster order.
abbrev pub leaf_place : values.Grid → Seat → ℕ
leaf_place g s = s.row * g.cols + s.col

-- The leaves after that of a code-block is set, if it is of the grid's band
abbrev pub laid : values.Grid → values.Block → ℕ → List ℕ → List ℕ
laid g b label leaves = if b.band == g.band then slice_set leaves (leaf_place g (seat_of b)) label else leaves

-- The leaves of a grid's tree: those of its code-blocks have this value, and the others that one
pub record LaysOut (g : values.Grid) (blocks : List values.Block) (leaves : List ℕ) (value : values.Block → ℕ) (other : ℕ) : Type 0 where
  pub size : length leaves ≡ g.cols * g.rows
  pub included : AllByRecursion (λ b. b.band ≡ g.band → slice_index leaves (leaf_place g (seat_of b)) ≡ value b) blocks
  pub others : (s : Seat) → IsSeat g s → is_included blocks s ≡ false → slice_index leaves (leaf_place g s) ≡ other

-- A tree was filled with the leaves of a grid
pub record IsFilled (g : values.Grid) (leaves : List ℕ) (t : TreeState) : Type 0 where
  pub cols : t.cols ≡ g.cols
  pub rows : t.rows ≡ g.rows
  pub least : HoldsLeast t leaves
  pub unmet : HasMet t []

-- both trees of a grid hold the labels that our writer takes, and these positions and the included ones of them were met
pub record AreWritten (g : values.Grid) (blocks : List values.Block) (earlier : List Seat) (t : TagTrees) : Type 0 where
  pub inclusion : Holds t.inclusion (least_inclusion blocks g.band)
  pub planes : Holds t.planes (least_planes blocks g.band)
  pub met : HasMet t.inclusion earlier
  pub met_planes : HasMet t.planes (filter (is_included blocks) earlier)

-- Of the code-blocks of a packet these remain, which are included at these positions.
pub record Remain (blocks : List values.Block) (rest : List Seat) (remaining : List values.Block) : Type 0 where
  pub front : List values.Block
  pub whole : blocks ≡ front ++ remaining
  pub seated : map seat_of remaining ≡ filter (is_included blocks) rest

-- The bits of positions of a grid.
abbrev pub positions_bits : values.Grid → List values.Block → List Seat → List Bool
positions_bits g blocks these = bits_of (flat_map (seat_pieces g (least_choices blocks) blocks) these)

-- A call put the bits of these positions, and the trees and the code-blocks that remain are those after them; or it failed
-- where the bits reach past the buffer.
pub record PositionsPut (g : values.Grid) (blocks : List values.Block) (earlier these rest : List Seat) (t : TagTrees) (remaining : List values.Block) (old new : BitWriterState) (before after : List ℕ) (out : Result (Unit {0}) Full) : Type 0 where
  pub bits : Writes (positions_bits g blocks these) old new before after out
  pub written : IfOk out (λ _. AreWritten g blocks (earlier ++ these) t)
  pub waits : IfOk out (λ _. Remain blocks rest remaining)

-- A call puts the bits of these positions for any code-blocks of a packet, wherever the positions are in the grid.
abbrev pub PutsPositions : values.Grid → List Seat → TagTrees → TagTrees → List values.Block → List values.Block → BitWriterState → BitWriterState → List ℕ → List ℕ → Result (Unit {0}) Full → Type 0
PutsPositions g these t u remaining left old new before after out =
    (blocks : List values.Block) (earlier later rest : List Seat) → AreOnGrid g blocks → seats g ≡ earlier ++ (these ++ later) → AreWritten g blocks earlier t → Remain blocks (these ++ rest) remaining
    → PositionsPut g blocks earlier these rest u left old new before after out

-- A call put the bits of a grid, and the code-blocks that remain are those after it.
pub record GridPut (g : values.Grid) (blocks : List values.Block) (rest : List Seat) (remaining : List values.Block) (old new : BitWriterState) (before after : List ℕ) (out : Result (Unit {0}) PutFault) : Type 0 where
  pub bits : Fills (positions_bits g blocks (seats g)) old new before after out
  pub waits : IfOk out (λ _. Remain blocks rest remaining)

-- The same, whatever positions of further grids follow.
abbrev pub PutsGrid : values.Grid → List values.Block → List values.Block → List values.Block → BitWriterState → BitWriterState → List ℕ → List ℕ → Result (Unit {0}) PutFault → Type 0
PutsGrid g blocks remaining left old new before after out = (rest : List Seat) → Remain blocks (seats g ++ rest) remaining → GridPut g blocks rest left old new before after out

-- A call put the zero bit-planes and the values of an included code-block, whatever labels the tree holds and leaves it met.
abbrev pub PutsBlock : values.Block → TreeState → BitWriterState → BitWriterState → List ℕ → List ℕ → Result (Unit {0}) Full → Type 0
PutsBlock b planes old new before after out =
    (labels : Labels) (earlier : List Seat) → Holds planes labels → HasMet planes earlier
    → Writes (leaf_bits value_step (tree_grid planes) labels earlier (record { band = 0; col = b.col; row = b.row }) ++ value_bits (least_lblock b) b) old new before after out

-- The bits of the code-blocks of grids.
abbrev pub grids_bits : List values.Grid → List values.Block → List Bool
grids_bits gs blocks = bits_of (header_pieces gs (least_choices blocks) blocks)

-- The first `n` bytes of a buffer are a header.
abbrev pub IsAtStart : List ℕ → ℕ → List ℕ → Type 0
IsAtStart header n buf = (n ≡ length header) × (take n buf ≡ header)
