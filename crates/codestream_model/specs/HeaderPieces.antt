-- The pieces of which the bits of a packet header are made (T.800 B.10), with the limits of the profile after T.814.
use Rattle.std.specs.Prelude.{◌≡◌, ◌+◌, ◌-◌, ◌==◌, ◌&&◌, ◌++◌, ℕ, Bool, true, false, List, [], ◌∷◌, map, take, replicate, nat_le, nat_lt, Option, Some, None, if◌then◌else◌}
use Rattle.std.specs.List.{filter, flat_map}
use Rattle.codestream_model.specs.Values.{Grid, Block}
use Rattle.codestream_model.specs.StuffedBits.{number_bits}
use Rattle.codestream_model.specs.TagTrees.{Seat, Labels, Step, seats, seat_of, inclusion_bits, value_steps}

-- The reasons for which a packet header, or what follows it, is refused.
pub data HeaderRefusal : Type 0 where
  Stuffed : HeaderRefusal
  ZeroPlanes : HeaderRefusal
  Passes : HeaderRefusal
  LengthBits : HeaderRefusal
  CleanupShort : HeaderRefusal
  CleanupLong : HeaderRefusal
  RefineLong : HeaderRefusal
  TooLong : HeaderRefusal
  NoEph : HeaderRefusal

-- A piece of a header: a node's bit of the inclusion tree, a step to a node of the value tree, the number of coding
-- passes, Lblock, and the lengths of the two segments, each with the number of its bits.
pub data Piece : Type 0 where
  InclusionPiece : Bool → Piece
  PlanesPiece : Step → Piece
  PassesPiece : ℕ → Piece
  LblockPiece : ℕ → Piece
  CleanupPiece : ℕ → ℕ → Piece
  RefinePiece : ℕ → ℕ → Piece

-- The codes of the numbers of coding passes; of 6 and more, the part that they have in common (T.800 B.10.6, table
-- B.4).
abbrev pub passes_code : ℕ → List Bool
passes_code n =
    if n == 1 then false ∷ []
    else if n == 2 then true ∷ false ∷ []
    else if n == 3 then true ∷ true ∷ false ∷ false ∷ []
    else if n == 4 then true ∷ true ∷ false ∷ true ∷ []
    else if n == 5 then true ∷ true ∷ true ∷ false ∷ []
    else true ∷ true ∷ true ∷ true ∷ []

-- `run_of bit n last` is n bits of one kind, and a last one of the other.
abbrev pub run_of : Bool → ℕ → Bool → List Bool
run_of b n last = replicate n b ++ last ∷ []

-- The bits of a piece (T.800 B.10.2, B.10.6 and B.10.7): to a node of the value tree a zero for each number that its label
-- is above its parent's, and a one; for Lblock a one for each number that it is above 3, and a zero.
abbrev pub piece_bits : Piece → List Bool
piece_bits (InclusionPiece b) = b ∷ []
piece_bits (PlanesPiece s) = run_of false (s.to - s.from) true
piece_bits (PassesPiece n) = passes_code n
piece_bits (LblockPiece n) = run_of true (n - 3) false
piece_bits (CleanupPiece width n) = number_bits width n
piece_bits (RefinePiece width n) = number_bits width n

-- The reason for which a piece is refused, if it is: more than 74 zero bit-planes, more than 3 passes, an Lblock above
-- 24, a cleanup segment of fewer than 2 or of 65,535 or more bytes, or a refinement segment of 2,047 or more.
abbrev pub fault_of : Piece → Option HeaderRefusal
fault_of (InclusionPiece b) = None
fault_of (PlanesPiece s) = if nat_le s.to 74 then None else Some ZeroPlanes
fault_of (PassesPiece n) = if nat_le n 3 then None else Some Passes
fault_of (LblockPiece n) = if nat_le n 24 then None else Some LengthBits
fault_of (CleanupPiece width n) = if nat_lt n 2 then Some CleanupShort else if nat_le 65535 n then Some CleanupLong else None
fault_of (RefinePiece width n) = if nat_le 2047 n then Some RefineLong else None

-- The piece isn't refused.
abbrev pub IsSound : Piece → Type 0
IsSound p = fault_of p ≡ None

-- The bits of a piece up to the one that decides whether it is refused: the zero that makes a label 75, the 22nd one of
-- Lblock, or else the last bit. Of a piece that isn't refused these are all its bits.
abbrev pub deciding_bits : Piece → List Bool
deciding_bits (PlanesPiece s) = take (75 - s.from) (piece_bits (PlanesPiece s))
deciding_bits (LblockPiece n) = take 22 (piece_bits (LblockPiece n))
deciding_bits (InclusionPiece b) = piece_bits (InclusionPiece b)
deciding_bits (PassesPiece n) = piece_bits (PassesPiece n)
deciding_bits (CleanupPiece width n) = piece_bits (CleanupPiece width n)
deciding_bits (RefinePiece width n) = piece_bits (RefinePiece width n)

-- The bits of pieces, one after another.
abbrev pub bits_of : List Piece → List Bool
bits_of pieces = flat_map piece_bits pieces

-- What the writer of a header may choose besides the code-blocks: in each band the labels of both trees, and each
-- code-block's Lblock.
pub record Choices : Type 0 where
  pub inclusion : ℕ → Labels
  pub planes : ℕ → Labels
  pub lblock : Seat → ℕ

-- The number of bits of a refinement length: Lblock with 2 passes, one more with 3.
abbrev pub refine_width : ℕ → ℕ → ℕ
refine_width passes lblock = if passes == 2 then lblock else lblock + 1

-- The pieces of an included code-block.
abbrev pub block_pieces : Grid → Choices → List Block → Block → List Piece
block_pieces g choices blocks b =
    map PlanesPiece (value_steps g (choices.planes g.band) (map seat_of (filter (λ x. x.band == g.band) blocks)) (seat_of b))
    ++ PassesPiece b.passes
    ∷ LblockPiece (choices.lblock (seat_of b))
    ∷ CleanupPiece (choices.lblock (seat_of b)) b.cleanup
    ∷ (if b.passes == 1 then [] else RefinePiece (refine_width b.passes (choices.lblock (seat_of b))) b.refine ∷ [])

-- The code-block is at this position.
abbrev pub stands_at : Seat → Block → Bool
stands_at s b = (b.band == s.band) && ((b.col == s.col) && (b.row == s.row))

-- The pieces of a position: those of its inclusion, and those of the code-block if it is included.
abbrev pub seat_pieces : Grid → Choices → List Block → Seat → List Piece
seat_pieces g choices blocks s =
    map InclusionPiece (inclusion_bits g (choices.inclusion g.band) s)
    ++ flat_map (block_pieces g choices blocks) (filter (stands_at s) blocks)

-- The pieces of a header after its first bit: of each grid its positions in raster order.
abbrev pub header_pieces : List Grid → Choices → List Block → List Piece
header_pieces grids choices blocks = flat_map (λ g. flat_map (seat_pieces g choices blocks) (seats g)) grids
