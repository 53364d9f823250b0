-- The pieces that a reader goes through, if it refuses nothing: by its own steps, which know the nodes of the trees after them.
use Rattle.std.proofs.Common.{◌≡◌, ◌≤◌, ◌⊎◌, ◌==◌, ℕ, Bool, true, false, List, [], ◌∷◌, ◌++◌, Some, None, if◌then◌else◌}
use Rattle.codestream_model.specs.Values.{Grid, Block}
use Rattle.codestream_model.specs.TagTrees.{Seat, seats, seat_of, root_level, levels_from}
use Rattle.codestream_model.specs.HeaderPieces.{Piece, InclusionPiece, PlanesPiece}
use Rattle.codestream_model.specs.PacketHeader.{FitLengths}
use Rattle.codestream_model.specs.PacketHeaderReading.{Node, node_of, known_label, Walked}
use Rattle.codestream_model.proofs.ReadingLemmas.{segment_pieces}

-- the pieces of a leaf of the value tree, down these levels from a node that has this label
abbrev pub PlanesRun : List ℕ → Seat → ℕ → List Node → List Piece → Walked → Type 0
PlanesRun [] s above nodes ps w = (ps ≡ []) × (w ≡ record { label = above; nodes = nodes })
PlanesRun (level ∷ levels) s above nodes ps w =
    ((value : ℕ) × (known_label level s nodes ≡ Some value) × PlanesRun levels s value nodes ps w)
    ⊎ ((value : ℕ) × (more : List Piece) × (known_label level s nodes ≡ None) × (above ≤ value) × (ps ≡ PlanesPiece (record { from = above; to = value }) ∷ more)
    × PlanesRun levels s value (node_of level s value ∷ nodes) more w)

-- the label that a bit of the inclusion tree gives
abbrev pub bit_label : Bool → ℕ
bit_label b = if b then 0 else 1

-- the pieces of a leaf of the inclusion tree, down these levels from a node that has this label
abbrev pub InclusionRun : List ℕ → Seat → ℕ → List Node → List Piece → Walked → Type 0
InclusionRun [] s above nodes ps w = (ps ≡ []) × (w ≡ record { label = above; nodes = nodes })
InclusionRun (level ∷ levels) s above nodes ps w =
    ((value : ℕ) × (known_label level s nodes ≡ Some value) × InclusionRun levels s value nodes ps w)
    ⊎ (((known_label level s nodes ≡ None) × ((above == 0) ≡ false) × InclusionRun levels s above nodes ps w)
    ⊎ ((b : Bool) × (more : List Piece) × (known_label level s nodes ≡ None) × ((above == 0) ≡ true) × (ps ≡ InclusionPiece b ∷ more)
    × InclusionRun levels s (bit_label b) (node_of level s (bit_label b) ∷ nodes) more w))

-- the pieces of the rest of a code-block, whose position and zero bit-planes are known
pub record BlockRun (s : Seat) (planes : ℕ) (ps : List Piece) (b : Block) : Type 0 where
  pub lblock : ℕ
  pub whole : ps ≡ segment_pieces lblock b
  pub seat : seat_of b ≡ s
  pub same : b.planes ≡ planes
  pub some : 1 ≤ b.passes
  pub few : b.passes ≤ 6
  pub fits : FitLengths lblock b

-- the pieces of an included code-block after those of its inclusion
pub record IncludedRun (levels : List ℕ) (s : Seat) (nodes : List Node) (ps : List Piece) (b : Block) (value : Walked) : Type 0 where
  pub planes : List Piece
  pub rest : List Piece
  pub whole : ps ≡ planes ++ rest
  pub value_run : PlanesRun levels s 0 nodes planes value
  pub block_run : BlockRun s value.label rest b

-- the pieces of positions of a grid whose trees have these levels, where these nodes of both are known
abbrev pub SeatsRun : List ℕ → List Seat → List Node → List Node → List Piece → List Block → Type 0
SeatsRun levels [] inclusion planes ps blocks = (ps ≡ []) × (blocks ≡ [])
SeatsRun levels (s ∷ more) inclusion planes ps blocks =
    (found : Walked) × (own : List Piece) × (rest : List Piece) × (ps ≡ own ++ rest) × InclusionRun levels s 0 inclusion own found
    × ((((found.label == 0) ≡ false) × SeatsRun levels more found.nodes planes rest blocks)
    ⊎ ((b : Block) × (others : List Block) × (value : Walked) × (body : List Piece) × (tail : List Piece) × ((found.label == 0) ≡ true) × (blocks ≡ b ∷ others) × (rest ≡ body ++ tail)
    × IncludedRun levels s planes body b value × SeatsRun levels more found.nodes value.nodes tail others))

-- the pieces of grids
abbrev pub GridsRun : List Grid → List Piece → List Block → Type 0
GridsRun [] ps blocks = (ps ≡ []) × (blocks ≡ [])
GridsRun (g ∷ gs) ps blocks =
    (own : List Block) × (others : List Block) × (here : List Piece) × (rest : List Piece) × (blocks ≡ own ++ others) × (ps ≡ here ++ rest)
    × SeatsRun (levels_from (root_level g)) (seats g) [] [] here own × GridsRun gs rest others
