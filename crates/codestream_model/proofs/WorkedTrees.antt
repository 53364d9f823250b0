-- The example of a tag tree of T.800 B.10.2: six columns and three rows of values, and the bits of the first three.
use Rattle.std.specs.Prelude.{◌≡◌, ℕ, Bool, true, false, List, [], ◌∷◌, map}
use Rattle.std.proofs.Common.{refl}
use Rattle.codestream_model.specs.Values.{Grid, Block}
use Rattle.codestream_model.specs.TagTrees.{halvings, levels_from, root_level, seats, value_steps, inclusion_bits, least_planes, least_inclusion}
use Rattle.codestream_model.specs.HeaderPieces.{PlanesPiece, bits_of}

-- six columns and three rows
abbrev pub six_by_three : Grid
six_by_three = record { band = 0; cols = 6; rows = 3 }

-- a code-block with this value, of which nothing else matters
abbrev pub valued : ℕ → ℕ → ℕ → Block
valued row col value = record { band = 0; col = col; row = row; planes = value; passes = 1; cleanup = 2; refine = 0 }

-- the values of the example, row by row
abbrev pub example : List Block
example =
    valued 0 0 1 ∷ valued 0 1 3 ∷ valued 0 2 2 ∷ valued 0 3 3 ∷ valued 0 4 2 ∷ valued 0 5 3
    ∷ valued 1 0 2 ∷ valued 1 1 2 ∷ valued 1 2 1 ∷ valued 1 3 4 ∷ valued 1 4 3 ∷ valued 1 5 2
    ∷ valued 2 0 2 ∷ valued 2 1 2 ∷ valued 2 2 2 ∷ valued 2 3 2 ∷ valued 2 4 1 ∷ valued 2 5 2 ∷ []

-- the bits of a leaf of the example
abbrev pub leaf_bits : ℕ → ℕ → List Bool
leaf_bits row col = bits_of (map PlanesPiece (value_steps six_by_three (least_planes example 0) (seats six_by_three) (record { band = 0; col = col; row = row })))

-- the root is three levels above the leaves
pub height_of_example : root_level six_by_three ≡ 3
unfolding halvings
height_of_example = refl

-- 01111 for the first leaf,
pub first_leaf : leaf_bits 0 0 ≡ false ∷ true ∷ true ∷ true ∷ true ∷ []
unfolding halvings levels_from
first_leaf = refl

-- 001 for the second,
pub second_leaf : leaf_bits 0 1 ≡ false ∷ false ∷ true ∷ []
unfolding halvings levels_from
second_leaf = refl

-- 101 for the third
pub third_leaf : leaf_bits 0 2 ≡ true ∷ false ∷ true ∷ []
unfolding halvings levels_from
third_leaf = refl

-- In the inclusion tree of six columns and three rows of which the second of the first row alone is included: 1110 for the
-- first leaf, which gives the three nodes above it and its own,
pub first_inclusion : inclusion_bits six_by_three (least_inclusion (valued 0 1 3 ∷ []) 0) (record { band = 0; col = 0; row = 0 }) ≡ true ∷ true ∷ true ∷ false ∷ []
unfolding halvings levels_from
first_inclusion = refl

-- 1 for the second,
pub second_inclusion : inclusion_bits six_by_three (least_inclusion (valued 0 1 3 ∷ []) 0) (record { band = 0; col = 1; row = 0 }) ≡ true ∷ []
unfolding halvings levels_from
second_inclusion = refl

-- 0 for the third, which gives the node above it,
pub third_inclusion : inclusion_bits six_by_three (least_inclusion (valued 0 1 3 ∷ []) 0) (record { band = 0; col = 2; row = 0 }) ≡ false ∷ []
unfolding halvings levels_from
third_inclusion = refl

-- and none for the fourth
pub fourth_inclusion : inclusion_bits six_by_three (least_inclusion (valued 0 1 3 ∷ []) 0) (record { band = 0; col = 3; row = 0 }) ≡ []
unfolding halvings levels_from
fourth_inclusion = refl
