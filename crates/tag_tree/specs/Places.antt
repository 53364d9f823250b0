-- The order of a tree's nodes in one list: level by level from the leaves up, and each level row by row.
use Rattle.std.specs.Prelude.{◌+◌, ◌*◌, ◌/◌, ◌%◌, ◌^◌, ℕ, zero, suc, min}

-- The number of columns or rows of a level, by that of the leaves.
abbrev pub width_of : ℕ → ℕ → ℕ
width_of n level = n / 2 ^ level + min 1 (n % 2 ^ level)

-- The number of nodes of a level.
abbrev pub size_of : ℕ → ℕ → ℕ → ℕ
size_of cols rows level = width_of cols level * width_of rows level

-- The number of nodes of the levels below this one.
unfoldable pub base_of : ℕ → ℕ → ℕ → ℕ
base_of cols rows zero = 0
base_of cols rows (suc level) = base_of cols rows level + size_of cols rows level

-- The index of the node of a level on a leaf's path.
abbrev pub place_of : ℕ → ℕ → ℕ → ℕ → ℕ → ℕ
place_of cols rows level col row = base_of cols rows level + (row / 2 ^ level * width_of cols level + col / 2 ^ level)
