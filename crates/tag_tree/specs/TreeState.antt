-- The state of a tag tree.
use Rattle.std.specs.Prelude.{◌+◌, ◌*◌, ℕ, Bool, List}

-- The state of a tag tree: its room for leaves, its columns and rows, the root's level, and of each node the label and whether
-- it was met.
pub record TreeState : Type 0 where
  pub leaves : ℕ
  pub cols : ℕ
  pub rows : ℕ
  pub root : ℕ
  pub labels : List ℕ
  pub met : List Bool

-- The number of nodes for which there is room.
abbrev pub nodes_of : ℕ → ℕ
nodes_of leaves = 2 * leaves + 16
