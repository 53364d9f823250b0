-- Tag trees over the code-blocks of a precinct in one band (T.800 B.10.2).
use Rattle.std.specs.Prelude.{◌≡◌, ◌<◌, ◌≤◌, ◌+◌, ◌/◌, ◌^◌, ◌==◌, ◌&&◌, ℕ, zero, suc, min, max, Bool, true, false, List, [], ◌∷◌, map, nat_le, if◌then◌else◌}
use Rattle.std.specs.List.{filter, flat_map, list_any, range_with_len}
use Rattle.codestream_model.specs.Values.{Grid, Block}

-- The position of a code-block in a precinct: its band, its column and its row.
pub record Seat : Type 0 where
  pub band : ℕ
  pub col : ℕ
  pub row : ℕ

-- A position is one of a grid if it is of the grid's band, and within its columns and rows.
pub record IsSeat (g : Grid) (s : Seat) : Type 0 where
  pub band : s.band ≡ g.band
  pub col : s.col < g.cols
  pub row : s.row < g.rows

-- `seats g` is the positions of a grid in raster order.
abbrev pub seats : Grid → List Seat
seats g = flat_map (λ row. map (λ col. record { band = g.band; col = col; row = row }) (range_with_len 0 g.cols)) (range_with_len 0 g.rows)

-- `halvings room n` is how often n is halved, rounded up, until 1 is left, in at most `room` steps.
unfoldable pub halvings : ℕ → ℕ → ℕ
halvings zero n = 0
halvings (suc room) n = elim (nat_le n 1) [ true ↦ 0 | false ↦ suc (halvings room ((n + 1) / 2)) ]

-- `exponent n` is the least exponent e for which 2^e is at least n.
abbrev pub exponent : ℕ → ℕ
exponent n = halvings n n

-- The leaves have level 0, each level has half the columns and rows of the one below it, rounded up, and the root's level
-- is the first that has one node.
abbrev pub root_level : Grid → ℕ
root_level g = exponent (max g.cols g.rows)

-- Labels give each node of a tree a number, by its level, column and row.
abbrev pub Labels : Type 0
Labels = ℕ → ℕ → ℕ → ℕ

-- `label labels level s` is the label of the node of this level on the path from the root to the leaf at s.
abbrev pub label : Labels → ℕ → Seat → ℕ
label labels level s = labels level (s.col / 2 ^ level) (s.row / 2 ^ level)

-- `parent_label g labels level s` is the label of the parent of that node, or 0 if the node is the root.
abbrev pub parent_label : Grid → Labels → ℕ → Seat → ℕ
parent_label g labels level s = if level == root_level g then 0 else label labels (level + 1) s

-- Labels never fall on the path from the root to a leaf.
abbrev pub NeverFalls : Grid → Labels → Type 0
NeverFalls g labels = (s : Seat) (level : ℕ) → IsSeat g s → level < root_level g → label labels (level + 1) s ≤ label labels level s

-- Two leaves share a level if their paths from the root have the same node there.
abbrev pub shares : ℕ → Seat → Seat → Bool
shares level s t = (s.col / 2 ^ level == t.col / 2 ^ level) && (s.row / 2 ^ level == t.row / 2 ^ level)

-- A position is the head of a list if the list begins with its column and row.
abbrev pub is_head : Seat → List Seat → Bool
is_head s [] = false
is_head s (t ∷ more) = (s.col == t.col) && (s.row == t.row)

-- A leaf is the first of a list of leaves to have its node of this level on its path.
abbrev pub is_first : ℕ → Seat → List Seat → Bool
is_first level s among = is_head s (filter (shares level s) among)

-- `levels_from level` is the levels from this one down to 0, that of the leaves.
unfoldable pub levels_from : ℕ → List ℕ
levels_from zero = 0 ∷ []
levels_from (suc level) = suc level ∷ levels_from level

-- `met_first g s among` is the levels, from the root, of the nodes that are on the path of the leaf at s and on no path of
-- a leaf before it in the list.
abbrev pub met_first : Grid → Seat → List Seat → List ℕ
met_first g s among = filter (λ level. is_first level s among) (levels_from (root_level g))

-- The bits of a leaf in the inclusion tree: one for each node that it is the first of all leaves to meet and whose parent
-- has label 0; the bit is 1 if the node has label 0 as well.
abbrev pub inclusion_bits : Grid → Labels → Seat → List Bool
inclusion_bits g labels s = flat_map (λ level. if parent_label g labels level s == 0 then (label labels level s == 0) ∷ [] else []) (met_first g s (seats g))

-- A step goes from the label of a node to that of one of its children.
pub record Step : Type 0 where
  pub from : ℕ
  pub to : ℕ

-- The steps of a leaf in the value tree: one to each node that it is the first of these leaves to meet.
abbrev pub value_steps : Grid → Labels → List Seat → Seat → List Step
value_steps g labels among s = map (λ level. record { from = parent_label g labels level s; to = label labels level s }) (met_first g s among)

-- `seat_of b` is the position of a code-block.
abbrev pub seat_of : Block → Seat
seat_of b = record { band = b.band; col = b.col; row = b.row }

-- A code-block is below a node, given by band, level, column and row, if the node is on the path to its leaf.
abbrev pub is_below : ℕ → ℕ → ℕ → ℕ → Block → Bool
is_below band level col row b = (b.band == band) && ((b.col / 2 ^ level == col) && (b.row / 2 ^ level == row))

-- `least numbers` is the least of these numbers and 74.
abbrev pub least : List ℕ → ℕ
least [] = 74
least (n ∷ more) = min n (least more)

-- The labels of a band's inclusion tree: 0 exactly where a code-block below is included, and 1 elsewhere.
abbrev pub least_inclusion : List Block → ℕ → Labels
least_inclusion blocks band level col row = if list_any (is_below band level col row) blocks then 0 else 1

-- The labels of a band's value tree that our writer takes: the least zero bit-planes of the included code-blocks below, or
-- 74 if there is none.
abbrev pub least_planes : List Block → ℕ → Labels
least_planes blocks band level col row = least (map (λ b. b.planes) (filter (is_below band level col row) blocks))
