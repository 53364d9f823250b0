-- What a tree knows, and what is answered where a leaf is read.
use Rattle.std.specs.Prelude.{◌≡◌, ◌<◌, ◌≤◌, ◌++◌, ℕ, Bool, true, false, List, length, drop, slice_index, slice_index_or, slice_set, Option, Some, None, Result, Ok, Err, if◌then◌else◌}
use Rattle.std.specs.List.{slice_range}
use Rattle.codestream_model.specs.StuffedBits.{packed_bits}
use Rattle.codestream_model.specs.TagTrees.{Seat}
use Rattle.codestream_model.specs.PacketHeaderReading.{Node, Walked, Read, Got, AtEnd, Refused, known_label}
use Rattle.stuffed_bits.specs.BitInState.{BitInState}
use Rattle.stuffed_bits.specs.BitsRead.{HasRead, stop_by}
use Rattle.stuffed_bits.specs.declared.source.Source.{Source}
use Rattle.tag_tree.specs.Places.{place_of}
use Rattle.tag_tree.specs.TreeState.{TreeState}
use Rattle.tag_tree.specs.LabelStops.{label_stop}
use Rattle.tag_tree.specs.Kinds.{label_reading, node_reading, path_reading, leaf_reading}
use Rattle.tag_tree.specs.declared.kind.Kind.{Kind}
use Rattle.tag_tree.specs.declared.stop.LabelStop.{LabelStop}
use Rattle.tag_tree.specs.declared.stop.LabelStop.TheVariants.{TooGreat}
use Rattle.tag_tree.specs.declared.tree.PathNode.{PathNode}

-- The label at an index of the list of nodes, if the node there was met.
abbrev pub told_at : TreeState → ℕ → Option ℕ
told_at t place = if slice_index_or t.met place false then Some (slice_index t.labels place) else None

-- The tree after the node at an index is met with a label.
abbrev pub met_at : TreeState → ℕ → ℕ → TreeState
met_at t place v = record t { labels = slice_set t.labels place v; met = slice_set t.met place true }

-- A tree knows the labels of these nodes, and no others.
pub record Knows (t : TreeState) (nodes : List Node) : Type 0 where
  pub told : (level : ℕ) (s : Seat) → s.col < t.cols → s.row < t.rows → level ≤ t.root → known_label level s nodes ≡ told_at t (place_of t.cols t.rows level s.col s.row)

-- A tree keeps its room and its shape.
pub record IsSameShape (before after : TreeState) : Type 0 where
  pub leaves : after.leaves ≡ before.leaves
  pub cols : after.cols ≡ before.cols
  pub rows : after.rows ≡ before.rows
  pub root : after.root ≡ before.root

-- The node of a level on the path to the leaf at a column and a row, below a node with the label `above`.
abbrev pub path_node : ℕ → ℕ → ℕ → ℕ → PathNode
path_node level above col row = record { col = col; row = row; level = level; above = above }

-- A node is on the path to a leaf of a tree.
pub record IsNodeOf (t : TreeState) (n : PathNode) : Type 0 where
  pub low : n.level ≤ t.root
  pub col : n.col < t.cols
  pub row : n.row < t.rows

-- `bits_after done all` is the bits of these bytes after those that were given.
abbrev pub bits_after : List Bool → List ℕ → List Bool
bits_after done all = drop (length done) (packed_bits all).bits

-- The answer where no bit is left, by where the stuffing is broken, if it is.
abbrev pub none_left : Option ℕ → Result ℕ LabelStop
none_left broken_at = Err (label_stop (stop_by broken_at))

-- The answer to a leaf, by what is read of the bits that are left: its label, with the nodes that are known then and the bits
-- that were given for it; that the bits are at their end; or that the label is refused.
abbrev pub IsAnswer : List Bool → List ℕ → List ℕ → TreeState → BitInState → Result ℕ LabelStop → Read Walked → Type 0
IsAnswer done all taken t h out (Got w rest) = (out ≡ Ok w.label) × Knows t w.nodes × ((more : List Bool) × (bits_after done all ≡ more ++ rest) × HasRead (done ++ more) taken h)
IsAnswer done all taken t h out AtEnd = out ≡ none_left (packed_bits all).broken_at
IsAnswer done all taken t h out (Refused why) = out ≡ Err TooGreat

-- The answer to a leaf at a column and a row is what `reading` makes of the bits that are left, from the nodes that are known.
abbrev pub Reads : (Seat → List Node → List Bool → Read Walked) → ℕ → ℕ → TreeState → TreeState → Source → Source → Result ℕ LabelStop → Type 0
Reads reading col row before after old new out =
    (band : ℕ) (nodes : List Node) (done : List Bool) (bytes : List ℕ) → Knows before nodes → HasRead done bytes old.bits
    → IsAnswer done (bytes ++ drop old.at old.piece.now) (bytes ++ slice_range old.piece.now old.at new.at) after new.bits out
    (reading (record { band = band; col = col; row = row }) nodes (bits_after done (bytes ++ drop old.at old.piece.now)))

-- The answer is the label of a node, read from the node above it.
abbrev pub ReadsNode : Kind → PathNode → TreeState → TreeState → Source → Source → Result ℕ LabelStop → Type 0
ReadsNode kind n before after old new out = Reads (node_reading kind n) n.col n.row before after old new out

-- The answer is the label of a leaf, read from a node of its path down.
abbrev pub ReadsPath : Kind → PathNode → TreeState → TreeState → Source → Source → Result ℕ LabelStop → Type 0
ReadsPath kind n before after old new out = Reads (path_reading kind n) n.col n.row before after old new out

-- The answer is the label of the leaf at a column and a row.
abbrev pub ReadsLeaf : Kind → ℕ → ℕ → TreeState → TreeState → Source → Source → Result ℕ LabelStop → Type 0
ReadsLeaf kind col row before after old new out = Reads (leaf_reading kind before) col row before after old new out

-- The answer to a single label, which no tree keeps, by what is read of the bits that are left.
abbrev pub IsLabel : List Bool → List ℕ → List ℕ → BitInState → Result ℕ LabelStop → Read ℕ → Type 0
IsLabel done all taken h out (Got v rest) = (out ≡ Ok v) × ((more : List Bool) × (bits_after done all ≡ more ++ rest) × HasRead (done ++ more) taken h)
IsLabel done all taken h out AtEnd = out ≡ none_left (packed_bits all).broken_at
IsLabel done all taken h out (Refused why) = out ≡ Err TooGreat

-- The answer is the label of a node below one with the label `above`.
abbrev pub ReadsLabel : Kind → ℕ → Source → Source → Result ℕ LabelStop → Type 0
ReadsLabel kind above old new out =
    (done : List Bool) (bytes : List ℕ) → HasRead done bytes old.bits
    → IsLabel done (bytes ++ drop old.at old.piece.now) (bytes ++ slice_range old.piece.now old.at new.at) new.bits out (label_reading kind above (bits_after done (bytes ++ drop old.at old.piece.now)))
