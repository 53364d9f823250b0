-- The two kinds of tag trees, and what is read of their nodes (T.800 B.10.2).
use Rattle.std.specs.Prelude.{◌≢◌, ◌≡◌, ℕ, Bool, false, List, [], ◌∷◌, if◌then◌else◌}
use Rattle.codestream_model.specs.TagTrees.{Seat, root_level, levels_from}
use Rattle.codestream_model.specs.PacketHeaderReading.{Node, Walked, Read, Got, and_then, read_bit, read_label, read_inclusion, read_planes}
use Rattle.stuffed_bits.specs.declared.part.Part.{Part}
use Rattle.stuffed_bits.specs.declared.part.Part.TheVariants.{Nothing}
use Rattle.stuffed_bits.specs.BitInState.{IsOfRun}
use Rattle.tag_tree.specs.TreeState.{TreeState}
use Rattle.tag_tree.specs.declared.kind.Kind.{Kind}
use Rattle.tag_tree.specs.declared.kind.Kind.TheVariants.{Inclusion, Value}
use Rattle.tag_tree.specs.declared.tree.PathNode.{PathNode}

-- A node has no bits where the node above it has this label: no code-block below that one is included.
abbrev pub IsSilent : Kind → ℕ → Type 0
IsSilent Inclusion above = above ≢ 0
IsSilent Value above = ⊥

-- The bits that a reader keeps are the first ones of a node's label: the one bit of an inclusion is never kept.
abbrev pub FitsKind : Kind → Part → Type 0
FitsKind Inclusion p = p ≡ Nothing
FitsKind Value p = IsOfRun false p

-- The label of a node that isn't silent, below one with the label `above`.
abbrev pub label_reading : Kind → ℕ → List Bool → Read ℕ
label_reading Inclusion above l = and_then (read_bit l) (λ included more. Got (if included then 0 else 1) more)
label_reading Value above l = read_label above l

-- The label of a leaf, down these levels from a node with the label `above`.
abbrev pub levels_reading : Kind → List ℕ → ℕ → Seat → List Node → List Bool → Read Walked
levels_reading Inclusion levels above s nodes l = read_inclusion levels s above nodes l
levels_reading Value levels above s nodes l = read_planes levels s above nodes l

-- The label of one node on a path.
abbrev pub node_reading : Kind → PathNode → Seat → List Node → List Bool → Read Walked
node_reading kind n s nodes l = levels_reading kind (n.level ∷ []) n.above s nodes l

-- The label of a leaf, from a node of its path down.
abbrev pub path_reading : Kind → PathNode → Seat → List Node → List Bool → Read Walked
path_reading kind n s nodes l = levels_reading kind (levels_from n.level) n.above s nodes l

-- The levels of a tree, from the root's.
abbrev pub levels_of : TreeState → List ℕ
levels_of t = levels_from (root_level (record { band = 0; cols = t.cols; rows = t.rows }))

-- The label of a leaf of a tree.
abbrev pub leaf_reading : Kind → TreeState → Seat → List Node → List Bool → Read Walked
leaf_reading kind t s nodes l = levels_reading kind (levels_of t) 0 s nodes l
