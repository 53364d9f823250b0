-- How the reading of a leaf goes on where a piece of bytes ends inside it.
use Rattle.std.specs.Prelude.{◌≡◌, ◌<◌, ◌≤◌, ◌⊎◌, ◌++◌, ℕ, Bool, List, length, Result, Ok, Err}
use Rattle.std.specs.List.{slice_range}
use Rattle.codestream_model.specs.TagTrees.{Seat}
use Rattle.codestream_model.specs.PacketHeaderReading.{Node, Walked, Read, Got, known_label}
use Rattle.stuffed_bits.specs.BitInState.{BitInState, IsFree}
use Rattle.stuffed_bits.specs.BitsRead.{HasRead, Keeps}
use Rattle.stuffed_bits.specs.declared.source.Source.{Source}
use Rattle.tag_tree.specs.TreeState.{TreeState}
use Rattle.tag_tree.specs.Kinds.{FitsKind, node_reading, path_reading, leaf_reading}
use Rattle.tag_tree.specs.LeafReading.{Knows}
use Rattle.tag_tree.specs.declared.kind.Kind.{Kind}
use Rattle.tag_tree.specs.declared.kind.Kind.TheVariants.{Inclusion}
use Rattle.tag_tree.specs.declared.stop.LabelStop.{LabelStop}
use Rattle.tag_tree.specs.declared.stop.LabelStop.TheVariants.{Need}
use Rattle.tag_tree.specs.declared.tree.PathNode.{PathNode}

-- The answer is that a further piece is needed.
abbrev pub NeedsMore : Result ℕ LabelStop → Type 0
NeedsMore out = out ≡ Err Need

-- A call goes on in the same piece, and takes all of it where it needs a further one. It keeps at most the first bits of a label
-- for which a further piece is needed.
pub record GoesOn (kind : Kind) (old new : Source) (out : Result ℕ LabelStop) : Type 0 where
  pub piece : new.piece.now ≡ old.piece.now
  pub onward : old.at ≤ new.at
  pub within : new.at ≤ length old.piece.now
  pub whole : NeedsMore out → new.at ≡ length old.piece.now
  pub own : NeedsMore out → FitsKind kind new.bits.part
  pub inclusion : kind ≡ Inclusion → IsFree new.bits

-- A reading waits for further bits: some were given, and the tree knows some nodes more. Whatever bits come, reading these from
-- what is known now is reading all from what was known. Nothing more is known of the levels above this one.
pub record Waits (reading : List Node → List Bool → Read Walked) (from : ℕ) (nodes : List Node) (done : List Bool) (taken : List ℕ) (t : TreeState) (h : BitInState) : Type 0 where
  pub known : List Node
  pub more : List Bool
  pub knows : Knows t known
  pub read : HasRead (done ++ more) taken h
  pub upper : (level : ℕ) (s : Seat) → from < level → known_label level s known ≡ known_label level s nodes
  pub goes_on : (further : List Bool) → reading nodes (more ++ further) ≡ reading known further

-- A call for a leaf that needs a further piece waits for it, whatever nodes are known.
abbrev pub WaitsFor : (Seat → List Node → List Bool → Read Walked) → ℕ → ℕ → ℕ → TreeState → TreeState → Source → Source → Type 0
WaitsFor reading from col row before after old new =
    (band : ℕ) (nodes : List Node) (done : List Bool) (bytes : List ℕ) → Knows before nodes → HasRead done bytes old.bits
    → Waits (reading (record { band = band; col = col; row = row })) from nodes done (bytes ++ slice_range old.piece.now old.at new.at) after new.bits

-- The reading of a node waits where it needs a further piece.
abbrev pub NodeWaits : Kind → PathNode → TreeState → TreeState → Source → Source → Result ℕ LabelStop → Type 0
NodeWaits kind n before after old new out = NeedsMore out → WaitsFor (node_reading kind n) n.level n.col n.row before after old new

-- The reading of a leaf waits so, from a node of its path down.
abbrev pub PathWaits : Kind → PathNode → TreeState → TreeState → Source → Source → Result ℕ LabelStop → Type 0
PathWaits kind n before after old new out = NeedsMore out → WaitsFor (path_reading kind n) n.level n.col n.row before after old new

-- The reading of a leaf of a tree waits so.
abbrev pub LeafWaits : Kind → ℕ → ℕ → TreeState → TreeState → Source → Source → Result ℕ LabelStop → Type 0
LeafWaits kind col row before after old new out = NeedsMore out → WaitsFor (leaf_reading kind before) before.root col row before after old new

-- After a label no bits of a value are kept; or the label was known, and the bits kept are those kept before.
abbrev pub IsFreeOrKnown : (Seat → List Node → List Bool → Read Walked) → ℕ → ℕ → ℕ → TreeState → TreeState → BitInState → BitInState → Type 0
IsFreeOrKnown reading col row label before after old new =
    IsFree new
    ⊎ ((after ≡ before) × (new.part ≡ old.part)
    × ((band : ℕ) (nodes : List Node) (l : List Bool) → Knows before nodes → reading (record { band = band; col = col; row = row }) nodes l ≡ Got (record { label = label; nodes = nodes }) l))

-- The label of a node was read, or was known.
abbrev pub FreesNode : Kind → PathNode → TreeState → TreeState → Source → Source → Result ℕ LabelStop → Type 0
FreesNode kind n before after old new out = (label : ℕ) → out ≡ Ok label → IsFreeOrKnown (node_reading kind n) n.col n.row label before after old.bits new.bits

-- The label of a leaf was read from a node of its path down, or was known.
abbrev pub FreesPath : Kind → PathNode → TreeState → TreeState → Source → Source → Result ℕ LabelStop → Type 0
FreesPath kind n before after old new out = (label : ℕ) → out ≡ Ok label → IsFreeOrKnown (path_reading kind n) n.col n.row label before after old.bits new.bits

-- The label of a leaf of a tree was read, or was known.
abbrev pub FreesLeaf : Kind → ℕ → ℕ → TreeState → TreeState → Source → Source → Result ℕ LabelStop → Type 0
FreesLeaf kind col row before after old new out = (label : ℕ) → out ≡ Ok label → IsFreeOrKnown (leaf_reading kind before) col row label before after old.bits new.bits

-- Where a further piece is needed, no bit of a label was given: those that were read of it are kept.
abbrev pub KeepsBits : Source → Source → Result ℕ LabelStop → Type 0
KeepsBits old new out = NeedsMore out → Keeps old.bits new.bits old.piece.now old.at new.at
