-- What a call makes of a leaf's reading.
use Rattle.std.specs.Prelude.{◌≡◌, ℕ, Bool, List, Result, Ok, Err, IfOk}
use Rattle.codestream_model.specs.StuffedBits.{packed_bits}
use Rattle.codestream_model.specs.PacketHeaderReading.{Read, Got, AtEnd, Node, Walked, read_planes}
use Rattle.tag_tree.specs.TreeState.{TreeState}
use Rattle.tag_tree.specs.LeafReading.{Knows}
use Rattle.tag_tree.specs.LeafGoing.{IsFreeOrKnown}
use Rattle.tag_tree.specs.Kinds.{levels_reading, levels_of}
use Rattle.tag_tree.specs.declared.kind.Kind.{Kind}
use Rattle.packet_header.specs.Moves.{HasGiven, all_of, bits_after, Went, Rests, IsStop}
use Rattle.stuffed_bits.specs.declared.source.Source.{Source}
use Rattle.packet_header.specs.declared.refusal.HeaderStop.{HeaderStop}
use Rattle.packet_header.specs.declared.refusal.HeaderStop.TheVariants.{Need}

-- A label was got, and the tree knows these nodes.
pub record LeafFound (reading : List Node → List Bool → Read Walked) (nodes : List Node) (before : List ℕ) (done : List Bool) (t : TreeState) (new : Source) (label : ℕ) : Type 0 where
  pub known : List Node
  pub knows : Knows t known
  pub went : Went (reading nodes) (λ l. Got (record { label = label; nodes = known }) l) before done new

-- A further piece is needed, and the tree knows these nodes, of which the leaf's isn't one.
pub record LeafRests (reading : List Node → List Bool → Read Walked) (nodes : List Node) (before : List ℕ) (done : List Bool) (t : TreeState) (new : Source) : Type 0 where
  pub known : List Node
  pub knows : Knows t known
  pub rests : Rests (reading nodes) (reading known) before done new
  pub left : List Bool
  pub unknown : reading known left ≡ AtEnd

-- A leaf was read, or its reading stops.
abbrev pub LeafMoved : (List Node → List Bool → Read Walked) → List Node → List ℕ → List Bool → TreeState → Source → Source → Result ℕ HeaderStop → Type 0
LeafMoved reading nodes before done t old new (Ok label) = LeafFound reading nodes before done t new label
LeafMoved reading nodes before done t old new (Err stopped) =
    IsStop (reading nodes (bits_after done (all_of before old))) (packed_bits (all_of before old)).broken_at stopped × (stopped ≡ Need → LeafRests reading nodes before done t new)

-- A call reads a leaf of a tree of this kind, whatever nodes are known and whatever came and was given before.
abbrev pub GetsLeaf : Kind → ℕ → ℕ → TreeState → TreeState → Source → Source → Result ℕ HeaderStop → Type 0
GetsLeaf kind col row t u old new out =
    (band : ℕ) (nodes : List Node) → Knows t nodes → (before : List ℕ) (done : List Bool) → HasGiven before done old
    → LeafMoved (λ ns l. levels_reading kind (levels_of t) 0 (record { band = band; col = col; row = row }) ns l) nodes before done u old new out

-- After the zero bit-planes of a leaf no bits of a value are kept; or they were known, and the bits kept are those kept before.
abbrev pub FreesPlanes : ℕ → ℕ → TreeState → TreeState → Source → Source → Result ℕ HeaderStop → Type 0
FreesPlanes col row t u old new out = IfOk out (λ label. IsFreeOrKnown (λ s nodes l. read_planes (levels_of t) s 0 nodes l) col row label t u old.bits new.bits)
