-- What a tree holds and which of its nodes were met, and what is written of a leaf.
use Rattle.std.specs.Prelude.{◌≡◌, ◌<◌, ◌≤◌, ◌↔◌, ◌+◌, ◌-◌, ◌*◌, ◌==◌, ◌++◌, ℕ, Bool, true, false, not, List, [], ◌∷◌, length, slice_index, slice_index_or, slice_set, min, Result, IfOk, IsErr, if◌then◌else◌}
use Rattle.std.specs.List.{filter, flat_map, list_any}
use Rattle.codestream_model.specs.Values.{Grid}
use Rattle.codestream_model.specs.TagTrees.{Seat, Labels, label, parent_label, shares, levels_from, root_level}
use Rattle.codestream_model.specs.HeaderPieces.{run_of}
use Rattle.stuffed_bits.specs.BitWriterState.{BitWriterState}
use Rattle.stuffed_bits.specs.BitsWritten.{HasWritten, reach}
use Rattle.stuffed_bits.specs.declared.bit_writer.Full.{Full}
use Rattle.tag_tree.specs.Places.{place_of}
use Rattle.tag_tree.specs.TreeState.{TreeState}
use Rattle.tag_tree.specs.declared.kind.Kind.{Kind}
use Rattle.tag_tree.specs.declared.kind.Kind.TheVariants.{Inclusion, Value}
use Rattle.tag_tree.specs.declared.tree.PathNode.{PathNode}

-- a tree's grid, in a band of number 0
abbrev pub grid_of : TreeState → Grid
grid_of t = record { band = 0; cols = t.cols; rows = t.rows }

-- a position of a tree's grid
pub record IsOn (t : TreeState) (s : Seat) : Type 0 where
  pub col : s.col < t.cols
  pub row : s.row < t.rows

-- the label that a tree holds of the node of a level on a leaf's path
abbrev pub held : TreeState → ℕ → Seat → ℕ
held t level s = slice_index t.labels (place_of t.cols t.rows level s.col s.row)

-- whether that node was met
abbrev pub is_met : TreeState → ℕ → Seat → Bool
is_met t level s = slice_index_or t.met (place_of t.cols t.rows level s.col s.row) false

-- a tree holds these labels
pub record Holds (t : TreeState) (labels : Labels) : Type 0 where
  pub each : (level : ℕ) (s : Seat) → IsOn t s → level ≤ t.root → held t level s ≡ label labels level s

-- the leaf at a position, of leaves in raster order
abbrev pub leaf_at : TreeState → List ℕ → Seat → ℕ
leaf_at t leaves s = slice_index leaves (s.row * t.cols + s.col)

-- the label of each node is the least of the leaves below it
pub record HoldsLeast (t : TreeState) (leaves : List ℕ) : Type 0 where
  pub low : (level : ℕ) (s leaf : Seat) → IsOn t s → IsOn t leaf → level ≤ t.root → shares level s leaf ≡ true → held t level s ≤ leaf_at t leaves leaf
  pub reached : (level : ℕ) (s : Seat) → IsOn t s → level ≤ t.root → (leaf : Seat) × IsOn t leaf × (shares level s leaf ≡ true) × (held t level s ≡ leaf_at t leaves leaf)

-- the nodes that were met are those on the paths of these leaves
pub record HasMet (t : TreeState) (before : List Seat) : Type 0 where
  pub each : (level : ℕ) (s : Seat) → IsOn t s → level ≤ t.root → is_met t level s ≡ list_any (shares level s) before

-- the nodes that were met are those on the paths of these leaves and, from this level up, of one leaf more
pub record HasMetFrom (t : TreeState) (before : List Seat) (leaf : Seat) (from : ℕ) : Type 0 where
  pub upper : (level : ℕ) (s : Seat) → IsOn t s → from ≤ level → level ≤ t.root → is_met t level s ≡ list_any (shares level s) (before ++ leaf ∷ [])
  pub lower : (level : ℕ) (s : Seat) → IsOn t s → level < from → level ≤ t.root → is_met t level s ≡ list_any (shares level s) before

-- a tree became another: from this level down a leaf with this label lowered those of the nodes on its path
pub record IsLowered (before after : TreeState) (leaf : Seat) (label from : ℕ) : Type 0 where
  pub upper : (level : ℕ) (s : Seat) → IsOn before s → from < level → level ≤ before.root → held after level s ≡ held before level s
  pub lower : (level : ℕ) (s : Seat) → IsOn before s → level ≤ from → level ≤ before.root → held after level s ≡ (if shares level s leaf then min (held before level s) label else held before level s)

-- a tree whose label at a place was lowered to this one
abbrev pub lowered_at : TreeState → ℕ → ℕ → TreeState
lowered_at t place v = record t { labels = slice_set t.labels place (min (slice_index t.labels place) v) }

-- a tree whose node at a place was met
abbrev pub marked_at : TreeState → ℕ → TreeState
marked_at t place = record t { met = slice_set t.met place true }

-- the bits of the node at a place, by those of its step from the label above; none if it was met
abbrev pub node_bits : (ℕ → ℕ → List Bool) → TreeState → ℕ → ℕ → List Bool
node_bits step t place above = if slice_index_or t.met place false then [] else step above (slice_index t.labels place)

-- the bits of a node of the inclusion tree, by its parent's label and its own: where the parent's is 0 one bit, 1 for 0 and 0 for more
abbrev pub inclusion_step : ℕ → ℕ → List Bool
inclusion_step above label = if above == 0 then (label == 0) ∷ [] else []

-- those of a node of the value tree: a zero for each number that its label is above its parent's, and a one
abbrev pub value_step : ℕ → ℕ → List Bool
value_step above label = run_of false (label - above) true

-- the bits of a node of a tree of this kind
abbrev pub step_of : Kind → ℕ → ℕ → List Bool
step_of Inclusion above label = inclusion_step above label
step_of Value above label = value_step above label

-- the bits of the nodes on a leaf's path, from this level down, that lie on no path of the leaves before it
abbrev pub bits_down : (ℕ → ℕ → List Bool) → Grid → Labels → List Seat → Seat → ℕ → List Bool
bits_down step g labels before s from =
    flat_map (λ level. step (parent_label g labels level s) (label labels level s)) (filter (λ level. not (list_any (shares level s) before)) (levels_from from))

-- the bits of a leaf, by those of a node: of each node on its path that lies on no path of the leaves before it
abbrev pub leaf_bits : (ℕ → ℕ → List Bool) → Grid → Labels → List Seat → Seat → List Bool
leaf_bits step g labels before s = bits_down step g labels before s (root_level g)

-- a call writes these bits after all that were written before, or answers `Full` exactly where they reach past the buffer
pub record Writes {A : Type 0} (bits : List Bool) (old new : BitWriterState) (before after : List ℕ) (out : Result A Full) : Type 0 where
  pub full : (done : List Bool) → HasWritten done before old → IsErr out ↔ (length before < reach (done ++ bits))
  pub holds : IfOk out (λ _. (done : List Bool) → HasWritten done before old → HasWritten (done ++ bits) after new)

-- what a call writes of a leaf at this column and row, by the bits of a node, whatever labels the tree holds and leaves it met
abbrev pub WritesLeaf : (ℕ → ℕ → List Bool) → ℕ → ℕ → TreeState → BitWriterState → BitWriterState → List ℕ → List ℕ → Result (Unit {0}) Full → Type 0
WritesLeaf step col row t old new before after out =
    (labels : Labels) (earlier : List Seat) → Holds t labels → HasMet t earlier
    → Writes (leaf_bits step (grid_of t) labels earlier (record { band = 0; col = col; row = row })) old new before after out

-- the same from this level down, where the nodes above it were met already and the lowest of them has this label
abbrev pub WritesDown : (ℕ → ℕ → List Bool) → ℕ → ℕ → ℕ → ℕ → TreeState → BitWriterState → BitWriterState → List ℕ → List ℕ → Result (Unit {0}) Full → Type 0
WritesDown step level above col row t old new before after out =
    (g : Grid) (labels : Labels) (earlier : List Seat) → root_level g ≡ t.root → Holds t labels → HasMetFrom t earlier (record { band = 0; col = col; row = row }) (level + 1)
    → above ≡ parent_label g labels level (record { band = 0; col = col; row = row })
    → Writes (bits_down step g labels earlier (record { band = 0; col = col; row = row }) level) old new before after out

-- The same from a node of the path down.
abbrev pub WritesPath : Kind → PathNode → TreeState → BitWriterState → BitWriterState → List ℕ → List ℕ → Result (Unit {0}) Full → Type 0
WritesPath kind n t old new before after out = WritesDown (step_of kind) n.level n.above n.col n.row t old new before after out

-- from one tree to the other the leaf at this column and row was met, after those met before it, whatever band it is in
abbrev pub MeetsLeaf : ℕ → ℕ → TreeState → TreeState → Type 0
MeetsLeaf col row t u = (band : ℕ) (earlier : List Seat) → HasMet t earlier → HasMet u (earlier ++ record { band = band; col = col; row = row } ∷ [])

-- the same, where the nodes above this level were met already
abbrev pub MeetsDown : ℕ → ℕ → ℕ → TreeState → TreeState → Type 0
MeetsDown level col row t u =
    (band : ℕ) (earlier : List Seat) → HasMetFrom t earlier (record { band = band; col = col; row = row }) (level + 1) → HasMetFrom u earlier (record { band = band; col = col; row = row }) 0
