-- Which nodes of a tag tree were met.
use Rattle.std.specs.Prelude.{◌≡◌, ◌<◌, ◌⊎◌, ◌+◌, ℕ, true, false, slice_index_or}
use Rattle.tag_tree.specs.Places.{place_of}
use Rattle.tag_tree.specs.TreeState.{TreeState}
use Rattle.tag_tree.specs.Kinds.{IsSilent}
use Rattle.tag_tree.specs.declared.kind.Kind.{Kind}

-- The node of a level on the path to the leaf at a column and a row was met.
abbrev pub IsMet : TreeState → ℕ → ℕ → ℕ → Type 0
IsMet t level col row = slice_index_or t.met (place_of t.cols t.rows level col row) false ≡ true

-- Below the root a node was met only where the node above it was.
abbrev pub IsMetDown : TreeState → Type 0
IsMetDown t =
    (level col row : ℕ) → col < t.cols → row < t.rows → level < t.root
    → IsMet t level col row → IsMet t (level + 1) col row

-- Below the node of a level, which has this label, a further node may be met: the node was met, or
-- no node below it is read.
abbrev pub MayMeetBelow : Kind → TreeState → ℕ → ℕ → ℕ → ℕ → Type 0
MayMeetBelow kind t level label col row = IsSilent kind label ⊎ IsMet t level col row

-- A node of a path may be met: it is the root, or the node above it allows that.
abbrev pub MayMeet : Kind → TreeState → ℕ → ℕ → ℕ → ℕ → Type 0
MayMeet kind t level above col row =
    level < t.root → MayMeetBelow kind t (level + 1) above col row
