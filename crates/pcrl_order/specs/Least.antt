-- The first precinct of the packet order that isn't before a key.
use Rattle.std.specs.Prelude.{◌≡◌, ◌<◌, ◌≤◌, ◌↔◌, ◌⊎◌, ◌^◌, ℕ, List, [], ◌∷◌, Option, None, Some}
use Rattle.codestream_model.specs.Values.{Pair, Head, Place}
use Rattle.codestream_model.specs.Precincts.{precinct_count, IsPrecinct}
use Rattle.codestream_model.specs.PacketOrder.{anchor, key, IsBefore}
use Rattle.precinct_geometry.specs.declared.course.Course.{Course}
use Rattle.precinct_geometry.specs.Courses.{corner_of}
use Rattle.pcrl_order.specs.declared.anchored.Anchored.{Anchored}
use Rattle.pcrl_order.specs.declared.cursor.Key.{Key}
use Rattle.pcrl_order.specs.Anchors.{anchored_of, place_in}

-- An anchor is in a later row than `y`, or in row `y` and not before column `x`.
abbrev pub IsFrom : ℕ → ℕ → Pair → Type 0
IsFrom y x a = (y < a.y) ⊎ ((y ≡ a.y) × (x ≤ a.x))

-- The anchor of the precinct in a row and a column of a resolution.
abbrev pub corner : Course → Course → ℕ → ℕ → Pair
corner rows columns row column = record { x = corner_of columns column; y = corner_of rows row }

-- A row and a column whose anchor isn't before (y, x), and is the first such anchor of the resolution; the row may be past the last.
pub record IsChoice (rows columns : Course) (y x row column : ℕ) : Type 0 where
  pub from : row < rows.count → IsFrom y x (corner rows columns row column)
  pub least : (j i : ℕ) → i < columns.count → IsFrom y x (corner rows columns j i) → (row ≤ j) × IsFrom (corner_of rows row) (corner_of columns column) (corner rows columns j i)

-- The first precinct of a resolution, by its anchor, whose anchor isn't before (y, x).
pub record IsLeastIn (h : Head) (c r y x : ℕ) (a : Anchored) : Type 0 where
  pub number : a.k < precinct_count h c r
  pub anchored : a ≡ anchored_of h (record { c = c; r = r; k = a.k })
  pub from : IsFrom y x (anchor h (record { c = c; r = r; k = a.k }))
  pub least : (k : ℕ) → k < precinct_count h c r → IsFrom y x (anchor h (record { c = c; r = r; k = k })) → IsFrom a.y a.x (anchor h (record { c = c; r = r; k = k }))

-- The anchor is small enough to go on from it.
abbrev pub IsNear : Anchored → Type 0
IsNear a = (a.y < 2 ^ 56) × (a.x < 2 ^ 56)

-- Each anchor of the resolution is before (y, x).
abbrev pub NoneIn : Head → ℕ → ℕ → ℕ → ℕ → Type 0
NoneIn h c r y x = (k : ℕ) → k < precinct_count h c r → IsFrom y x (anchor h (record { c = c; r = r; k = k })) → ⊥

-- A key as the list of numbers by which it is compared.
abbrev pub numbers_in : Key → List ℕ
numbers_in a = a.rank ∷ a.y ∷ a.x ∷ a.c ∷ a.r ∷ []

-- A list of numbers comes before another, or is the same.
abbrev pub IsUpTo : List ℕ → List ℕ → Type 0
IsUpTo a b = IsBefore a b ⊎ (a ≡ b)

-- The anchors of a resolution of this rank that aren't before a key are those from this place (y, x) on, or there are none.
abbrev pub IsStartIn : Key → ℕ → ℕ → ℕ → Option (ℕ × ℕ) → Type 0
IsStartIn from rank c r None = (a : Pair) → IsUpTo (numbers_in from) (rank ∷ a.y ∷ a.x ∷ c ∷ r ∷ []) → ⊥
IsStartIn from rank c r (Some s) = (a : Pair) → IsUpTo (numbers_in from) (rank ∷ a.y ∷ a.x ∷ c ∷ r ∷ []) ↔ IsFrom s.0 s.1 a

-- Of some precincts whose keys aren't before `from`, the one with the least key.
pub record IsLeast (h : Head) (from : List ℕ) (Among : Place → Type 0) (a : Anchored) : Type 0 where
  pub is : IsPrecinct h (place_in a)
  pub anchored : a ≡ anchored_of h (place_in a)
  pub onward : IsUpTo from (key h (place_in a))
  pub least : (z : Place) → IsPrecinct h z → Among z → IsUpTo from (key h z) → IsUpTo (key h (place_in a)) (key h z)

-- The precinct with the least such key, or none where there is no such precinct.
abbrev pub IsLeastOf : Head → List ℕ → (Place → Type 0) → Option Anchored → Type 0
IsLeastOf h from Among None = (z : Place) → IsPrecinct h z → Among z → IsUpTo from (key h z) → ⊥
IsLeastOf h from Among (Some a) = IsLeast h from Among a

-- A precinct was found whose rank is less than this one.
abbrev pub IsPast : Option Anchored → ℕ → Type 0
IsPast None rank = ⊥
IsPast (Some a) rank = a.rank < rank

-- A precinct of a component below `c`, or of component `c` and a resolution below `r`.
abbrev pub IsOfEarlier : ℕ → ℕ → Place → Type 0
IsOfEarlier c r z = (z.c < c) ⊎ ((z.c ≡ c) × (z.r < r))

-- A precinct of this component and resolution.
abbrev pub IsInResolution : ℕ → ℕ → Place → Type 0
IsInResolution c r z = (z.c ≡ c) × (z.r ≡ r)
