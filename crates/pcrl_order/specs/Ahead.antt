-- The candidates of a walk: precincts of the resolutions, one of which is the next in packet order.
use Rattle.std.specs.Prelude.{◌≡◌, ◌<◌, ◌+◌, ℕ, List, [], ◌∷◌, length, slice_index_or, Option, None, Some}
use Rattle.codestream_model.specs.Values.{Head, Place}
use Rattle.codestream_model.specs.Precincts.{IsPrecinct}
use Rattle.codestream_model.specs.PacketOrder.{key}
use Rattle.pcrl_order.specs.declared.anchored.Anchored.{Anchored}
use Rattle.pcrl_order.specs.Anchors.{anchored_of, place_in}
use Rattle.pcrl_order.specs.Later.{later}
use Rattle.pcrl_order.specs.Least.{IsNear, IsUpTo, IsInResolution}

-- The header of an image, and one of its precincts.
pub record OrderPlace : Type 0 where
  pub head : Head
  pub place : Place

-- The precincts after that one in packet order.
abbrev pub rest : OrderPlace → List Place
rest w = later w.head w.place

-- A precinct's key, as the list of numbers by which it is compared.
abbrev pub numbers_of : Anchored → List ℕ
numbers_of a = a.rank ∷ a.y ∷ a.x ∷ a.c ∷ a.r ∷ []

-- The least key after a precinct's.
abbrev pub numbers_after : Anchored → List ℕ
numbers_after a = a.rank ∷ a.y ∷ a.x ∷ a.c ∷ (a.r + 1) ∷ []

-- The key that no other is before.
abbrev pub least_numbers : List ℕ
least_numbers = 0 ∷ 0 ∷ 0 ∷ 0 ∷ 0 ∷ []

-- The candidate at an index.
abbrev pub candidate_at : List Anchored → ℕ → Anchored
candidate_at nexts i = slice_index_or nexts i (record { rank = 0; y = 0; x = 0; c = 0; r = 0; k = 0 })

-- Of the first `n` candidates, the index of one with the least key from `from` on, or None where all keys are before that.
abbrev pub IsLeastAt : List Anchored → List ℕ → ℕ → Option ℕ → Type 0
IsLeastAt nexts from n None = (i : ℕ) → i < n → IsUpTo from (numbers_of (candidate_at nexts i)) → ⊥
IsLeastAt nexts from n (Some b) =
    (b < n)
    × IsUpTo from (numbers_of (candidate_at nexts b))
    × ((i : ℕ) → i < n → IsUpTo from (numbers_of (candidate_at nexts i)) → IsUpTo (numbers_of (candidate_at nexts b)) (numbers_of (candidate_at nexts i)))

-- A precinct of the image, with its rank and its anchor.
pub record IsThere (h : Head) (a : Anchored) : Type 0 where
  pub is : IsPrecinct h (place_in a)
  pub anchored : a ≡ anchored_of h (place_in a)
  pub near : IsNear a

-- A candidate of the precinct's resolution that isn't before `from`, and not after the precinct.
pub record IsCandidate (from : List ℕ) (h : Head) (z : Place) (a : Anchored) : Type 0 where
  pub beside : IsInResolution z.c z.r (place_in a)
  pub onward : IsUpTo from (numbers_of a)
  pub before : IsUpTo (numbers_of a) (key h z)

-- The candidates are precincts of the image, and each precinct among some whose key isn't before `from` has one.
pub record IsAheadIn (h : Head) (Among : Place → Type 0) (from : List ℕ) (nexts : List Anchored) : Type 0 where
  pub each : (i : ℕ) → i < length nexts → IsThere h (candidate_at nexts i)
  pub whole : (z : Place) → IsPrecinct h z → Among z → IsUpTo from (key h z) → (i : ℕ) × (i < length nexts) × IsCandidate from h z (candidate_at nexts i)

-- The same of all precincts.
abbrev pub IsAhead : Head → List ℕ → List Anchored → Type 0
IsAhead h from nexts = IsAheadIn h (IsPrecinct h) from nexts

-- The state of a walk: the precinct where it is, and the candidates for the next one.
abbrev pub IsWalk : Head → Anchored → List Anchored → Type 0
IsWalk h here nexts = IsThere h here × IsAhead h (numbers_after here) nexts
