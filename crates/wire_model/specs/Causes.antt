-- When a count rose, and what of a list is told: the words in which each cause and each content is said.
use Rattle.std.specs.Prelude.{◌≡◌, ◌≤◌, ◌+◌, ◌-◌, ◌^◌, ℕ, min, List, ◌++◌, Option, Some, None}

-- A count of 64 bits rose: it is greater than before, or is at its last value.
abbrev pub Rose : ℕ → ℕ → Type 0
Rose before now = min (before + 1) (2 ^ 64 - 1) ≤ now

-- What is told now was told before, and has grown by these items at its end.
abbrev pub Grew : {A : Type 0} → Option (List A) → Option (List A) → List A → Type 0
Grew old None items = Unit {0}
Grew None (Some now) items = ⊥
Grew (Some was) (Some now) items = now ≡ was ++ items

-- What is told now was told before, and has lost these items at its start.
abbrev pub Fell : {A : Type 0} → Option (List A) → Option (List A) → List A → Type 0
Fell old None items = Unit {0}
Fell None (Some now) items = ⊥
Fell (Some was) (Some now) items = was ≡ items ++ now
