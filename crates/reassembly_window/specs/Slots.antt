-- What the slots of a window hold, from that of the base on.
use Rattle.std.specs.Prelude.{◌+◌, ◌-◌, ◌%◌, ◌^◌, ℕ, zero, suc, Bool, true, false, List, [], ◌∷◌, ◌++◌, take, drop, Option, Some, None, nat_lt, min, length, if◌then◌else◌}
use Rattle.stream_model.specs.Window.{Held}

-- The slots in order, and the datagram that is in the slot which was passed last.
pub record Slots : Type 0 where
  pub slots : List (Option (List ℕ))
  pub passed : List ℕ

-- What slots hold, by number, where the first is that of the number `d` ahead of the base.
abbrev pub entries : {T : Type 0} → ℕ → ℕ → List (Option T) → List (Held T)
entries base d [] = []
entries base d (None ∷ slots) = entries base (d + 1) slots
entries base d (Some x ∷ slots) = record { number = (base + d) % 2 ^ 24; item = x } ∷ entries base (d + 1) slots

-- An optional datagram is there.
abbrev pub is_full : {T : Type 0} → Option T → Bool
is_full None = false
is_full (Some x) = true

-- Slot `d` is filled.
abbrev pub is_filled : {T : Type 0} → ℕ → List (Option T) → Bool
is_filled d [] = false
is_filled zero (x ∷ slots) = is_full x
is_filled (suc d) (x ∷ slots) = is_filled d slots

-- The datagram in the first slot.
abbrev pub front : {T : Type 0} → List (Option T) → Option T
front [] = None
front (x ∷ slots) = x

-- A list rotated to the left by `k`.
abbrev pub rotated : {A : Type 0} → ℕ → List A → List A
rotated k xs = drop k xs ++ take k xs

-- The index `d` after `head` in a ring of `len` cells.
abbrev pub wrapped : ℕ → ℕ → ℕ → ℕ
wrapped head d len = if nat_lt d (len - head) then head + d else d - (len - head)

-- The number of empty slots before the first that is filled, or of all slots.
abbrev pub lead : {T : Type 0} → List (Option T) → ℕ
lead [] = 0
lead (None ∷ slots) = lead slots + 1
lead (Some x ∷ slots) = 0

-- The number of slots up to the last that is filled, by the first slot and that number for the
-- slots after it.
abbrev pub reach_after : {T : Type 0} → Option T → ℕ → ℕ
reach_after x (suc n) = suc (suc n)
reach_after None zero = 0
reach_after (Some x) zero = 1

-- The number of slots up to the last that is filled.
abbrev pub reach : {T : Type 0} → List (Option T) → ℕ
reach [] = 0
reach (x ∷ slots) = reach_after x (reach slots)

-- The number of filled slots.
abbrev pub filled_count : {T : Type 0} → List (Option T) → ℕ
filled_count [] = 0
filled_count (None ∷ slots) = filled_count slots
filled_count (Some x ∷ slots) = filled_count slots + 1

-- The length of a gap at the first slot of which `due` numbers are due: it ends before the first
-- filled slot.
abbrev pub gap_over : {T : Type 0} → ℕ → List (Option T) → ℕ
gap_over due slots = if nat_lt (lead slots) (length slots) then min due (lead slots) else due

-- The slots once that gap was passed.
abbrev pub past_gap : {T : Type 0} → ℕ → List (Option T) → List (Option T)
past_gap due slots = if nat_lt (lead slots) (length slots) then rotated (min due (lead slots)) slots else slots
