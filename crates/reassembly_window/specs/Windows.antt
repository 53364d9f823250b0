-- What a contract sees of a window, and what holds of every window.
use Rattle.std.specs.Prelude.{◌≡◌, ◌≤◌, ◌<◌, ◌^◌, ℕ, Bool, List, [], length, Option, Some, None, replicate, if◌then◌else◌}
use Rattle.stream_model.specs.Window.{Window, Held, empty}
use Rattle.reassembly_window.specs.Slots.{Slots, entries, filled_count}

-- A window: its size, what it holds by the rules, and the datagram that `bytes` shows.
pub record WindowState : Type 0 where
  pub size : ℕ
  pub window : Window (List ℕ)
  pub shown : Option (List ℕ)

-- An empty window of a size.
abbrev pub new_window : ℕ → WindowState
new_window size = record { size = size; window = empty; shown = None }

-- What the slots hold, by number, where the first slot is that of the base.
abbrev pub held_of : Option ℕ → List (Option (List ℕ)) → List (Held (List ℕ))
held_of None slots = []
held_of (Some base) slots = entries base 0 slots

-- The window that these fields make.
abbrev pub state_of : Option ℕ → ℕ → Slots → Bool → WindowState
state_of base due s shown = record {
  size = length s.slots;
  window = record { base = base; due = due; held = held_of base s.slots };
  shown = if shown then Some s.passed else None;
}

-- Before the first offer every slot is empty and nothing is due; from then on the base is below
-- 2^24.
abbrev pub IsBase : Option ℕ → ℕ → List (Option (List ℕ)) → Type 0
IsBase None due slots = (slots ≡ replicate (length slots) None) × (due ≡ 0)
IsBase (Some base) due slots = base < 2 ^ 24

-- In every window the filled slots are counted, at most 2^23 numbers are due, and there are 1 to
-- 16,384 slots.
pub record IsSound (base : Option ℕ) (due held : ℕ) (slots : List (Option (List ℕ))) : Type 0 where
  pub count : held ≡ filled_count slots
  pub few_due : due ≤ 2 ^ 23
  pub few : length slots ≤ 16384
  pub some : 1 ≤ length slots
  pub base_is : IsBase base due slots
