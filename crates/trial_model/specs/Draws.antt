-- Numbers drawn one after another from a seed, so that each run draws the same.
use Rattle.std.specs.Prelude.{◌+◌, ◌*◌, ◌/◌, ◌%◌, ◌^◌, ℕ, zero, suc, List, [], ◌∷◌}

-- The state after one draw: a linear congruential generator modulo 2^64. The first state is the
-- seed.
abbrev pub next_state : ℕ → ℕ
next_state state = (state * 6364136223846793005 + 1442695040888963407) % 2 ^ 64

-- The number below n that a draw gives, by the state after it.
abbrev pub drawn : ℕ → ℕ → ℕ
drawn n state = state / 2 ^ 33 % n

-- Something that was drawn, and the state after it.
pub record Drawn (A : Type 0) : Type 0 where
  pub value : A
  pub state : ℕ

-- One number below n.
abbrev pub draw : ℕ → ℕ → Drawn ℕ
draw n state = record { value = drawn n (next_state state); state = next_state state }

-- An item before others that were drawn after it.
abbrev pub item_before : {A : Type 0} → A → Drawn (List A) → Drawn (List A)
item_before x later = record { value = x ∷ later.value; state = later.state }

-- A number of bytes, each below 255.
unfoldable pub draw_bytes : ℕ → ℕ → Drawn (List ℕ)
draw_bytes zero state = record { value = []; state = state }
draw_bytes (suc n) state =
    item_before (drawn 255 (next_state state)) (draw_bytes n (next_state state))
