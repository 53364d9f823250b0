-- How much a read of an object in memory gives.
use Rattle.std.specs.Prelude.{◌-◌, ◌^◌, ℕ, List, get_or, max}

-- The read of this number may give this number of bytes, at least one, and all that fit where the list is
-- at its end.
abbrev pub chunk_for : List ℕ → ℕ → ℕ
chunk_for chunks number = max (get_or chunks number (2 ^ 64 - 1)) 1
