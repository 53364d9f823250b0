-- Numbers as bits and bytes, the most significant first.
use Rattle.std.specs.Prelude.{◌<◌, ◌*◌, ◌/◌, ◌%◌, ◌+◌, ℕ, Bool, List, [], ◌∷◌, slice_index, if◌then◌else◌}

-- A flag as a bit.
abbrev pub bit : Bool → ℕ
bit flag = if flag then 1 else 0

-- A number below 2^16 in two bytes.
abbrev pub two_bytes : ℕ → List ℕ
two_bytes n = (n / 256) ∷ (n % 256) ∷ []

-- A number below 2^32 in four bytes.
abbrev pub four_bytes : ℕ → List ℕ
four_bytes n = (n / 16777216) ∷ (n / 65536 % 256) ∷ (n / 256 % 256) ∷ (n % 256) ∷ []

-- The number that two bytes of a list have, from an index on.
abbrev pub two_at : List ℕ → ℕ → ℕ
two_at b at = slice_index b at * 256 + slice_index b (at + 1)

-- The number that four bytes of a list have, from an index on.
abbrev pub four_at : List ℕ → ℕ → ℕ
four_at b at = two_at b at * 65536 + two_at b (at + 2)

-- Each item is a byte.
abbrev pub IsBytes : List ℕ → Type 0
IsBytes b = (i : ℕ) → slice_index b i < 256
