-- How long a packet header may be.
use Rattle.std.specs.Prelude.{ℕ, Bool, true, false}

-- The greatest number of bytes of a packet header, with EPH where it is asked for.
abbrev pub most_header : Bool → ℕ
most_header true = 65538
most_header false = 65536
