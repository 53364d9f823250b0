-- The least limit under which a datagram is kept.
use Rattle.std.specs.Prelude.{◌≡◌, ℕ, Bool, false, List, nat_le, Option, Some, None}
use Rattle.wire_model.specs.Thinning.{is_kept}

-- A datagram with this least limit is kept under a limit that is at least as great, and one without under
-- none.
abbrev pub is_kept_at : Option ℕ → ℕ → Bool
is_kept_at None limit = false
is_kept_at (Some level) limit = nat_le level limit

-- This is the least limit that keeps a datagram, if one does.
abbrev pub IsLevel : List ℕ → Option ℕ → Type 0
IsLevel d level = (limit : ℕ) → is_kept limit d ≡ is_kept_at level limit
