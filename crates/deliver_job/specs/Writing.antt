-- The listed frames, as they are written.
use Rattle.std.specs.Prelude.{ℕ, List}
use Rattle.wire_model.specs.Framing.{framing}
use Rattle.delivery_model.specs.Delivering.{Range, positions_of, frames_at}

-- The bytes of the frames at these positions.
abbrev pub listed : List Range → List (List ℕ) → List ℕ
listed list frames = framing (frames_at (positions_of list) frames)
