-- Where the frames of a capture start.
use Rattle.std.specs.Prelude.{◌≡◌, ◌+◌, ◌++◌, ℕ, List, [], ◌∷◌, length}
use Rattle.wire_model.specs.Framing.{frame, IsFramed}

-- The offsets at which these frames start, the first one at `at`, and the offset after the last.
abbrev pub bounds_from : ℕ → List (List ℕ) → List ℕ
bounds_from at [] = at ∷ []
bounds_from at (d ∷ frames) = at ∷ bounds_from (at + length (frame d)) frames

-- The same from the start of a capture.
abbrev pub frame_bounds : List (List ℕ) → List ℕ
frame_bounds frames = bounds_from 0 frames

-- These bytes begin with a frame, which has `len` bytes with its length.
abbrev pub BeginsWithFrame : List ℕ → ℕ → Type 0
BeginsWithFrame bytes len =
    (d : List ℕ) × (more : List ℕ) × IsFramed d × (bytes ≡ frame d ++ more)
    × (len ≡ length (frame d))
