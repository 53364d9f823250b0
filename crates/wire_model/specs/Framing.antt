-- A capture (RFC 4571): frames one after another, each the length of a datagram in two bytes and then the datagram.
use Rattle.std.specs.Prelude.{◌≡◌, ◌<◌, ◌+◌, ◌*◌, ◌^◌, ℕ, suc, List, [], ◌∷◌, ◌++◌, length, take, drop, nat_le, if◌then◌else◌}
use Rattle.std.specs.List.{flat_map, AllByRecursion}
use Rattle.wire_model.specs.Bytes.{two_bytes}

-- A datagram as a frame: its length in two bytes, and then the datagram.
abbrev pub frame : List ℕ → List ℕ
frame d = two_bytes (length d) ++ d

-- Datagrams as a capture.
abbrev pub framing : List (List ℕ) → List ℕ
framing ds = flat_map frame ds

-- The datagram is one whose length two bytes can say.
abbrev pub IsFramed : List ℕ → Type 0
IsFramed d = length d < 2 ^ 16

-- The bytes are less than a whole frame.
abbrev pub IsPartial : List ℕ → Type 0
IsPartial [] = Unit {0}
IsPartial (high ∷ []) = Unit {0}
IsPartial (high ∷ low ∷ bytes) = length bytes < high * 256 + low

-- The bytes are these frames, empty and oversize ones among them, and then less than a whole one.
pub record Splits (bytes : List ℕ) (frames : List (List ℕ)) (rest : List ℕ) : Type 0 where
  pub whole : bytes ≡ framing frames ++ rest
  pub each : AllByRecursion IsFramed frames
  pub partial : IsPartial rest

-- The first whole frames of the bytes, at most n of them.
unfoldable pub first_frames : ℕ → List ℕ → List (List ℕ)
first_frames (suc n) (high ∷ low ∷ bytes) = if nat_le (high * 256 + low) (length bytes) then take (high * 256 + low) bytes ∷ first_frames n (drop (high * 256 + low) bytes) else []
first_frames n bytes = []

-- The whole frames of the bytes; the law `FramesAreComputed` says that they are those of `Splits`.
abbrev pub whole_frames : List ℕ → List (List ℕ)
whole_frames bytes = first_frames (length bytes) bytes
