-- What `deliver` writes of a capture, and what it refuses.
use Rattle.std.specs.Prelude.{◌≡◌, ◌<◌, ◌≤◌, ◌+◌, ◌-◌, ℕ, Bool, List, [], map, length, nat_le, slice_index_or, Option, Some, None, if◌then◌else◌}
use Rattle.std.specs.List.{find, flat_map, range_with_len}
use Rattle.wire_model.specs.Framing.{framing, whole_frames, Splits}

-- The greatest number of bytes of a capture that is delivered.
abbrev pub most_delivered : ℕ
most_delivered = 268435456

-- An item of the list of positions: all from the first to the last one. A single position is both.
pub record Range : Type 0 where
  pub first : ℕ
  pub last : ℕ

-- The positions of a list, in the order in which they are written.
abbrev pub positions_of : List Range → List ℕ
positions_of list = flat_map (λ r. range_with_len r.first (r.last + 1 - r.first)) list

-- The frames at these positions. Every frame has a position, of whatever length it is.
abbrev pub frames_at : List ℕ → List (List ℕ) → List (List ℕ)
frames_at positions frames = map (λ i. slice_index_or frames i []) positions

-- What `deliver` has written of a capture of which these bytes were read: nothing before its end,
-- and then the listed frames.
abbrev pub deliver_output : List Range → List ℕ → Bool → List ℕ
deliver_output list read ended =
    if ended then framing (frames_at (positions_of list) (whole_frames read)) else []

-- The first position of a list that a capture with this number of frames doesn't have.
abbrev pub first_missing : List Range → ℕ → Option ℕ
first_missing list frames = find (λ i. nat_le frames i) (positions_of list)

-- Why a capture is refused.
pub data DeliverRefusal : Type 0 where
  CaptureTooLong : DeliverRefusal
  CutFrame : DeliverRefusal
  NoSuchDatagram : DeliverRefusal

-- A capture ends inside a frame that begins at `at`.
pub record EndsInFrame (input : List ℕ) (at : ℕ) : Type 0 where
  pub frames : List (List ℕ)
  pub rest : List ℕ
  pub splits : Splits input frames rest
  pub some : 1 ≤ length rest
  pub place : at ≡ length (framing frames)

-- A capture is whole frames, and doesn't have all listed positions; the first missing one is `at`.
pub record LacksPosition (list : List Range) (input : List ℕ) (at : ℕ) : Type 0 where
  pub frames : List (List ℕ)
  pub splits : Splits input frames []
  pub missing : first_missing list (length frames) ≡ Some at

-- What is refused of a capture, and where: its length first, then a frame that is cut, and then a
-- position.
abbrev pub DeliverRefuses : List Range → List ℕ → ℕ → DeliverRefusal → Type 0
DeliverRefuses list input at CaptureTooLong =
    (most_delivered < length input) × (at ≡ most_delivered)
DeliverRefuses list input at CutFrame = (length input ≤ most_delivered) × EndsInFrame input at
DeliverRefuses list input at NoSuchDatagram =
    (length input ≤ most_delivered) × LacksPosition list input at

-- A capture is delivered: it is whole frames, isn't too long, and has all listed positions.
pub record Delivers (list : List Range) (input : List ℕ) (frames : List (List ℕ)) : Type 0 where
  pub splits : Splits input frames []
  pub short : length input ≤ most_delivered
  pub has_all : first_missing list (length frames) ≡ None
