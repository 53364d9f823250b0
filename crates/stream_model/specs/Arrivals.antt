-- What arrives of a stream: the frames that are picked, their positions in the stream, and which of them are in time.
use Rattle.std.specs.Prelude.{◌≡◌, ◌<◌, ◌+◌, ◌-◌, ◌==◌, ◌&&◌, ℕ, Bool, max, List, [], map, length, slice_index, slice_index_or, nat_le, nat_lt, Option, Some, None}
use Rattle.std.specs.List.{AllByRecursion, filter, fold, list_any, list_all, before_first, prefix_len, range_with_len}
use Rattle.wire_model.specs.Datagram.{datagram_of, is_well_formed}

-- The frame is a well-formed one of this payload type.
abbrev pub is_of_kind : ℕ → List ℕ → Bool
is_of_kind kind frame = is_well_formed frame && ((datagram_of frame).rtp.kind == kind)

-- The source of a frame, its SSRC.
abbrev pub source_of : List ℕ → ℕ
source_of frame = (datagram_of frame).rtp.source

-- The source that is picked: the one that is asked for, or else that of the first well-formed frame of the payload
-- type.
abbrev pub picked_source : ℕ → Option ℕ → List (List ℕ) → ℕ
picked_source kind (Some source) frames = source
picked_source kind None frames = slice_index (map source_of (filter (is_of_kind kind) frames)) 0

-- The frames that are picked: the well-formed ones of the payload type and of the source.
abbrev pub picked : ℕ → Option ℕ → List (List ℕ) → List (List ℕ)
picked kind source frames = filter (λ frame. is_of_kind kind frame && (source_of frame == picked_source kind source frames)) frames

-- The frame is the datagram of a stream at a position.
abbrev pub datagram_at : List (List ℕ) → ℕ → List ℕ
datagram_at datagrams i = slice_index_or datagrams i []

-- The frames are datagrams of this stream, and the events are their positions in it, in the order in which they arrive.
pub record Arrive (datagrams frames : List (List ℕ)) (events : List ℕ) : Type 0 where
  pub within : AllByRecursion (λ i. i < length datagrams) events
  pub each : frames ≡ map (datagram_at datagrams) events

-- Whether a position arrived.
abbrev pub has_arrived : List ℕ → ℕ → Bool
has_arrived events i = list_any (λ a. a == i) events

-- The position that arrived first.
abbrev pub first_arrival : List ℕ → ℕ
first_arrival events = slice_index events 0

-- The highest position that arrived.
abbrev pub highest_arrival : List ℕ → ℕ
highest_arrival events = fold max 0 events

-- Whether a position is in time: it arrived, it isn't below the first arrival, and before its own first arrival no
-- position arrived that is ahead of it by the window's size or more.
abbrev pub in_time : List ℕ → ℕ → ℕ → Bool
in_time events i window =
    has_arrived events i
    && nat_le (first_arrival events) i
    && list_all (λ a. nat_lt a (i + window)) (before_first (λ a. a == i) events)

-- The lowest position that may still count: the first arrival, or as far below the highest as the window reaches.
abbrev pub floor : List ℕ → ℕ → ℕ
floor events window = max (first_arrival events) (highest_arrival events + 1 - window)

-- The base: the least position, from the floor on, that isn't in time; the law `BaseIsLeast` says so.
abbrev pub base : List ℕ → ℕ → ℕ
base events window =
    floor events window
    + prefix_len (λ i. in_time events i window) (range_with_len (floor events window) (highest_arrival events + 1 - floor events window))

-- The positions in time, in ascending order.
abbrev pub positions_in_time : List ℕ → ℕ → List ℕ
positions_in_time events window = filter (λ i. in_time events i window) (range_with_len 0 (highest_arrival events + 1))
