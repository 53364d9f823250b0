-- What is left of a stream for a receiver that wants only the lower resolutions.
use Rattle.std.specs.Prelude.{◌≤◌, ◌&&◌, ℕ, Bool, true, List, nat_le, filter}
use Rattle.wire_model.specs.Payload.{PayloadFields, Main, Body}
use Rattle.wire_model.specs.Datagram.{Datagram, IsDatagram, datagram_of, is_well_formed}

-- A Main serves every receiver, and a Body those whose limit is at least its RES.
abbrev pub IsWithin : ℕ → PayloadFields → Type 0
IsWithin limit (Main h) = Unit {0}
IsWithin limit (Body h) = h.res ≤ limit

-- A well-formed datagram is kept under this limit.
abbrev pub IsKept : ℕ → List ℕ → Type 0
IsKept limit bytes = (x : Datagram) × IsDatagram x bytes × IsWithin limit x.payload

-- Whether a payload serves a receiver with this limit, computed.
abbrev pub is_within : ℕ → PayloadFields → Bool
is_within limit (Main h) = true
is_within limit (Body h) = nat_le h.res limit

-- Whether a frame is kept under this limit, computed.
abbrev pub is_kept : ℕ → List ℕ → Bool
is_kept limit bytes = is_well_formed bytes && is_within limit (datagram_of bytes).payload

-- The frames of a list that are kept, unchanged and in order.
abbrev pub kept : ℕ → List (List ℕ) → List (List ℕ)
kept limit frames = filter (is_kept limit) frames
