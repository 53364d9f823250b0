-- How the packets that a receiver releases frame by frame join.
use Rattle.std.specs.Prelude.{◌≡◌, ◌++◌, ℕ, List, []}
use Rattle.stream_model.specs.Decoder.{Release}
use Rattle.stream_model.specs.Receiver.{Pick, Receiver, take_frame, flushed}

-- The receiver as if it had released nothing yet.
abbrev pub forgetful : Receiver → Receiver
forgetful r = record r { releases = [] }

-- The receiver as if it had released these packets before its own.
abbrev pub having_given : List Release → Receiver → Receiver
having_given xs r = record r { releases = xs ++ r.releases }

-- What a frame makes of a receiver doesn't depend on what was released before: what it releases is appended. So the releases of
-- frames are those of each frame, joined.
abbrev pub PrecinctsJoin : Type 0
PrecinctsJoin =
    (pick : Pick) (r : Receiver)
    → ((frame : List ℕ) → take_frame pick r frame ≡ having_given r.releases (take_frame pick (forgetful r) frame))
    × (flushed r ≡ having_given r.releases (flushed (forgetful r)))
