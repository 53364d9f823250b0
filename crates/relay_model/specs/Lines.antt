-- What a relay writes at its end.
use Rattle.std.specs.Prelude.{◌+◌, ◌++◌, ℕ, Bool, true, false, List, [], ◌∷◌, length, nat_le, if◌then◌else◌, codes, decimal}
use Rattle.wire_model.specs.Receptions.{Reception, Arrived, Closed}
use Rattle.wire_model.specs.Datagram.{is_well_formed}
use Rattle.relay_model.specs.Queue.{Tale}

-- Calls for a datagram with these answers brought these in.
abbrev pub came : List Reception → List (List ℕ)
came [] = []
came (Arrived d ∷ received) = d ∷ came received
came (r ∷ received) = came received

-- One of these answers says that no datagram will come.
abbrev pub has_closed : List Reception → Bool
has_closed [] = false
has_closed (Closed ∷ received) = true
has_closed (r ∷ received) = has_closed received

-- This number of datagrams aren't well formed.
abbrev pub malformed_count : List (List ℕ) → ℕ
malformed_count [] = 0
malformed_count (d ∷ ds) = (if is_well_formed d then 0 else 1) + malformed_count ds

-- The word for why the turns ended: no datagram will come, this greatest number of them came, or else nothing
-- moved for too long.
abbrev pub end_word : ℕ → List Reception → List ℕ
end_word max received =
    if has_closed received
    then codes "closed"
    else if nat_le max (length (came received))
    then codes "max"
    else codes "idle"

-- The line of the way in: why the turns ended, how many datagrams came, and how many of them aren't well formed.
abbrev pub relay_line : ℕ → List Reception → List ℕ
relay_line max received =
    codes "RELAY end=" ++ end_word max received
    ++ codes " in=" ++ decimal (length (came received))
    ++ codes " refused=" ++ decimal (malformed_count (came received))
    ++ codes "\n"

-- The line of the receiver with this number and this tale.
abbrev pub peer_line : ℕ → Tale → List ℕ
peer_line number t =
    codes "PEER " ++ decimal number
    ++ codes " sent=" ++ decimal (length t.sent)
    ++ codes " lost=" ++ decimal t.lost
    ++ codes " failed=" ++ decimal t.failed
    ++ codes " left=" ++ decimal (length t.left)
    ++ codes "\n"

-- The lines of receivers with these tales, whose numbers begin with this one.
abbrev pub peer_lines : ℕ → List Tale → List ℕ
peer_lines number [] = []
peer_lines number (t ∷ tales) = peer_line number t ++ peer_lines (number + 1) tales

-- The lines that a relay writes at its end, of the answers to its calls for a datagram and of its receivers' tales.
abbrev pub relay_lines : ℕ → List Reception → List Tale → List ℕ
relay_lines max received tales = relay_line max received ++ peer_lines 0 tales
