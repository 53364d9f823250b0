-- The lines of a relay, by its counts.
use Rattle.std.specs.Prelude.{◌+◌, ◌++◌, ℕ, List, [], ◌∷◌, length, codes, decimal}
use Rattle.thinning_relay.specs.Receivers.{queued}
use Rattle.thinning_relay.specs.declared.receiver.Receiver.{Receiver}

-- The line of the way in, with this word and these numbers of datagrams that came and that were refused.
abbrev pub end_line : List ℕ → ℕ → ℕ → List ℕ
end_line word received refused =
    codes "RELAY end=" ++ word ++ codes " in=" ++ decimal received ++ codes " refused=" ++ decimal refused ++ codes "\n"

-- The line of a receiver with this number.
abbrev pub count_line : ℕ → Receiver → List ℕ
count_line number r =
    codes "PEER " ++ decimal number
    ++ codes " sent=" ++ decimal r.sent
    ++ codes " lost=" ++ decimal r.lost
    ++ codes " failed=" ++ decimal r.failed
    ++ codes " left=" ++ decimal (length (queued r))
    ++ codes "\n"

-- The lines of receivers whose numbers begin with this one.
abbrev pub count_lines : ℕ → List Receiver → List ℕ
count_lines number [] = []
count_lines number (r ∷ rs) = count_line number r ++ count_lines (number + 1) rs
