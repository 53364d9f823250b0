-- What `recv` writes of the datagrams that come.
use Rattle.std.specs.Prelude.{◌++◌, ℕ, Bool, List, [], length, codes, decimal, if◌then◌else◌}
use Rattle.wire_model.specs.Receptions.{Reception}
use Rattle.relay_model.specs.Lines.{came, end_word}
use Rattle.stream_model.specs.Receiver.{Pick, received}
use Rattle.stream_model.specs.Commands.{reported}

-- The last line: why no further datagram was asked for, and how many came.
abbrev pub recv_line : ℕ → List Reception → List ℕ
recv_line max receptions =
    codes "RECV end=" ++ end_word max receptions
    ++ codes " in=" ++ decimal (length (came receptions))
    ++ codes "\n"

-- What `recv` has written, by the answers to its calls for a datagram: what `report` writes of the
-- datagrams that came, and at the end its line.
abbrev pub recv_output : Pick → ℕ → List Reception → Bool → List ℕ
recv_output pick max receptions ended =
    reported (received pick (came receptions)) ended
    ++ (if ended then recv_line max receptions else [])
