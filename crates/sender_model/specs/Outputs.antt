-- What `pack` and `send` have written.
use Rattle.std.specs.Prelude.{◌++◌, ℕ, Bool, List, [], length, codes, decimal, if◌then◌else◌}
use Rattle.wire_model.specs.Framing.{framing}
use Rattle.wire_model.specs.LinkAnswers.{LinkAnswer}
use Rattle.relay_model.specs.Queue.{Tale, untold, send_tale}
use Rattle.stream_model.specs.Commands.{counted}
use Rattle.stream_model.specs.Cut.{Plan}
use Rattle.sender_model.specs.Closing.{closed}

-- What `pack` has written of codestreams of which these bytes were read: the datagrams that they
-- fix.
abbrev pub pack_output : Plan → List ℕ → List ℕ
pack_output p read = framing (closed p (counted read))

-- The tale of `send` over codestreams of which these bytes were read, and the answers of its link.
abbrev pub sent_tale : Plan → ℕ → List ℕ → List LinkAnswer → Tale
sent_tale p idle read answers = send_tale idle 0 untold (closed p (counted read)) answers

-- The line of a sender of a number of datagrams.
abbrev pub send_line : ℕ → Tale → List ℕ
send_line datagrams t =
    codes "SEND datagrams=" ++ decimal datagrams
    ++ codes " sent=" ++ decimal (length t.sent)
    ++ codes " lost=" ++ decimal t.lost
    ++ codes " failed=" ++ decimal t.failed
    ++ codes "\n"

-- What `send` has written: nothing before the end of its input, and then its line.
abbrev pub send_output : Plan → ℕ → List ℕ → List LinkAnswer → Bool → List ℕ
send_output p idle read answers ended =
    if ended
    then send_line (length (closed p (counted read))) (sent_tale p idle read answers)
    else []
