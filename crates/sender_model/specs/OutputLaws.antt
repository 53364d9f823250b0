-- Laws of what `pack` has written and `send` has sent.
use Rattle.std.specs.Prelude.{◌≡◌, ◌++◌, ℕ, List}
use Rattle.codestream_model.specs.Bytes.{IsBytes}
use Rattle.wire_model.specs.LinkAnswers.{LinkAnswer}
use Rattle.wire_model.specs.Framing.{framing, whole_frames}
use Rattle.stream_model.specs.Commands.{counted}
use Rattle.stream_model.specs.Cut.{Plan, IsPlan}
use Rattle.stream_model.specs.Stream.{Parts}
use Rattle.stream_model.specs.ThinnedLaws.{CanBeSent, cut_of}
use Rattle.sender_model.specs.Closing.{closed}
use Rattle.sender_model.specs.Refusals.{SenderAccepts}
use Rattle.sender_model.specs.Outputs.{pack_output, sent_tale}

-- The frames of what `pack` has written are the datagrams that the bytes fix.
abbrev pub PackedAreFrames : Type 0
PackedAreFrames =
    (p : Plan) (read : List ℕ) → whole_frames (pack_output p read) ≡ closed p (counted read)

-- What `pack` has written stays, whatever is read later.
abbrev pub PackOnlyGrows : Type 0
PackOnlyGrows =
    (p : Plan) (read more : List ℕ) → IsPlan p → IsBytes (read ++ more)
    → (later : List ℕ) × (pack_output p (read ++ more) ≡ pack_output p read ++ later)

-- Of an input that it takes to its end `pack` writes the cut.
abbrev pub PackWritesCut : Type 0
PackWritesCut =
    (p : Plan) (input : List ℕ) (codestreams : List (List ℕ)) → IsPlan p → IsBytes input
    → SenderAccepts p input codestreams
    → (parts : List Parts) × CanBeSent p parts codestreams
    × (pack_output p input ≡ framing (cut_of p parts))

-- What `send` has sent stays, whatever is read and answered later.
abbrev pub SendOnlyGrows : Type 0
SendOnlyGrows =
    (p : Plan) (idle : ℕ) (read more : List ℕ) (answers later : List LinkAnswer) → IsPlan p
    → IsBytes (read ++ more)
    → (added : List (List ℕ))
    × ((sent_tale p idle (read ++ more) (answers ++ later)).sent
    ≡ (sent_tale p idle read answers).sent ++ added)
