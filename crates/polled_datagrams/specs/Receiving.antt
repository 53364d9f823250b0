-- What a poll for a datagram does.
use Rattle.std.specs.Prelude.{◌≡◌, ℕ, List, take, length, min}
use Rattle.wire_model.specs.Receptions.{Arrived, NotReady, Closed, Failed}
use Rattle.scl_outside.specs.Meaning.{Meaning}
use Rattle.scl_outside.specs.Events.{OnWire, Received}
use Rattle.scl_outside.specs.Steps.{Step}
use Rattle.polled_datagrams.specs.declared.receiving.RecvFuture.{RecvFuture}
use Rattle.polled_datagrams.specs.declared.receiving.Polled.{Polled}
use Rattle.polled_datagrams.specs.declared.receiving.Polled.TheVariants as polled

-- This is kept of the last datagram.
abbrev pub bytes_of : RecvFuture → List ℕ
bytes_of f = take f.len f.buffer.items

-- A poll makes one call for a datagram and answers as it does. It keeps the datagram, of a longer one its
-- first 9,001 bytes, whose number it answers.
abbrev pub PollsOne : Meaning → Polled → List ℕ → Meaning → Type 0
PollsOne s (polled.Ready n) bytes t =
    (d : List ℕ) × (n ≡ min (length d) 9001) × (bytes ≡ take 9001 d) × Step s (OnWire (Received (Arrived d))) t
PollsOne s polled.Pending bytes t = Step s (OnWire (Received NotReady)) t
PollsOne s polled.Ended bytes t = Step s (OnWire (Received Closed)) t
PollsOne s polled.Failed bytes t = Step s (OnWire (Received Failed)) t
