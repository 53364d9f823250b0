-- What `pack` writes, in the words of streams: a capture from which a receiver gets the codestreams.
use Rattle.std.specs.Prelude.{◌≡◌, ◌≢◌, ◌<◌, ◌≤◌, ◌+◌, ℕ, List, [], map, length, Some}
use Rattle.std.specs.List.{AllByRecursion}
use Rattle.wire_model.specs.Bytes.{IsBytes}
use Rattle.wire_model.specs.Causes.{Grew}
use Rattle.wire_model.specs.Framing.{framing, Splits}
use Rattle.codestream_model.specs.Codestream.{IsInput, joined}
use Rattle.stream_model.specs.Arrivals.{Arrive, datagram_at, picked}
use Rattle.stream_model.specs.Commands.{counted}
use Rattle.stream_model.specs.Cut.{Plan, IsPlan, IsCut, Closed}
use Rattle.stream_model.specs.Receiver.{Pick}
use Rattle.stream_model.specs.Stream.{Sent, Carry}
use Rattle.stream_model.specs.ThinnedLaws.{Picks}
use Rattle.sender_model.specs.Lead.{carried_bytes}
use Rattle.scl_outside.specs.Meaning.{Meaning}
use Rattle.scl_outside.specs.Effects.{Effects}
use Rattle.scl_run.specs.declared.ending.Ending.{Ending}
use Rattle.scl_run.specs.declared.ending.Ending.TheVariants.{Done}
use Rattle.scl_run.specs.Endings.{status_of}
use Rattle.scl_run.specs.Performing.{HasPrefix, IsSoFar, EndsAs}
use Rattle.scl_run.specs.Runs.{RunsAs}
use Rattle.pack_job.specs.PackJob.{pack_job}

-- A capture has the datagrams of the cut of these codestreams by a plan, as its frames and in order.
-- They are a stream that carries the codestreams. Whichever of them come to a receiver of the plan's
-- payload type and of its source or any, lost, repeated or reordered, they are what it picks.
pub record IsStreamCapture (p : Plan) (codestreams : List (List ℕ)) (capture : List ℕ) : Type 0 where
  pub datagrams : List (List ℕ)
  pub sent : List Sent
  pub splits : Splits capture datagrams []
  pub is_cut : IsCut p codestreams datagrams
  pub carries : Carry sent codestreams datagrams
  pub arrives :
      (pick : Pick) (events : List ℕ) → Picks p pick
      → AllByRecursion (λ i. i < length datagrams) events
      → Arrive datagrams (picked pick.kind pick.source (map (datagram_at datagrams) events)) events

-- All that was read between two moments are accepted codestreams, to the end of the input, and what
-- was written is the capture of a stream of them.
pub record PacksStream (p : Plan) (s t : Meaning) : Type 0 where
  pub codestreams : List (List ℕ)
  pub capture : List ℕ
  pub read : Grew s.read t.read (joined codestreams)
  pub whole :
      (input rest : List ℕ)
      → s.left ≡ Some input → t.left ≡ Some rest → IsInput input codestreams
  pub written : Grew s.written t.written capture
  pub is_capture : IsStreamCapture p codestreams capture

-- A finished run of `pack` does so.
abbrev pub StreamIsPacked : Type 0
StreamIsPacked =
    (p : Plan) (s t : Meaning) → IsPlan p → RunsAs (pack_job p) s t Done → PacksStream p s t

-- What was written are the frames of the datagrams that the bytes read fix, and nothing of what they
-- leave open. At most 90,000 of the bytes read are in no datagram that was written.
pub record IsPackedSoFar (p : Plan) (f : Effects) : Type 0 where
  pub datagrams : List (List ℕ)
  pub fixed : Closed p (counted f.read) datagrams
  pub written : f.written ≡ framing datagrams
  pub lead : length f.read ≤ carried_bytes datagrams + 90000

-- So it is before each call that asks for input.
abbrev pub PackedSoFar : Type 0
PackedSoFar =
    (p : Plan) (f : Effects) → IsPlan p → IsBytes f.read → IsSoFar (pack_job p) f
    → IsPackedSoFar p f

-- What was written by the end are the frames of the datagrams that the bytes read fix; with the
-- status 4, a prefix of them.
pub record EndsPacked (p : Plan) (status : ℕ) (f : Effects) : Type 0 where
  pub datagrams : List (List ℕ)
  pub fixed : Closed p (counted f.read) datagrams
  pub written : status ≢ 4 → f.written ≡ framing datagrams
  pub broken_off : status ≡ 4 → HasPrefix (framing datagrams) f.written

-- So it is at the end, however the run ended.
abbrev pub PackedAtEnd : Type 0
PackedAtEnd =
    (p : Plan) (ending : Ending) (f : Effects) → IsPlan p → IsBytes f.read
    → EndsAs (pack_job p) ending f → EndsPacked p (status_of ending) f
