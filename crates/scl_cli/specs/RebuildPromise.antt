-- What a run of `rebuild` promises.
use Rattle.std.specs.Prelude.{◌≡◌, ℕ, List, [], Some}
use Rattle.wire_model.specs.Framing.{Splits}
use Rattle.stream_model.specs.Stream.{Sent, Carry}
use Rattle.stream_model.specs.Arrivals.{picked, Arrive}
use Rattle.stream_model.specs.Receiver.{Pick}
use Rattle.scl_outside.specs.Meaning.{Meaning}
use Rattle.scl_outside.specs.Effects.{Effects}
use Rattle.scl_outside.specs.Traces.{Affects}
use Rattle.stream_receiver.specs.declared.pick.Pick.{Pick as Picked}
use Rattle.stream_receiver.specs.States.{pick_of}
use Rattle.rebuild_job.specs.Promises.{Rebuilds, EndsRebuilt}
use Rattle.scl_cli.specs.declared.command.Command.TheVariants.{Rebuild}
use Rattle.scl_cli.specs.Commands.{Spells}

-- For accepted codestreams and a stream of datagrams that carries them, whatever datagrams are
-- lost, thinned away, repeated or reordered and whatever other frames are among them: of a capture
-- of these frames the codestreams of which a precinct is reached are written again, each with the
-- packets that are reached and with empty ones for the other precincts.
abbrev pub RebuildsOfStreams : Pick → Meaning → Meaning → Type 0
RebuildsOfStreams pick s t =
    (sent : List Sent) (codestreams datagrams frames : List (List ℕ)) (events input rest : List ℕ)
    → Carry sent codestreams datagrams → Arrive datagrams (picked pick.kind pick.source frames) events
    → Splits input frames [] → s.left ≡ Some input → t.left ≡ Some rest
    → Rebuilds sent events pick.window s t

-- Whatever was read, what was written by the end are codestreams that are built of the frames that
-- are kept, or a prefix of them.
abbrev pub EndsWithBuilt : Pick → Meaning → Meaning → ℕ → Type 0
EndsWithBuilt pick s t status = (f : Effects) × Affects s f t × EndsRebuilt pick status f

-- A run of `rebuild` with this status.
pub record RebuildsAs (pick : Pick) (s t : Meaning) (status : ℕ) : Type 0 where
  pub stream : status ≡ 0 → RebuildsOfStreams pick s t
  pub ends : EndsWithBuilt pick s t status

-- Where the words spell `rebuild`, the run keeps the promise of the stream that they pick.
abbrev pub RebuildsStreams : List (List ℕ) → Meaning → Meaning → ℕ → Type 0
RebuildsStreams words s t status = (pick : Picked) → Spells (Rebuild pick) words → RebuildsAs (pick_of pick) s t status
