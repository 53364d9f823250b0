-- What `rebuild` promises.
use Rattle.std.specs.Prelude.{◌≡◌, ◌≤◌, ℕ, Bool, List, [], length, Some}
use Rattle.std.specs.List.{AllByRecursion, enumerate_from}
use Rattle.wire_model.specs.Bytes.{IsBytes}
use Rattle.wire_model.specs.Causes.{Grew}
use Rattle.wire_model.specs.Framing.{Splits, whole_frames}
use Rattle.codestream_model.specs.Values.{Place}
use Rattle.codestream_model.specs.Precincts.{IsPrecinct}
use Rattle.codestream_model.specs.Packet.{HasFewBlocks}
use Rattle.codestream_model.specs.Codestream.{SpellsCodestream, IsCodestream, joined}
use Rattle.stream_model.specs.Stream.{Parts, Sent, Carry, carried_at, main_position, packet_span}
use Rattle.stream_model.specs.Arrivals.{picked, Arrive}
use Rattle.stream_model.specs.Reached.{is_reached}
use Rattle.stream_model.specs.Receiver.{Pick, new_receiver}
use Rattle.stream_model.specs.ReadingLaws.{kept_of}
use Rattle.stream_model.specs.Commands.{counted}
use Rattle.rebuild_model.specs.Stripping.{stripped}
use Rattle.rebuild_model.specs.Rebuilding.{codestream_with, rebuilt_stream}
use Rattle.rebuild_model.specs.RebuildingLaws.{contents_with, IsBuiltFrom}
use Rattle.scl_outside.specs.Meaning.{Meaning}
use Rattle.scl_outside.specs.Effects.{Effects}
use Rattle.scl_run.specs.declared.ending.Ending.{Ending}
use Rattle.scl_run.specs.declared.ending.Ending.TheVariants.{Done}
use Rattle.scl_run.specs.Endings.{status_of}
use Rattle.scl_run.specs.Performing.{HasPrefix, EndsAs}
use Rattle.scl_run.specs.Runs.{RunsAs}
use Rattle.rebuild_job.specs.Job.{rebuild_job}

-- Whether a packet of the codestream at this index of a stream is reached.
abbrev pub reached_of : List Sent → List ℕ → ℕ → ℕ × Sent → ℕ → Bool
reached_of sent events window x k =
    is_reached events window (carried_at (main_position sent x.0) x.1) k (packet_span x.1 (main_position sent x.0) k)

-- What is built of a codestream that was sent is accepted. At each precinct whose number passes the
-- test it says what was sent, and elsewhere nothing. Its main header has the values that were sent,
-- but for Psot, the offset of SOT and the length.
pub record SaysWhatPasses (test : ℕ → Bool) (c : Parts) : Type 0 where
  pub sot : ℕ
  pub says :
      SpellsCodestream (record (c.head) { psot = 0; sot = sot; length = length (stripped c.header) })
      (contents_with test c.content) (codestream_with test c)

-- The codestreams of a stream of which a precinct is reached were written, each with the packets
-- that are reached.
pub record Rebuilds (sent : List Sent) (events : List ℕ) (window : ℕ) (s t : Meaning) : Type 0 where
  pub written : Grew s.written t.written (rebuilt_stream events window sent)
  pub each : AllByRecursion (λ x. SaysWhatPasses (reached_of sent events window x) x.1.parts) (enumerate_from 0 sent)

-- So it is with a finished run: for accepted codestreams and a stream of datagrams that carries
-- them, whatever datagrams are lost, thinned away, repeated or reordered and whatever other frames
-- are among them.
abbrev pub StreamIsRebuilt : Type 0
StreamIsRebuilt =
    (pick : Pick) (s t : Meaning) → 1 ≤ pick.window → RunsAs (rebuild_job pick) s t Done
    → (sent : List Sent) (codestreams datagrams frames : List (List ℕ)) (events input rest : List ℕ)
    → Carry sent codestreams datagrams → Arrive datagrams (picked pick.kind pick.source frames) events
    → Splits input frames [] → s.left ≡ Some input → t.left ≡ Some rest
    → Rebuilds sent events pick.window s t

-- The frames that the receiver keeps of what was read.
abbrev pub frames_kept : Pick → List ℕ → List (List ℕ)
frames_kept pick read = kept_of pick (new_receiver pick) (whole_frames (counted read))

-- A codestream is accepted where no precinct of its main header has too many code-blocks.
abbrev pub IsAcceptedIfFew : List (List ℕ) → List ℕ → Type 0
IsAcceptedIfFew frames codestream =
    (b : IsBuiltFrom frames codestream) → ((p : Place) → IsPrecinct b.head p → HasFewBlocks b.head p)
    → IsCodestream codestream

-- What was written by the end, with this status, are codestreams that are built of the frames that
-- were kept, forged ones too; without the status 0, a prefix of them.
pub record EndsRebuilt (pick : Pick) (status : ℕ) (f : Effects) : Type 0 where
  pub codestreams : List (List ℕ)
  pub built : AllByRecursion (IsBuiltFrom (frames_kept pick f.read)) codestreams
  pub accepted : AllByRecursion (IsAcceptedIfFew (frames_kept pick f.read)) codestreams
  pub written : HasPrefix (joined codestreams) f.written
  pub finished : status ≡ 0 → f.written ≡ joined codestreams

-- So it is at the end, whatever bytes were read and however the run ended.
abbrev pub RebuiltAtEnd : Type 0
RebuiltAtEnd =
    (pick : Pick) (ending : Ending) (f : Effects) → IsBytes f.read → EndsAs (rebuild_job pick) ending f
    → EndsRebuilt pick (status_of ending) f
