-- What `send` sends, in the words of the cut.
use Rattle.std.specs.Prelude.{◌≡◌, ◌≢◌, ◌≤◌, ◌+◌, ◌⊎◌, ℕ, true, List, [], length}
use Rattle.std.specs.List.{AllByRecursion}
use Rattle.wire_model.specs.Bytes.{IsBytes}
use Rattle.wire_model.specs.LinkAnswers.{LinkAnswer}
use Rattle.wire_model.specs.LinkAnswers as link
use Rattle.codestream_model.specs.Codestream.{IsInput}
use Rattle.relay_model.specs.Queue.{Tale, untold, send_tale}
use Rattle.stream_model.specs.Commands.{counted}
use Rattle.stream_model.specs.Cut.{IsPlan, IsCut, Closed}
use Rattle.sender_model.specs.Lead.{carried_bytes}
use Rattle.sender_model.specs.Outputs.{send_line}
use Rattle.sender_model.specs.Sending.{HasTaken}
use Rattle.scl_outside.specs.Meaning.{Meaning}
use Rattle.scl_outside.specs.Effects.{Effects, effects, answers, parcels}
use Rattle.polled_datagrams.specs.Offers.{answers_to, sent_to, parcels_of}
use Rattle.scl_run.specs.declared.ending.Ending.{Ending}
use Rattle.scl_run.specs.Endings.{status_of}
use Rattle.scl_run.specs.Performing.{HasPrefix, IsSoFar}
use Rattle.scl_run.specs.Runs.{RunsAs}
use Rattle.send_job.specs.Settings.{Settings}
use Rattle.send_job.specs.Naming.{BeginsNamed}
use Rattle.send_job.specs.Job.{send_job}

-- The answers of the peer's link.
abbrev pub answered : Effects → List LinkAnswer
answered f = answers_to 0 (answers f.wire)

-- These datagrams, with the answers of the peer's link, have this tale.
abbrev pub told_of : Settings → List (List ℕ) → Effects → Tale
told_of s datagrams f = send_tale s.idle 0 untold datagrams (answered f)

-- These datagrams are those that the bytes read fix. Each took its answers of the peer's link until it was sent,
-- failed or was lost, and there are no other answers. What was sent are those that went out by their tale, in order.
pub record AreTold (s : Settings) (f : Effects) (datagrams : List (List ℕ)) : Type 0 where
  pub fixed : Closed s.plan (counted f.read) datagrams
  pub taken : HasTaken s.idle datagrams (answered f) (told_of s datagrams f)
  pub sent : parcels f.wire ≡ parcels_of 0 (told_of s datagrams f).sent

-- The link took each datagram.
abbrev pub AllSent : Effects → Type 0
AllSent f = AllByRecursion (λ a. a ≡ link.Sent) (answered f)

-- The datagrams that the bytes read fix are told, nothing is written, and both addresses were named. At most 90,000 of
-- the bytes read are in no datagram that was sent, where the link took each.
pub record IsSentSoFar (s : Settings) (f : Effects) : Type 0 where
  pub datagrams : List (List ℕ)
  pub told : AreTold s f datagrams
  pub written : f.written ≡ []
  pub named : BeginsNamed s f.wire
  pub lead : AllSent f → length f.read ≤ carried_bytes (sent_to 0 (parcels f.wire)) + 90000

-- So it is before each call that asks for input.
abbrev pub SentSoFar : Type 0
SentSoFar =
    (s : Settings) (f : Effects) → IsPlan s.plan → IsBytes f.read → IsSoFar (send_job s) f → IsSentSoFar s f

-- A read was made.
abbrev pub HasRead : Effects → Type 0
HasRead f = (f.read ≢ []) ⊎ ((f.ended ≡ true) ⊎ (f.read_failed ≡ true))

-- The input is accepted codestreams, and these datagrams are their cut.
pub record IsWhole (s : Settings) (f : Effects) (datagrams : List (List ℕ)) : Type 0 where
  pub codestreams : List (List ℕ)
  pub is_input : IsInput f.read codestreams
  pub is_cut : IsCut s.plan codestreams datagrams
  pub written : f.written ≡ send_line (length datagrams) (told_of s datagrams f)
  pub named : BeginsNamed s f.wire

-- The datagrams that the bytes read fix are told. With the status 0 they are the cut of the codestreams that were read,
-- and the line with their counts was written; with the status 4 a prefix of that line was, and otherwise nothing. Where
-- a read was made, both addresses were named.
pub record EndsSent (s : Settings) (status : ℕ) (f : Effects) : Type 0 where
  pub datagrams : List (List ℕ)
  pub told : AreTold s f datagrams
  pub whole : status ≡ 0 → IsWhole s f datagrams
  pub silent : status ≢ 0 → status ≢ 4 → f.written ≡ []
  pub broken_off : status ≡ 4 → HasPrefix (send_line (length datagrams) (told_of s datagrams f)) f.written
  pub named : HasRead f → BeginsNamed s f.wire

-- So it is at the end, however a run ended.
abbrev pub SentAtEnd : Type 0
SentAtEnd =
    (s : Settings) (m n : Meaning) (ending : Ending) → IsPlan s.plan → (run : RunsAs (send_job s) m n ending)
    → EndsSent s (status_of ending) (effects run.events)
