-- How a sender is at work.
use Rattle.std.specs.Prelude.{◌≡◌, ◌++◌, ℕ, false, List, [], ◌∷◌, length}
use Rattle.std.specs.List.{flat_map}
use Rattle.wire_model.specs.LinkAnswers.{LinkAnswer}
use Rattle.relay_model.specs.Queue.{Tale}
use Rattle.sender_model.specs.Sending.{HasTaken}
use Rattle.scl_outside.specs.Meaning.{Meaning}
use Rattle.scl_outside.specs.Events.{Event, WireEvent, Wrote, WriteFailed}
use Rattle.scl_outside.specs.Steps.{Step}
use Rattle.scl_outside.specs.Effects.{nothing, effects, receptions, answers, parcels, wire_failed}
use Rattle.scl_outside.specs.Traces.{Trace, AtReads}
use Rattle.polled_datagrams.specs.Offers.{replies_of, parcels_of}
use Rattle.packetiser.specs.Packing.{Packing}
use Rattle.packetiser.specs.Sending.{Sender}
use Rattle.scl_run.specs.declared.ending.Ending.{Ending}
use Rattle.scl_run.specs.declared.ending.Ending.TheVariants.{Done, WriteFault}
use Rattle.scl_run.specs.Performing.{IsSoFar}
use Rattle.send_job.specs.declared.counts.Counts.{Counts}
use Rattle.send_job.specs.Settings.{Settings}
use Rattle.send_job.specs.Naming.{BeginsNamed, named_by}
use Rattle.send_job.specs.Offering.{AreCounts, total, count_line}
use Rattle.send_job.specs.Job.{send_job}

-- By these calls of the wire both addresses were named, the peer's link gave these answers, and these datagrams were
-- sent to it.
pub record Wired (s : Settings) (wire : List WireEvent) (given : List LinkAnswer) (sent : List (List ℕ)) : Type 0 where
  pub named : BeginsNamed s wire
  pub names : flat_map named_by wire ≡ s.local ∷ s.peer ∷ []
  pub replies : answers wire ≡ replies_of 0 given
  pub parcels : parcels wire ≡ parcels_of 0 sent
  pub received : receptions wire ≡ []
  pub passed : wire_failed wire ≡ false

-- So far these bytes were read, and these datagrams were given; each was offered to the peer until it was sent,
-- failed or was lost, and counted.
pub record Sent (s : Settings) (m n : Meaning) (v : Packing) (c : Counts) (es : List Event) : Type 0 where
  pub trace : Trace m es n
  pub so_far : AtReads (IsSoFar (send_job s)) nothing es
  pub read : List ℕ
  pub datagrams : List (List ℕ)
  pub wire : List WireEvent
  pub given : List LinkAnswer
  pub tale : Tale
  pub done : effects es ≡ record nothing { read = read; wire = wire }
  pub wired : Wired s wire given tale.sent
  pub taken : HasTaken s.idle datagrams given tale
  pub plan : v.plan ≡ s.plan
  pub sender : Sender s.plan read datagrams v
  pub counts : AreCounts c tale
  pub all : total c ≡ length datagrams
  pub peers : n.wire.peers ≡ 1

-- The line of these counts was written, or a prefix of it before the write failed.
abbrev pub Finishes : Counts → Ending → Meaning → Meaning → Type 0
Finishes c Done m n = Step m (Wrote (count_line c)) n
Finishes c WriteFault m n =
    (front : List ℕ) × (rest : List ℕ) × (count_line c ≡ front ++ rest) × Step m (WriteFailed front) n
Finishes c ending m n = ⊥
