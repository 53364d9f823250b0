-- The job of `relay`.
use Rattle.std.specs.Prelude.{◌≡◌, ◌≤◌, ◌<◌, ◌+◌, ◌++◌, ◌⊎◌, ℕ, Bool, true, false, List, [], ◌∷◌, length, map, replicate, Some, if◌then◌else◌}
use Rattle.std.specs.List.{slice_get, flat_map}
use Rattle.wire_model.specs.LinkAnswers.{LinkAnswer, NotReady}
use Rattle.relay_model.specs.Queue.{Tale}
use Rattle.relay_model.specs.Relays.{given_by, left_over, ends_ready, relay_tale}
use Rattle.relay_model.specs.Lines.{came, has_closed, relay_lines}
use Rattle.scl_outside.specs.Meaning.{Parcel}
use Rattle.scl_outside.specs.Events.{WireEvent, Offered, Bound, Joined}
use Rattle.scl_outside.specs.Effects.{Effects, receptions}
use Rattle.polled_datagrams.specs.Offers.{answers_to, sent_to}
use Rattle.scl_run.specs.InputClass.{no_input}
use Rattle.scl_run.specs.Job.{Seen, seen, Job, BeforeOutput}
use Rattle.relay_job.specs.Settings.{Target, Settings, addresses}
use Rattle.relay_job.specs.Turns.{turns_of, idle_run, has_failed, EachIsPolled}

-- The tale of the receiver with this number, by what came in and by what its own link answered.
abbrev pub tale_of : ℕ → Target → Seen → Tale
tale_of j r x = relay_tale r.limit r.depth x.received (answers_to j x.answers)

-- The tales of receivers whose numbers begin with this one.
abbrev pub tales_from : ℕ → List Target → Seen → List Tale
tales_from j [] x = []
tales_from j (r ∷ targets) x = tale_of j r x ∷ tales_from (j + 1) targets x

-- At its end a relay writes its line and those of its receivers, by their tales.
abbrev pub written_by : Settings → Seen → List ℕ
written_by s x = relay_lines s.max x.received (tales_from 0 s.targets x)

-- To each receiver was sent what its tale says, by its own limit, depth and link; and to nobody else anything.
pub record SendsEach (s : Settings) (x : Seen) (sent : List Parcel) : Type 0 where
  pub each : (j : ℕ) (r : Target) → slice_get s.targets j ≡ Some r → sent_to j sent ≡ (tale_of j r x).sent
  pub others : (j : ℕ) → length s.targets ≤ j → sent_to j sent ≡ []

-- The local address is bound, and then each receiver's is joined, in their order.
abbrev pub naming : Settings → List WireEvent
naming s = Bound s.local true ∷ map (λ text. Joined text true) (addresses s.targets)

-- All addresses were named before anything else.
abbrev pub BeginsNamed : Settings → List WireEvent → Type 0
BeginsNamed s wire = (later : List WireEvent) × (wire ≡ naming s ++ later)

-- A further datagram may be asked for: all is named, fewer came than the most that are taken, no call said that
-- none will come, the last turns were idle fewer times than it ends after, and each turn polled each receiver once.
pub record MayReceive (s : Settings) (f : Effects) : Type 0 where
  pub named : BeginsNamed s f.wire
  pub few : length (came (receptions f.wire)) < s.max
  pub not_closed : has_closed (receptions f.wire) ≡ false
  pub busy : idle_run 0 (turns_of f.wire) < s.idle
  pub polled : EachIsPolled s f.wire

-- The turns have come to their end: no datagram will come, the most that are taken came, or the last turns were
-- idle, in the number that it ends after.
abbrev pub HasEnded : Settings → List WireEvent → Type 0
HasEnded s wire =
    (has_closed (receptions wire) ≡ true) ⊎ (s.max ≤ length (came (receptions wire))) ⊎ (s.idle ≤ idle_run 0 (turns_of wire))

-- All of these calls are to receivers.
abbrev pub are_offers : List WireEvent → Bool
are_offers [] = true
are_offers (Offered parcel answer ∷ ws) = are_offers ws
are_offers (w ∷ ws) = false

-- A receiver's queue is empty, or each of its last flushes, in this number, took one answer, that its link wasn't
-- ready.
abbrev pub HasDrained : ℕ → ℕ → Target → Seen → Type 0
HasDrained idle j r x =
    ((tale_of j r x).left ≡ [])
    ⊎ ((front : List LinkAnswer)
    × (left_over r.limit r.depth (map given_by x.received) (answers_to j x.answers) ≡ front ++ replicate idle NotReady)
    × (ends_ready front ≡ 0))

-- All is done on the wire: the turns ended, each polled each receiver once, and then each receiver was flushed
-- until that had helped no more.
pub record IsClosed (s : Settings) (wire : List WireEvent) : Type 0 where
  pub turned : List WireEvent
  pub flushed : List WireEvent
  pub whole : wire ≡ turned ++ flushed
  pub named : BeginsNamed s turned
  pub ended : HasEnded s turned
  pub polled : EachIsPolled s turned
  pub offers : are_offers flushed ≡ true
  pub drained : (j : ℕ) (r : Target) → slice_get s.targets j ≡ Some r → HasDrained s.idle j r (seen [] wire)

-- A call may name an address.
abbrev pub named_by : WireEvent → List (List ℕ)
named_by (Bound text done) = text ∷ []
named_by (Joined text done) = text ∷ []
named_by w = []

-- No address is named but those of the words, in their order; and also in a turn whose call for a datagram failed
-- each receiver was polled once.
pub record KeepsToWords (s : Settings) (wire : List WireEvent) : Type 0 where
  pub names : (rest : List (List ℕ)) × (s.local ∷ addresses s.targets ≡ flat_map named_by wire ++ rest)
  pub polled : has_failed (receptions wire) ≡ true → EachIsPolled s wire

-- `relay` reads no input, passes on what comes until an end comes, and then writes its lines. It may be out of
-- memory before it writes.
abbrev pub relay_job : Settings → Job
relay_job s = record {
  inputs = no_input;
  made = λ x ended. if ended then written_by s x else [];
  Sends = SendsEach s;
  Asks = MayReceive s;
  Wires = KeepsToWords s;
  Closes = IsClosed s;
  memory = BeforeOutput;
}
