-- The job of `send`.
use Rattle.std.specs.Prelude.{◌≡◌, ◌++◌, ℕ, List, [], ◌∷◌}
use Rattle.std.specs.List.{AllByRecursion, flat_map}
use Rattle.wire_model.specs.LinkAnswers.{LinkAnswer}
use Rattle.relay_model.specs.Queue.{Tale}
use Rattle.stream_model.specs.Commands.{counted}
use Rattle.sender_model.specs.Closing.{closed}
use Rattle.sender_model.specs.Outputs.{sent_tale, send_output}
use Rattle.sender_model.specs.Sending.{HasTaken}
use Rattle.scl_outside.specs.Meaning.{Parcel}
use Rattle.scl_outside.specs.Events.{WireEvent}
use Rattle.scl_outside.specs.Effects.{Effects, receptions, answers}
use Rattle.polled_datagrams.specs.Offers.{answers_to, parcels_of}
use Rattle.pack_job.specs.SentInput.{sent_input}
use Rattle.scl_run.specs.Job.{Seen, Job, BeforeInput}
use Rattle.send_job.specs.Settings.{Settings}
use Rattle.send_job.specs.Naming.{BeginsNamed, named_by}

-- The answers of the peer's link.
abbrev pub link_answers : Seen → List LinkAnswer
link_answers x = answers_to 0 x.answers

-- The tale of the datagrams that the bytes read fix, by the answers of the peer's link.
abbrev pub tale_of : Settings → Seen → Tale
tale_of s x = sent_tale s.plan s.idle x.read (link_answers x)

-- The datagrams that the bytes read fix have taken just the answers of the peer's link, so none of them is left; and
-- what was sent are those that went out by their tale, to the peer, and nothing to anybody else.
pub record SendsTold (s : Settings) (x : Seen) (out : List Parcel) : Type 0 where
  pub taken : HasTaken s.idle (closed s.plan (counted x.read)) (link_answers x) (tale_of s x)
  pub sent : out ≡ parcels_of 0 (tale_of s x).sent

-- A further byte may be asked for: the input is open, and both addresses were named.
pub record MayRead (s : Settings) (f : Effects) : Type 0 where
  pub wants : (sent_input s.plan).Wants f.read
  pub named : BeginsNamed s f.wire

-- No address is named but those of the words, in their order; no datagram is asked for, and none is offered to
-- anybody but the peer.
pub record KeepsToWords (s : Settings) (wire : List WireEvent) : Type 0 where
  pub names : (rest : List (List ℕ)) × (s.local ∷ s.peer ∷ [] ≡ flat_map named_by wire ++ rest)
  pub asks_nothing : receptions wire ≡ []
  pub one_peer : AllByRecursion (λ r. r.peer ≡ 0) (answers wire)

-- `send` reads codestreams to the end of the input, sends each datagram to its peer as soon as the bytes read fix it,
-- and then writes its line. It may be out of memory before it reads anything and names an address.
abbrev pub send_job : Settings → Job
send_job s = record {
  inputs = sent_input s.plan;
  made = λ x ended. send_output s.plan s.idle x.read (link_answers x) ended;
  Sends = SendsTold s;
  Asks = MayRead s;
  Wires = KeepsToWords s;
  Closes = BeginsNamed s;
  memory = BeforeInput;
}
