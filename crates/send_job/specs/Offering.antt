-- What offering one datagram to the peer does.
use Rattle.std.specs.Prelude.{◌≡◌, ◌<◌, ◌+◌, ◌++◌, ℕ, List, [], ◌∷◌, length, map, replicate, codes, decimal}
use Rattle.wire_model.specs.LinkAnswers.{LinkAnswer}
use Rattle.wire_model.specs.LinkAnswers as link
use Rattle.relay_model.specs.Queue.{Tale}
use Rattle.scl_outside.specs.Meaning.{Meaning}
use Rattle.scl_outside.specs.Events.{WireEvent, Offered}
use Rattle.scl_outside.specs.WireAnswers.{parcel}
use Rattle.scl_outside.specs.Traces.{Trace}
use Rattle.polled_datagrams.specs.Offers.{on_wire}
use Rattle.send_job.specs.declared.offering.Fate.{Fate}
use Rattle.send_job.specs.declared.offering.Fate.TheVariants.{Sent, Lost, Failed}
use Rattle.send_job.specs.declared.counts.Counts.{Counts}

-- A datagram is offered to the peer once for each of these answers.
abbrev pub offered : List ℕ → List LinkAnswer → List WireEvent
offered d given = map (λ a. Offered (parcel 0 d) a) given

-- By these answers a datagram went out or failed after its link wasn't ready fewer times than `idle`, or it is lost
-- since its link wasn't ready `idle` times in a row.
abbrev pub IsFate : ℕ → Fate → List LinkAnswer → Type 0
IsFate idle Sent given = (n : ℕ) × (n < idle) × (given ≡ replicate n link.NotReady ++ link.Sent ∷ [])
IsFate idle Failed given = (n : ℕ) × (n < idle) × (given ≡ replicate n link.NotReady ++ link.Failed ∷ [])
IsFate idle Lost given = given ≡ replicate idle link.NotReady

-- A datagram was offered to the peer until this became of it.
pub record Offers (idle : ℕ) (d : List ℕ) (fate : Fate) (m n : Meaning) : Type 0 where
  pub given : List LinkAnswer
  pub by : IsFate idle fate given
  pub trace : Trace m (on_wire (offered d given)) n
  pub peers : n.wire.peers ≡ m.wire.peers

-- One more datagram came to this end.
abbrev pub with_fate : Counts → Fate → Counts
with_fate c Sent = record c { sent = c.sent + 1 }
with_fate c Lost = record c { lost = c.lost + 1 }
with_fate c Failed = record c { failed = c.failed + 1 }

-- The number of datagrams that were counted.
abbrev pub total : Counts → ℕ
total c = c.sent + c.lost + c.failed

-- Counts are those of a tale.
pub record AreCounts (c : Counts) (t : Tale) : Type 0 where
  pub sent : c.sent ≡ length t.sent
  pub lost : c.lost ≡ t.lost
  pub failed : c.failed ≡ t.failed

-- The line of a sender with these counts.
abbrev pub count_line : Counts → List ℕ
count_line c =
    codes "SEND datagrams=" ++ decimal (total c)
    ++ codes " sent=" ++ decimal c.sent
    ++ codes " lost=" ++ decimal c.lost
    ++ codes " failed=" ++ decimal c.failed
    ++ codes "\n"
