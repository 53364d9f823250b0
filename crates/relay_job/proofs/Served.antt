-- Turns, one after another.
use Rattle.std.proofs.Common.{◌≡◌, ◌≤◌, ◌<◌, ℕ, List, Result, Ok, Err, length, refl, sym, ◌∙◌, subst, arith}
use Rattle.scl_outside.specs.Meaning.{Meaning}
use Rattle.scl_outside.specs.Events.{Event, WireEvent}
use Rattle.thinning_relay.specs.Relaying.{Turns, receivers_of}
use Rattle.thinning_relay.specs.declared.relay.Relay.{Relay}
use Rattle.thinning_relay.specs.declared.relay.Turn.{Turn}
use Rattle.thinning_relay.specs.declared.relay.Turn.TheVariants as turn
use Rattle.scl_run.specs.declared.ending.Ending.{Ending}
use Rattle.relay_job.specs.declared.serving.End.{End}
use Rattle.relay_job.specs.declared.serving.Round.{Round}
use Rattle.relay_job.specs.declared.serving.Round.TheVariants.{On, Over, Stop}
use Rattle.relay_job.specs.Settings.{Settings}
use Rattle.relay_job.specs.Serving.{Turned, IsOpen, Rounds, Follows, Serves, ServeGives}
use Rattle.relay_job.proofs.Rounds.{goes}

-- turns were taken, whatever was done before them, and another may be
pub record Going (s : Settings) (r0 r : Relay) (m n : Meaning) (idle : ℕ) : Type 0 where
  pub peers : length (receivers_of r) ≤ n.wire.peers
  pub count : length (receivers_of r) ≡ length (receivers_of r0)
  pub same : n.wire.peers ≡ m.wire.peers
  pub few : r.received < s.max
  pub busy : idle < s.idle
  pub so : (first : Meaning) (es : List Event) (wire : List WireEvent) → Turned s r0 first m es wire → IsOpen s wire 0
      → (fs : List Event) × (ws : List WireEvent) × Turned s r first n fs ws × IsOpen s ws idle

pub going_none : (s : Settings) (r : Relay) (m : Meaning) → length (receivers_of r) ≤ m.wire.peers → r.received < s.max → 1 ≤ s.idle → Going s r r m m 0
going_none s r m peers few idles = record { peers = peers; count = refl; same = refl; few = few; busy = omega arith; so = λ first es wire h open_. (es, wire, h, open_) }

-- what another turn keeps
record Kept (s : Settings) (r q : Relay) (n o : Meaning) (count : ℕ) : Type 0 where
  size : length (receivers_of q) ≡ length (receivers_of r)
  peers : o.wire.peers ≡ n.wire.peers
  few : q.received < s.max
  busy : count < s.idle

kept : (s : Settings) (r q : Relay) (n o : Meaning) (idle count : ℕ) (answer : Turn) → Turns r answer q n o → Follows s answer q.received idle (On count) → Kept s r q n o count
kept s r q n o idle count turn.NoMemory turns is = absurd (cc)
kept s r q n o idle count turn.Failed turns is = absurd (cc)
kept s r q n o idle count turn.Ended turns is = absurd (cc)
kept s r q n o idle count turn.Moved turns (few, busy, same) = record { size = turns.does.count; peers = turns.peers; few = few; busy = omega (arith, busy, same) }
kept s r q n o idle count turn.Idle turns (few, busy, same) = record { size = turns.does.count; peers = turns.peers; few = few; busy = omega (arith, busy, same) }

pub going_more : (s : Settings) (r0 r q : Relay) (m n o : Meaning) (idle count : ℕ) → s.max ≤ 8388607 → Going s r0 r m n idle → Rounds s r idle (On count) q n o → Going s r0 q m o count
going_more s r0 r q m n o idle count most h round =
    let k = kept s r q n o idle count round.answer round.turns round.follows in
    record {
      peers = (let e = k.size in let f = k.peers in let g = h.peers in omega (arith, e, f, g));
      count = k.size ∙ h.count;
      same = k.peers ∙ h.same;
      few = k.few;
      busy = k.busy;
      so = λ first es wire turned open_.
          let now = h.so first es wire turned open_ in
          goes s r q first n o now.0 now.1 idle (On count) round.answer most now.2 now.3 round.turns round.follows;
    }

pub served_over : (s : Settings) (r0 r q : Relay) (m n o : Meaning) (idle : ℕ) (e : End) (result : Result End Ending) → s.max ≤ 8388607 → result ≡ Ok e → Going s r0 r m n idle → Rounds s r idle (Over e) q n o → Serves s r0 result q m o
served_over s r0 r q m n o idle e result most is h round first es wire turned open_ =
    let now = h.so first es wire turned open_ in
    let g = goes s r q first n o now.0 now.1 idle (Over e) round.answer most now.2 now.3 round.turns round.follows in
    let P : Result End Ending → Type 0 = λ x. (fs : List Event) × (ws : List WireEvent) × ServeGives s x q first o fs ws in
    subst P (sym is) g

pub served_stopped : (s : Settings) (r0 r q : Relay) (m n o : Meaning) (idle : ℕ) (ending : Ending) (result : Result End Ending) → s.max ≤ 8388607 → result ≡ Err ending → Going s r0 r m n idle → Rounds s r idle (Stop ending) q n o → Serves s r0 result q m o
served_stopped s r0 r q m n o idle ending result most is h round first es wire turned open_ =
    let now = h.so first es wire turned open_ in
    let g = goes s r q first n o now.0 now.1 idle (Stop ending) round.answer most now.2 now.3 round.turns round.follows in
    let P : Result End Ending → Type 0 = λ x. (fs : List Event) × (ws : List WireEvent) × ServeGives s x q first o fs ws in
    subst P (sym is) (g.0, wire, g.1)

-- any turn keeps the number of receivers and that of peers
kept_by : (r q : Relay) (n o : Meaning) (answer : Turn) → Turns r answer q n o → (length (receivers_of q) ≡ length (receivers_of r)) × (o.wire.peers ≡ n.wire.peers)
kept_by r q n o turn.NoMemory turns = (turns.does.same.count, turns.peers)
kept_by r q n o turn.Failed turns = (turns.does.count, turns.peers)
kept_by r q n o turn.Ended turns = (turns.does.count, turns.peers)
kept_by r q n o turn.Moved turns = (turns.does.count, turns.peers)
kept_by r q n o turn.Idle turns = (turns.does.count, turns.peers)

pub all_kept : (s : Settings) (r0 r q : Relay) (m n o : Meaning) (idle : ℕ) (round : Round) → Going s r0 r m n idle → Rounds s r idle round q n o → (length (receivers_of q) ≡ length (receivers_of r0)) × (o.wire.peers ≡ m.wire.peers)
all_kept s r0 r q m n o idle round h rounds = let k = kept_by r q n o rounds.answer rounds.turns in (k.0 ∙ h.count, k.1 ∙ h.same)
