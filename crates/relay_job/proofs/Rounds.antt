-- What follows a turn.
use Rattle.std.proofs.Common.{◌≡◌, ◌≤◌, ◌<◌, ◌+◌, ◌++◌, ◌&&◌, inl, inr, ℕ, Bool, true, false, nat_le, List, [], ◌∷◌, Ok, length, if◌then◌else◌, refl, sym, ◌∙◌, ap, subst, arith}
use Rattle.std.proofs.lemmas.Bool.Decides.{nat_tests}
use Rattle.wire_model.specs.Receptions.{Reception, Arrived, NotReady, Closed, Failed}
use Rattle.wire_model.specs.LinkAnswers.{LinkAnswer}
use Rattle.wire_model.specs.LinkAnswers as link
use Rattle.relay_model.specs.Lines.{came, has_closed}
use Rattle.scl_outside.specs.Meaning.{Meaning, Reply}
use Rattle.scl_outside.specs.Events.{Event, WireEvent, OnWire, Received, wire_fails}
use Rattle.scl_outside.specs.Effects.{receptions, answers, wire_failed}
use Rattle.scl_outside.specs.Traces.{Trace}
use Rattle.polled_datagrams.specs.Offers.{on_wire}
use Rattle.thinning_relay.specs.Receivers.{any_moved}
use Rattle.thinning_relay.specs.Flushing.{links}
use Rattle.thinning_relay.specs.Relaying.{Turns, TurnsAll, CountsReceived, IsTurn, receivers_of}
use Rattle.thinning_relay.specs.declared.relay.Relay.{Relay}
use Rattle.thinning_relay.specs.declared.relay.Turn.{Turn}
use Rattle.thinning_relay.specs.declared.relay.Turn.TheVariants as turn
use Rattle.scl_run.specs.Performing.{Performs}
use Rattle.relay_job.specs.declared.serving.End.{End}
use Rattle.relay_job.specs.declared.serving.End.TheVariants as end
use Rattle.relay_job.specs.declared.serving.Round.{Round}
use Rattle.relay_job.specs.declared.serving.Round.TheVariants.{On, Over, Stop}
use Rattle.relay_job.specs.Settings.{Settings}
use Rattle.relay_job.specs.Turns.{all_not_ready, is_not_ready, is_idle, idle_run, turns_of}
use Rattle.relay_job.specs.Job.{are_offers, relay_job}
use Rattle.relay_job.specs.Serving.{Turned, IsOpen, IsRound, Follows, ServeGives}
use Rattle.relay_job.proofs.Calls.{offers_of, the_turn, turns_more, run_more}
use Rattle.relay_job.proofs.Turned.{turned_more, passed_more, closed_more, stop_failed, stop_wanting}

-- after a turn that ends neither the run nor the turns by what was received
pub record After (s : Settings) (q : Relay) (m o : Meaning) (es : List Event) (wire : List WireEvent) (idle : ℕ) : Type 0 where
  pub now : Turned s q m o es wire
  pub passed : wire_failed wire ≡ false
  pub not_closed : has_closed (receptions wire) ≡ false
  pub last : idle_run 0 (turns_of wire) ≡ idle

busy_links : (rs : List Reply) → all_not_ready rs ≡ (if any_moved (links rs) then false else true)
busy_links [] = refl
busy_links (r ∷ rs) = by r.answer (busy_links rs) where
  by : (a : LinkAnswer) → all_not_ready rs ≡ (if any_moved (links rs) then false else true) → all_not_ready (record { peer = r.peer; answer = a } ∷ rs) ≡ (if any_moved (a ∷ links rs) then false else true)
  by link.Sent e = refl
  by link.Failed e = refl
  by link.NotReady e = e

-- what was received in a turn with this answer
record Kind (got : Reception) (some : Bool) (idle : Bool) : Type 0 where
  fails : wire_fails (Received got) ≡ false
  opens : has_closed (got ∷ []) ≡ false
  idles : (is_not_ready got && (if some then false else true)) ≡ idle

moved_kind : (got : Reception) (some : Bool) → IsTurn got some turn.Moved → Kind got some false
moved_kind (Arrived d) some is = record { fails = refl; opens = refl; idles = refl }
moved_kind NotReady true is = record { fails = refl; opens = refl; idles = refl }
moved_kind NotReady false is = absurd (cc)
moved_kind Closed some is = absurd (cc)
moved_kind Failed some is = absurd (cc)

idle_kind : (got : Reception) (some : Bool) → IsTurn got some turn.Idle → Kind got some true
idle_kind (Arrived d) some is = absurd (cc)
idle_kind NotReady true is = absurd (cc)
idle_kind NotReady false is = record { fails = refl; opens = refl; idles = refl }
idle_kind Closed some is = absurd (cc)
idle_kind Failed some is = absurd (cc)

ended_kind : (got : Reception) (some : Bool) → IsTurn got some turn.Ended → got ≡ Closed
ended_kind (Arrived d) some is = absurd (cc)
ended_kind NotReady true is = absurd (cc)
ended_kind NotReady false is = absurd (cc)
ended_kind Closed some is = refl
ended_kind Failed some is = absurd (cc)

-- the idle turns by now
idles_now : (wire ws : List WireEvent) (got : Reception) (idle : ℕ) (b : Bool) → are_offers ws ≡ true → idle_run 0 (turns_of wire) ≡ idle → (is_not_ready got && (if any_moved (links (answers ws)) then false else true)) ≡ b
    → idle_run 0 (turns_of (wire ++ Received got ∷ ws)) ≡ (if b then idle + 1 else 0)
idles_now wire ws got idle b offers last is =
    let e : is_idle (the_turn got ws) ≡ b = ap (λ (x : Bool). is_not_ready got && x) (busy_links (answers ws)) ∙ is in
    ap (λ l. idle_run 0 l) (turns_more wire got ws offers) ∙ run_more 0 (turns_of wire) (the_turn got ws) ∙ rw (e, last) refl

-- one turn that went on
after_turn : (s : Settings) (r q : Relay) (m n o : Meaning) (es : List Event) (wire ws : List WireEvent) (idle : ℕ) (got : Reception) (answer : Turn) (b : Bool) → s.max ≤ 8388607 → Turned s r m n es wire → IsOpen s wire idle
    → TurnsAll got (receivers_of r) (receivers_of q) answer ws → CountsReceived r got q → Trace n (OnWire (Received got) ∷ on_wire ws) o → Kind got (any_moved (links (answers ws))) b
    → After s q m o (es ++ OnWire (Received got) ∷ on_wire ws) (wire ++ Received got ∷ ws) (if b then idle + 1 else 0)
after_turn s r q m n o es wire ws idle got answer b most h open_ all counts trace kind =
    let offers = offers_of 0 ws all.order in
    record {
      now = turned_more s r q m n o es wire ws idle got answer most h open_ all counts trace;
      passed = passed_more wire ws got open_.passed offers ∙ kind.fails;
      not_closed = closed_more wire ws got open_.not_closed offers ∙ kind.opens;
      last = idles_now wire ws got idle b offers open_.last kind.idles;
    }

at_most : (a b : ℕ) → a ≤ b → nat_le a b ≡ true
at_most a b h = grind (arith, nat_tests)

above : (a b : ℕ) → b < a → nat_le a b ≡ false
above a b h = grind (arith, nat_tests)

-- another turn
open_again : (s : Settings) (q : Relay) (m o : Meaning) (es : List Event) (wire : List WireEvent) (idle count : ℕ) → After s q m o es wire idle → IsRound s q.received idle (On count) → IsOpen s wire count
open_again s q m o es wire idle count h (few, busy, same) = record {
  passed = h.passed;
  not_closed = h.not_closed;
  few = (let e = h.now.received in omega (arith, e, few));
  last = h.last ∙ sym same;
  busy = omega (arith, busy, same);
}

-- the end of the turns
over_now : (s : Settings) (q : Relay) (m o : Meaning) (es : List Event) (wire : List WireEvent) (idle : ℕ) (e : End) → After s q m o es wire idle → IsRound s q.received idle (Over e) → ServeGives s (Ok e) q m o es wire
over_now s q m o es wire idle end.Closed h is = absurd is
over_now s q m o es wire idle end.Max h is =
    let all : s.max ≤ length (came (receptions wire)) = (let e = h.now.received in omega (arith, e, is)) in
    (h.now, h.passed, inr (inl all), rw (h.not_closed, at_most s.max (length (came (receptions wire))) all) refl)
over_now s q m o es wire idle end.Idle h (few, is) =
    let less : length (came (receptions wire)) < s.max = (let e = h.now.received in omega (arith, e, few)) in
    let long : s.idle ≤ idle_run 0 (turns_of wire) = (let e = h.last in omega (arith, e, is)) in
    (h.now, h.passed, inr (inr long), rw (h.not_closed, above s.max (length (came (receptions wire))) less) refl)

-- what follows, by the answer of the turn
abbrev pub Goes : Settings → Round → Relay → Meaning → Meaning → Type 0
Goes s (On count) q m o = (fs : List Event) × (ws : List WireEvent) × Turned s q m o fs ws × IsOpen s ws count
Goes s (Over e) q m o = (fs : List Event) × (ws : List WireEvent) × ServeGives s (Ok e) q m o fs ws
Goes s (Stop ending) q m o = (fs : List Event) × Performs (relay_job s) m o ending fs

goes_after : (s : Settings) (q : Relay) (m o : Meaning) (es : List Event) (wire : List WireEvent) (idle : ℕ) (round : Round) → After s q m o es wire idle → IsRound s q.received idle round → Goes s round q m o
goes_after s q m o es wire idle (On count) h is = (es, wire, h.now, open_again s q m o es wire idle count h is)
goes_after s q m o es wire idle (Over e) h is = (es, wire, over_now s q m o es wire idle e h is)
goes_after s q m o es wire idle (Stop ending) h is = absurd is

goes_ended : (s : Settings) (r q : Relay) (m n o : Meaning) (es : List Event) (wire ws : List WireEvent) (idle : ℕ) (got : Reception) → got ≡ Closed → s.max ≤ 8388607 → Turned s r m n es wire → IsOpen s wire idle
    → TurnsAll got (receivers_of r) (receivers_of q) turn.Ended ws → CountsReceived r got q → Trace n (OnWire (Received got) ∷ on_wire ws) o → Goes s (Over end.Closed) q m o
goes_ended s r q m n o es wire ws idle Closed is most h open_ all counts trace =
    let offers = offers_of 0 ws all.order in
    let shut = closed_more wire ws Closed open_.not_closed offers in (
      es ++ OnWire (Received Closed) ∷ on_wire ws,
      wire ++ Received Closed ∷ ws,
      (turned_more s r q m n o es wire ws idle Closed turn.Ended most h open_ all counts trace, passed_more wire ws Closed open_.passed offers, inl shut, rw shut refl),
    )
goes_ended s r q m n o es wire ws idle (Arrived d) is most h open_ all counts trace = absurd (cc)
goes_ended s r q m n o es wire ws idle NotReady is most h open_ all counts trace = absurd (cc)
goes_ended s r q m n o es wire ws idle Failed is most h open_ all counts trace = absurd (cc)

pub goes : (s : Settings) (r q : Relay) (m n o : Meaning) (es : List Event) (wire : List WireEvent) (idle : ℕ) (round : Round) (answer : Turn) → s.max ≤ 8388607 → Turned s r m n es wire → IsOpen s wire idle
    → Turns r answer q n o → Follows s answer q.received idle round → Goes s round q m o
goes s r q m n o es wire idle round turn.NoMemory most h open_ turns is =
    let P : Round → Type 0 = λ x. Goes s x q m o in subst P (sym is) (stop_wanting s r q m n o es wire idle h open_ turns)
goes s r q m n o es wire idle round turn.Failed most h open_ turns is =
    let P : Round → Type 0 = λ x. Goes s x q m o in subst P (sym is) (stop_failed s r q m n o es wire idle most h open_ turns)
goes s r q m n o es wire idle round turn.Ended most h open_ turns is =
    let P : Round → Type 0 = λ x. Goes s x q m o in
    let closed = ended_kind turns.got _ turns.does.answers in
    subst P (sym is) (goes_ended s r q m n o es wire turns.wire idle turns.got closed most h open_ turns.does turns.counts turns.trace)
goes s r q m n o es wire idle round turn.Moved most h open_ turns is =
    goes_after s q m o _ _ 0 round (after_turn s r q m n o es wire turns.wire idle turns.got turn.Moved false most h open_ turns.does turns.counts turns.trace (moved_kind turns.got _ turns.does.answers)) is
goes s r q m n o es wire idle round turn.Idle most h open_ turns is =
    goes_after s q m o _ _ (idle + 1) round (after_turn s r q m n o es wire turns.wire idle turns.got turn.Idle true most h open_ turns.does turns.counts turns.trace (idle_kind turns.got _ turns.does.answers)) is
