-- All receivers in a turn, and what follows it.
use Rattle.std.proofs.Common.{◌≡◌, ◌≤◌, ◌+◌, ◌++◌, ◌||◌, ℕ, zero, suc, Bool, true, false, List, [], ◌∷◌, Some, length, if◌then◌else◌, refl, sym, ◌∙◌, ap, subst, arith, append_assoc}
use Rattle.std.specs.Prelude.{slice_get}
use Rattle.std.specs.List.{flat_map}
use Rattle.std.proofs.lemmas.List.{append-nil}
use Rattle.std.proofs.lemmas.List.Concat.{flat_map-append}
use Rattle.wire_model.specs.Receptions.{Reception, Arrived, NotReady, Closed, Failed}
use Rattle.wire_model.specs.LinkAnswers.{LinkAnswer}
use Rattle.wire_model.specs.Datagram.{is_well_formed}
use Rattle.relay_model.specs.Queue.{Tale}
use Rattle.relay_model.specs.Relays.{relay_tale}
use Rattle.relay_model.specs.Lines.{came, has_closed, malformed_count}
use Rattle.relay_model.proofs.Tales.{flushes_told}
use Rattle.scl_outside.specs.Meaning.{Meaning, Parcel}
use Rattle.scl_outside.specs.Events.{Event, WireEvent, OnWire, Received, Offered, Bound, Joined, wire_fails}
use Rattle.scl_outside.specs.Effects.{Effects, nothing, effects, receptions, answers, parcels, wire_failed}
use Rattle.scl_outside.specs.Traces.{Trace, AtReads}
use Rattle.scl_outside.proofs.Traces.{trace_join, effects_then, at_reads_join}
use Rattle.polled_datagrams.specs.Offers.{on_wire, answers_to, sent_to}
use Rattle.thinning_relay.proofs.Flushing.{sent_to-append}
use Rattle.thinning_relay.specs.Receivers.{any_moved, count_after}
use Rattle.thinning_relay.specs.Flushing.{links}
use Rattle.thinning_relay.specs.Relaying.{Turns, TurnsAll, CountsReceived, IsTurn, receivers_of, arrived_count, refused_count}
use Rattle.thinning_relay.specs.declared.receiver.Receiver.{Receiver}
use Rattle.thinning_relay.specs.declared.relay.Relay.{Relay}
use Rattle.thinning_relay.specs.declared.relay.Turn.TheVariants as turn
use Rattle.scl_run.specs.declared.ending.Ending.TheVariants.{WireFault, NoMemory}
use Rattle.scl_run.specs.Job.{seen}
use Rattle.scl_run.specs.Performing.{IsSoFar, Performs}
use Rattle.scl_run.proofs.Performed.{performs}
use Rattle.relay_job.specs.Settings.{Target, Settings, addresses}
use Rattle.relay_job.specs.Turns.{has_failed, EachIsPolled}
use Rattle.relay_job.specs.Job.{tale_of, naming, SendsEach, KeepsToWords, are_offers, named_by, relay_job}
use Rattle.relay_job.specs.Serving.{Tracks, Turned, IsOpen}
use Rattle.relay_job.proofs.Calls.{on, effects_on, offers_of, are, failed-append, names_of, names-append, offers_follow, receptions_more, parcels_more, came-append, closed-append, malformed-append}
use Rattle.relay_job.proofs.Tracked.{came_more, counted, tracked, tale_after}

-- an item of a list that is as long
pub found : {A B : Type 0} (xs : List A) (ys : List B) (j : ℕ) (y : B) → length xs ≡ length ys → slice_get ys j ≡ Some y → (x : A) × (slice_get xs j ≡ Some x)
found [] [] j y e h = absurd (cc)
found [] (z ∷ ys) j y e h = absurd (omega arith)
found (x ∷ xs) [] j y e h = absurd (omega arith)
found (x ∷ xs) (z ∷ ys) zero y e h = (x, refl)
found (x ∷ xs) (z ∷ ys) (suc j) y e h = found xs ys j y (omega arith) h

-- the tale of turns alone
pub tale_is : (j : ℕ) (p : Target) (wire : List WireEvent) (r : Receiver) (t : Tale) → Tracks j p wire r t → tale_of j p (seen [] wire) ≡ t
tale_is j p wire r t h =
    sym (ap (λ (l : List LinkAnswer). relay_tale p.limit p.depth (receptions wire) l) (append-nil (answers_to j (answers wire))))
    ∙ flushes_told.whole p.limit p.depth (receptions wire) (answers_to j (answers wire)) [] t t h.told (flushes_told.none t)

pub sends_each : (s : Settings) (r : Relay) (m n : Meaning) (es : List Event) (wire : List WireEvent) → Turned s r m n es wire → SendsEach s (seen [] wire) (parcels wire)
sends_each s r m n es wire h = record {
  each = λ j p at.
      let a = found (receivers_of r) s.targets j p h.count at in
      let t = h.each j p a.0 at a.1 in
      t.1.sent ∙ sym (ap (λ (x : Tale). x.sent) (tale_is j p wire a.0 t.0 t.1));
  others = h.others;
}

pub each_polled : (s : Settings) (r : Relay) (m n : Meaning) (es : List Event) (wire : List WireEvent) → Turned s r m n es wire → EachIsPolled s wire
each_polled s r m n es wire h j p at =
    let a = found (receivers_of r) s.targets j p h.count at in
    let t = h.each j p a.0 at a.1 in
    (t.0, t.1.polled)

-- before a call for a datagram
so_far_now : (s : Settings) (r : Relay) (m n : Meaning) (es : List Event) (wire : List WireEvent) (idle : ℕ) → Turned s r m n es wire → IsOpen s wire idle → IsSoFar (relay_job s) (on wire)
so_far_now s r m n es wire idle h open_ = record {
  made = refl;
  sent = sends_each s r m n es wire h;
  goes_on = refl;
  asks = record {
    named = h.named;
    few = open_.few;
    not_closed = open_.not_closed;
    busy = (let e = open_.last in let b = open_.busy in omega (arith, e, b));
    polled = each_polled s r m n es wire h;
  };
}

-- the calls of a turn after those before it
turn_reads : (s : Settings) (r : Relay) (m n : Meaning) (es : List Event) (wire ws : List WireEvent) (idle : ℕ) (got : Reception) → Turned s r m n es wire → IsOpen s wire idle → are_offers ws ≡ true
    → AtReads (IsSoFar (relay_job s)) nothing (es ++ OnWire (Received got) ∷ on_wire ws)
turn_reads s r m n es wire ws idle got h open_ offers =
    let P : Effects → Type 0 = λ f. AtReads (IsSoFar (relay_job s)) f (OnWire (Received got) ∷ on_wire ws) in
    let named = names_of wire open_.passed in
    let quiet = names-append wire (Received got ∷ []) ∙ rw named refl in
    let later : P (on wire) = (
      so_far_now s r m n es wire idle h open_,
      record { reads = refl; writes = refl; on_wire = open_.passed },
      offers_follow (IsSoFar (relay_job s)) (wire ++ Received got ∷ []) ws quiet offers,
    ) in
    at_reads_join (IsSoFar (relay_job s)) nothing es (OnWire (Received got) ∷ on_wire ws) h.so_far (subst P (sym h.done) later)

turn_does : (es : List Event) (wire ws : List WireEvent) (got : Reception) → effects es ≡ on wire → effects (es ++ OnWire (Received got) ∷ on_wire ws) ≡ on (wire ++ Received got ∷ ws)
turn_does es wire ws got e = effects_then es (OnWire (Received got) ∷ on_wire ws) (on wire) (on (Received got ∷ ws)) e (effects_on (Received got ∷ ws))

pub same_names : (wire ws : List WireEvent) (got : Reception) → are_offers ws ≡ true → flat_map named_by (wire ++ Received got ∷ ws) ≡ flat_map named_by wire
same_names wire ws got offers = flat_map-append named_by wire (Received got ∷ ws) ∙ ap (λ (l : List (List ℕ)). flat_map named_by wire ++ l) (are ws offers).names ∙ append-nil (flat_map named_by wire)

malformed_one : (got : Reception) → malformed_count (came (got ∷ [])) ≡ refused_count got
malformed_one (Arrived d) = by (is_well_formed d) where
  by : (b : Bool) → (if b then 0 else 1) + 0 ≡ (if b then 0 else 1)
  by true = refl
  by false = refl
malformed_one NotReady = refl
malformed_one Closed = refl
malformed_one Failed = refl

malformed_more : (wire ws : List WireEvent) (got : Reception) → are_offers ws ≡ true → malformed_count (came (receptions (wire ++ Received got ∷ ws))) ≡ malformed_count (came (receptions wire)) + refused_count got
malformed_more wire ws got offers =
    ap (λ (l : List Reception). malformed_count (came l)) (receptions_more wire got ws offers)
    ∙ ap malformed_count (came-append (receptions wire) (got ∷ []))
    ∙ malformed-append (came (receptions wire)) (came (got ∷ []))
    ∙ ap (λ (n : ℕ). malformed_count (came (receptions wire)) + n) (malformed_one got)

malformed_few : (ds : List (List ℕ)) → malformed_count ds ≤ length ds
malformed_few [] = omega arith
malformed_few (d ∷ ds) = by (is_well_formed d) (malformed_few ds) where
  by : (b : Bool) → malformed_count ds ≤ length ds → (if b then 0 else 1) + malformed_count ds ≤ length (d ∷ ds)
  by true h = omega (arith, h)
  by false h = omega (arith, h)

one_at_most : (got : Reception) → arrived_count got ≤ 1
one_at_most (Arrived d) = omega arith
one_at_most NotReady = omega arith
one_at_most Closed = omega arith
one_at_most Failed = omega arith

one_refused : (got : Reception) → refused_count got ≤ 1
one_refused (Arrived d) = by (is_well_formed d) where
  by : (b : Bool) → (if b then 0 else 1) ≤ 1
  by true = omega arith
  by false = omega arith
one_refused NotReady = omega arith
one_refused Closed = omega arith
one_refused Failed = omega arith

pub turned_more : (s : Settings) (r q : Relay) (m n o : Meaning) (es : List Event) (wire ws : List WireEvent) (idle : ℕ) (got : Reception) (answer : _) → s.max ≤ 8388607 → Turned s r m n es wire → IsOpen s wire idle
    → TurnsAll got (receivers_of r) (receivers_of q) answer ws → CountsReceived r got q → Trace n (OnWire (Received got) ∷ on_wire ws) o
    → Turned s q m o (es ++ OnWire (Received got) ∷ on_wire ws) (wire ++ Received got ∷ ws)
turned_more s r q m n o es wire ws idle got answer most h open_ all counts trace =
    let offers : are_offers ws ≡ true = offers_of 0 ws all.order in
    let more : length (came (receptions (wire ++ Received got ∷ ws))) ≡ length (came (receptions wire)) + arrived_count got = came_more wire ws got offers in
    let bad : malformed_count (came (receptions (wire ++ Received got ∷ ws))) ≡ malformed_count (came (receptions wire)) + refused_count got = malformed_more wire ws got offers in
    let one : arrived_count got ≤ 1 = one_at_most got in
    let one_bad : refused_count got ≤ 1 = one_refused got in
    let few_bad = malformed_few (came (receptions wire)) in
    let before = open_.few in
    let within : length (came (receptions (wire ++ Received got ∷ ws))) ≤ 8388607 = omega (arith, more, one, before, most) in
    record {
      trace = trace_join m n o es (OnWire (Received got) ∷ on_wire ws) h.trace trace;
      so_far = turn_reads s r m n es wire ws idle got h open_ offers;
      done = turn_does es wire ws got h.done;
      named = (h.named.0 ++ Received got ∷ ws, ap (λ (l : List WireEvent). l ++ Received got ∷ ws) h.named.1 ∙ append_assoc (naming s) h.named.0 (Received got ∷ ws));
      names = same_names wire ws got offers ∙ h.names;
      count = all.count ∙ h.count;
      received = counts.received ∙ ap (λ (k : ℕ). count_after k (arrived_count got)) h.received ∙ counted (length (came (receptions wire))) (arrived_count got) (omega (arith, one, before, most)) ∙ sym more;
      refused = counts.refused ∙ ap (λ (k : ℕ). count_after k (refused_count got)) h.refused ∙ counted (malformed_count (came (receptions wire))) (refused_count got) (omega (arith, one_bad, few_bad, before, most)) ∙ sym bad;
      few = within;
      each = λ j p c at now.
          let a = found (receivers_of r) s.targets j p h.count at in
          let t = h.each j p a.0 at a.1 in
          (tale_after t.0 got a.0 c (answers_to j (answers ws)) (sent_to j (parcels ws)), tracked j p wire ws got a.0 c t.0 offers t.1 (all.each j a.0 c a.1 now) within);
      others = λ j above.
          ap (λ (l : List Parcel). sent_to j l) (parcels_more wire got ws) ∙ sent_to-append j (parcels wire) (parcels ws)
          ∙ ap (λ (l : List (List ℕ)). l ++ sent_to j (parcels ws)) (h.others j above)
          ∙ (all.others j (let e = h.count in omega (arith, above, e))).1;
    }

-- a call for a datagram that failed is one of the wire that did
failed_received : (wire : List WireEvent) → wire_failed wire ≡ false → has_failed (receptions wire) ≡ false
failed_received [] e = refl
failed_received (Received (Arrived d) ∷ wire) e = failed_received wire e
failed_received (Received NotReady ∷ wire) e = failed_received wire e
failed_received (Received Closed ∷ wire) e = failed_received wire e
failed_received (Received Failed ∷ wire) e = absurd (cc)
failed_received (Offered p a ∷ wire) e = failed_received wire e
failed_received (Bound text true ∷ wire) e = failed_received wire e
failed_received (Bound text false ∷ wire) e = absurd (cc)
failed_received (Joined text true ∷ wire) e = failed_received wire e
failed_received (Joined text false ∷ wire) e = absurd (cc)

pub keeps_words : (s : Settings) (wire : List WireEvent) → wire_failed wire ≡ false → flat_map named_by wire ≡ s.local ∷ addresses s.targets → KeepsToWords s wire
keeps_words s wire passed names = record {
  names = ([], sym names ∙ sym (append-nil (flat_map named_by wire)));
  polled = λ e. absurd (let f = failed_received wire passed in let g : true ≡ false = sym e ∙ f in cc);
}

pub passed_more : (wire ws : List WireEvent) (got : Reception) → wire_failed wire ≡ false → are_offers ws ≡ true → wire_failed (wire ++ Received got ∷ ws) ≡ wire_fails (Received got)
passed_more wire ws got passed offers = failed-append wire (Received got ∷ ws) ∙ rw (passed, (are ws offers).passed) (or-false (wire_fails (Received got))) where
  or-false : (b : Bool) → (b || false) ≡ b
  or-false true = refl
  or-false false = refl

pub closed_more : (wire ws : List WireEvent) (got : Reception) → has_closed (receptions wire) ≡ false → are_offers ws ≡ true → has_closed (receptions (wire ++ Received got ∷ ws)) ≡ has_closed (got ∷ [])
closed_more wire ws got open_ offers = ap has_closed (receptions_more wire got ws offers) ∙ closed-append (receptions wire) (got ∷ []) ∙ rw open_ refl

-- a turn in which a call for a datagram failed ends the run
pub stop_failed : (s : Settings) (r q : Relay) (m n o : Meaning) (es : List Event) (wire : List WireEvent) (idle : ℕ) → s.max ≤ 8388607 → Turned s r m n es wire → IsOpen s wire idle → Turns r turn.Failed q n o
    → (fs : List Event) × Performs (relay_job s) m o WireFault fs
stop_failed s r q m n o es wire idle most h open_ turns = by turns.got turns.does.answers turns.does turns.counts turns.trace where
  by : (got : Reception) → IsTurn got (any_moved (links (answers turns.wire))) turn.Failed → TurnsAll got (receivers_of r) (receivers_of q) turn.Failed turns.wire → CountsReceived r got q → Trace n (OnWire (Received got) ∷ on_wire turns.wire) o
      → (fs : List Event) × Performs (relay_job s) m o WireFault fs
  by (Arrived d) is all counts trace = absurd (cc)
  by NotReady is all counts trace = absurd (not_failed (any_moved (links (answers turns.wire))) is) where
    not_failed : (b : Bool) → turn.Failed ≡ (if b then turn.Moved else turn.Idle) → ⊥
    not_failed true e = absurd (cc)
    not_failed false e = absurd (cc)
  by Closed is all counts trace = absurd (cc)
  by Failed is all counts trace =
      let now = turned_more s r q m n o es wire turns.wire idle Failed turn.Failed most h open_ all counts trace in
      let offers = offers_of 0 turns.wire all.order in (
        es ++ OnWire (Received Failed) ∷ on_wire turns.wire,
        performs (relay_job s) m o WireFault _ (on (wire ++ Received Failed ∷ turns.wire)) now.trace now.so_far now.done refl (record {
          output = refl;
          sent = sends_each s q m o _ _ now;
          cause = tt;
          fails = record { read_failed = refl; write_failed = refl; on_wire = passed_more wire turns.wire Failed open_.passed offers };
          fits = refl;
          wires = record { names = ([], sym now.names ∙ sym (append-nil _)); polled = λ e. each_polled s q m o _ _ now };
        }),
      )

-- a turn without memory ends the run too
pub stop_wanting : (s : Settings) (r q : Relay) (m n o : Meaning) (es : List Event) (wire : List WireEvent) (idle : ℕ) → Turned s r m n es wire → IsOpen s wire idle → Turns r turn.NoMemory q n o
    → (fs : List Event) × Performs (relay_job s) m o NoMemory fs
stop_wanting s r q m n o es wire idle h open_ turns =
    let (d, is, kept) = turns.does.came in
    let P : List WireEvent → Type 0 = λ ws. Trace n (OnWire (Received turns.got) ∷ on_wire ws) o in
    let Q : Reception → Type 0 = λ got. Trace n (OnWire (Received got) ∷ []) o in
    let trace : Trace n (OnWire (Received (Arrived d)) ∷ []) o = subst Q is (subst P turns.does.nothing turns.trace) in
    let passed : wire_failed (wire ++ Received (Arrived d) ∷ []) ≡ false = passed_more wire [] (Arrived d) open_.passed refl in (
      es ++ OnWire (Received (Arrived d)) ∷ [],
      performs (relay_job s) m o NoMemory _ (on (wire ++ Received (Arrived d) ∷ [])) (trace_join m n o es (OnWire (Received (Arrived d)) ∷ []) h.trace trace) (turn_reads s r m n es wire [] idle (Arrived d) h open_ refl) (turn_does es wire [] (Arrived d) h.done) refl (record {
        output = refl;
        sent = tt;
        cause = tt;
        fails = record { read_failed = refl; write_failed = refl; on_wire = passed };
        fits = refl;
        wires = keeps_words s (wire ++ Received (Arrived d) ∷ []) passed (same_names wire [] (Arrived d) refl ∙ h.names);
      }),
    )
