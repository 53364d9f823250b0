-- How a relay begins, and how it finishes.
use Rattle.std.proofs.Common.{◌≡◌, ◌+◌, ◌++◌, inl, inr, ℕ, zero, suc, true, false, List, [], ◌∷◌, Some, length, map, refl, sym, ◌∙◌, ap, subst, arith}
use Rattle.std.specs.Prelude.{slice_get}
use Rattle.std.specs.List.{flat_map}
use Rattle.std.proofs.lemmas.List.{append-nil}
use Rattle.std.proofs.lemmas.List.Concat.{flat_map-append}
use Rattle.wire_model.specs.Receptions.{Reception}
use Rattle.wire_model.specs.LinkAnswers.{LinkAnswer}
use Rattle.relay_model.specs.Queue.{Tale, Told, untold}
use Rattle.relay_model.specs.Relays.{given_by, relay_tale, left_over, HasTurned}
use Rattle.relay_model.specs.Lines.{came, has_closed, malformed_count, end_word, relay_line, peer_line, peer_lines}
use Rattle.relay_model.proofs.Tales.{turns_told, flushes_told}
use Rattle.scl_outside.specs.Meaning.{Meaning, Parcel, Reply}
use Rattle.scl_outside.specs.Events.{Event, WireEvent, Bound, Joined, Wrote, WriteFailed, receptions_by, answers_by}
use Rattle.scl_outside.specs.Steps.{Step}
use Rattle.scl_outside.specs.Effects.{Effects, nothing, effects, receptions, answers, parcels, wire_failed}
use Rattle.scl_outside.specs.Traces.{Trace, AtReads}
use Rattle.scl_outside.proofs.Traces.{trace_join, trace_one, effects_more, at_reads_join}
use Rattle.polled_datagrams.specs.Offers.{on_wire, answers_to, sent_to}
use Rattle.thinning_relay.proofs.Flushing.{answers_to-append}
use Rattle.thinning_relay.specs.Relaying.{IsNewRelay, IsNewReceiver, receivers_of}
use Rattle.thinning_relay.specs.declared.receiver.Receiver.{Receiver}
use Rattle.thinning_relay.specs.declared.relay.Relay.{Relay}
use Rattle.scl_run.specs.declared.ending.Ending.TheVariants.{Done, WriteFault}
use Rattle.scl_run.specs.Job.{seen}
use Rattle.scl_run.specs.Performing.{IsSoFar, IsFinished, Performs}
use Rattle.scl_run.proofs.Performed.{performs}
use Rattle.relay_job.specs.declared.serving.End.{End}
use Rattle.relay_job.specs.Settings.{Target, Settings, AreSettings, addresses}
use Rattle.relay_job.specs.Held.{peers_of}
use Rattle.relay_job.specs.Turns.{TurnTaken, turns_of, idle_run, ArePolled}
use Rattle.relay_job.specs.Job.{tale_of, tales_from, written_by, SendsEach, naming, HasEnded, HasDrained, IsClosed, KeepsToWords, are_offers, named_by, relay_job}
use Rattle.relay_job.specs.Serving.{IsCounted, Tracks, Turned, IsOpen, word_of}
use Rattle.relay_job.specs.Draining.{HasWaited, FlushedTo, Drains}
use Rattle.relay_job.specs.Lines.{end_line, count_line, count_lines}
use Rattle.relay_job.proofs.Calls.{on, effects_on, are, failed-append}
use Rattle.relay_job.proofs.Turned.{found, each_polled, keeps_words}
use Rattle.relay_job.proofs.Named.{joining}

-- what naming addresses shows
record Joining (targets : List Target) : Type 0 where
  receptions : receptions (joining targets) ≡ []
  answers : answers (joining targets) ≡ []
  parcels : parcels (joining targets) ≡ []
  turns : turns_of (joining targets) ≡ []
  names : flat_map named_by (joining targets) ≡ addresses targets
  passed : wire_failed (joining targets) ≡ false

joins : (targets : List Target) → Joining targets
joins [] = record { receptions = refl; answers = refl; parcels = refl; turns = refl; names = refl; passed = refl }
joins (r ∷ targets) = let h = joins targets in record {
  receptions = h.receptions;
  answers = h.answers;
  parcels = h.parcels;
  turns = h.turns;
  names = ap (λ (l : List (List ℕ)). r.address ∷ l) h.names;
  passed = h.passed;
}

joins_read : (P : Effects → Type 0) (wire : List WireEvent) (targets : List Target) → wire_failed wire ≡ false → AtReads P (on wire) (on_wire (joining targets))
joins_read P wire [] passed = tt
joins_read P wire (r ∷ targets) passed = (
  tt,
  record { reads = refl; writes = refl; on_wire = passed },
  joins_read P (wire ++ Joined r.address true ∷ []) targets (failed-append wire (Joined r.address true ∷ []) ∙ rw passed refl),
)

peer_at : (targets : List Target) (j : ℕ) (p : Target) → slice_get targets j ≡ Some p → slice_get (peers_of targets) j ≡ Some (record { limit = p.limit; depth = p.depth })
peer_at [] j p h = absurd (cc)
peer_at (r ∷ targets) zero p h = let e : r ≡ p = cc in ap (λ (x : Target). Some (record { limit = x.limit; depth = x.depth })) e
peer_at (r ∷ targets) (suc j) p h = peer_at targets j p h

peers_count : (targets : List Target) → length (peers_of targets) ≡ length targets
peers_count [] = refl
peers_count (r ∷ targets) = let h = peers_count targets in omega (arith, h)

-- a new receiver has no tale yet
track_none : (j : ℕ) (p : Target) (wire : List WireEvent) (a : Receiver) → receptions wire ≡ [] → answers wire ≡ [] → parcels wire ≡ [] → turns_of wire ≡ [] → IsNewReceiver (record { limit = p.limit; depth = p.depth }) a → Tracks j p wire a untold
track_none j p wire a e f g h new =
    let T : List Reception → Type 0 = λ l. HasTurned p.limit p.depth (map given_by l) (answers_to j (answers wire)) untold in
    let A : List Reply → Type 0 = λ l. HasTurned p.limit p.depth [] (answers_to j l) untold in
    let L : List TurnTaken → Type 0 = λ l. ArePolled j p untold l untold in
    record {
      limit = new.limit;
      depth = new.depth;
      told = subst T (sym e) (subst A (sym f) (turns_told.none p.limit p.depth));
      polled = subst L (sym h) refl;
      sent = ap (λ (l : List Parcel). sent_to j l) g;
      counted = record { sent = new.sent; lost = new.lost; failed = new.failed; left = new.empty };
      few = omega arith;
    }

-- a new relay whose addresses are named
pub begins : (s : Settings) (r : Relay) (m n : Meaning) → AreSettings s → IsNewRelay (peers_of s.targets) r → Trace m (on_wire (naming s)) n → Turned s r m n (on_wire (naming s)) (naming s) × IsOpen s (naming s) 0
begins s r m n settings new trace = (
  record {
    trace = trace;
    so_far = (tt, record { reads = refl; writes = refl; on_wire = refl }, joins_read (IsSoFar (relay_job s)) (Bound s.local true ∷ []) s.targets refl);
    done = effects_on (naming s);
    named = ([], sym (append-nil (naming s)));
    names = ap (λ (l : List (List ℕ)). s.local ∷ l) h.names;
    count = new.receivers.count ∙ peers_count s.targets;
    received = new.received ∙ sym none;
    refused = new.refused ∙ sym (ap (λ (l : List Reception). malformed_count (came l)) h.receptions);
    few = omega (arith, none);
    each = each;
    others = λ j above. ap (λ (l : List Parcel). sent_to j l) h.parcels;
  },
  record {
    passed = h.passed;
    not_closed = ap has_closed h.receptions;
    few = (let some = settings.some in omega (arith, none, some));
    last = ap (λ l. idle_run 0 l) h.turns;
    busy = settings.idles;
  },
) where
  h : Joining s.targets
  h = joins s.targets

  none : length (came (receptions (naming s))) ≡ 0
  none = ap (λ (l : List Reception). length (came l)) (joins s.targets).receptions

  each : (j : ℕ) (p : Target) (a : Receiver) → slice_get s.targets j ≡ Some p → slice_get (receivers_of r) j ≡ Some a → (t : Tale) × Tracks j p (naming s) a t
  each j p a at now = (untold, track_none j p (naming s) a h.receptions h.answers h.parcels h.turns (new.receivers.each j _ a (peer_at s.targets j p at) now))

-- what a receiver counted says its line
line_of : (n : ℕ) (r : Receiver) (t : Tale) → IsCounted r t → peer_line n t ≡ count_line n r
line_of n r t c = rw (c.sent, c.lost, c.failed, c.left) refl

-- so do those of all receivers
lines_are : (n : ℕ) (targets : List Target) (rs : List Receiver) (x : _) → length rs ≡ length targets → ((j : ℕ) (p : Target) (a : Receiver) → slice_get targets j ≡ Some p → slice_get rs j ≡ Some a → IsCounted a (tale_of (n + j) p x))
    → peer_lines n (tales_from n targets x) ≡ count_lines n rs
lines_are n [] [] x e h = refl
lines_are n [] (a ∷ rs) x e h = absurd (omega arith)
lines_are n (p ∷ targets) [] x e h = absurd (omega arith)
lines_are n (p ∷ targets) (a ∷ rs) x e h =
    let P : ℕ → Type 0 = λ k. IsCounted a (tale_of k p x) in
    let zero_more : n + 0 ≡ n = omega arith in
    let here : IsCounted a (tale_of n p x) = subst P zero_more (h 0 p a refl refl) in
    let more = lines_are (n + 1) targets rs x (omega arith) (λ j q b at now. (let Q : ℕ → Type 0 = λ k. IsCounted b (tale_of k q x) in let same : n + suc j ≡ n + 1 + j = omega arith in subst Q same (h (suc j) q b at now))) in
    ap (λ (l : List ℕ). l ++ peer_lines (n + 1) (tales_from (n + 1) targets x)) (line_of n a (tale_of n p x) here) ∙ ap (λ (l : List ℕ). count_line n a ++ l) more

-- what was received and answered, with the flushes
record Whole (turned flushed : List WireEvent) : Type 0 where
  received : receptions (turned ++ flushed) ≡ receptions turned
  replies : (j : ℕ) → answers_to j (answers (turned ++ flushed)) ≡ answers_to j (answers turned) ++ answers_to j (answers flushed)
  names : flat_map named_by (turned ++ flushed) ≡ flat_map named_by turned

whole : (turned flushed : List WireEvent) → are_offers flushed ≡ true → Whole turned flushed
whole turned flushed offers = record {
  received = flat_map-append receptions_by turned flushed ∙ ap (λ (l : List Reception). receptions turned ++ l) (are flushed offers).receptions ∙ append-nil (receptions turned);
  replies = λ j. ap (λ (l : List Reply). answers_to j l) (flat_map-append answers_by turned flushed) ∙ answers_to-append j (answers turned) (answers flushed);
  names = flat_map-append named_by turned flushed ∙ ap (λ (l : List (List ℕ)). flat_map named_by turned ++ l) (are flushed offers).names ∙ append-nil (flat_map named_by turned);
}

-- the tale of turns and flushes
tale_flushed : (idle j : ℕ) (p : Target) (turned flushed : List WireEvent) (r : Receiver) (u : Tale) → are_offers flushed ≡ true → FlushedTo idle j p turned flushed r u → tale_of j p (seen [] (turned ++ flushed)) ≡ u
tale_flushed idle j p turned flushed r u offers h =
    let w = whole turned flushed offers in
    ap (λ (l : List Reception). relay_tale p.limit p.depth l (answers_to j (answers (turned ++ flushed)))) w.received
    ∙ ap (λ (l : List LinkAnswer). relay_tale p.limit p.depth (receptions turned) l) (w.replies j)
    ∙ flushes_told.whole p.limit p.depth (receptions turned) (answers_to j (answers turned)) (answers_to j (answers flushed)) h.turns u h.told h.flushes

-- the answers that the turns left over
over_is : (idle j : ℕ) (p : Target) (turned flushed : List WireEvent) (r : Receiver) (u : Tale) → are_offers flushed ≡ true → FlushedTo idle j p turned flushed r u
    → left_over p.limit p.depth (map given_by (receptions (turned ++ flushed))) (answers_to j (answers (turned ++ flushed))) ≡ answers_to j (answers flushed)
over_is idle j p turned flushed r u offers h =
    let w = whole turned flushed offers in
    ap (λ (l : List Reception). left_over p.limit p.depth (map given_by l) (answers_to j (answers (turned ++ flushed)))) w.received
    ∙ ap (λ (l : List LinkAnswer). left_over p.limit p.depth (map given_by (receptions turned)) l) (w.replies j)
    ∙ ap (λ (x : Told). x.answers) (h.told (answers_to j (answers flushed)))

drained_to : (idle j : ℕ) (p : Target) (turned flushed : List WireEvent) (r : Receiver) (u : Tale) → are_offers flushed ≡ true → FlushedTo idle j p turned flushed r u → HasDrained idle j p (seen [] (turned ++ flushed))
drained_to idle j p turned flushed r u offers h = by h.waited where
  by : HasWaited idle u.left (answers_to j (answers flushed)) → HasDrained idle j p (seen [] (turned ++ flushed))
  by (inl none) = inl (ap (λ (x : Tale). x.left) (tale_flushed idle j p turned flushed r u offers h) ∙ none)
  by (inr (front, is, ends)) = inr (front, over_is idle j p turned flushed r u offers h ∙ is, ends)

-- all that a finished relay did before it writes
pub record Ready (s : Settings) (q : Relay) (e : End) (m n : Meaning) (es : List Event) (wire : List WireEvent) : Type 0 where
  pub trace : Trace m es n
  pub so_far : AtReads (IsSoFar (relay_job s)) nothing es
  pub done : effects es ≡ on wire
  pub passed : wire_failed wire ≡ false
  pub lines : end_line (word_of e) q.received q.refused ++ count_lines 0 (receivers_of q) ≡ written_by s (seen [] wire)
  pub sent : SendsEach s (seen [] wire) (parcels wire)
  pub closed : IsClosed s wire
  pub words : KeepsToWords s wire

pub ready : (s : Settings) (r q : Relay) (e : End) (first m n : Meaning) (es : List Event) (turned : List WireEvent) → Turned s r first m es turned → wire_failed turned ≡ false → HasEnded s turned → end_word s.max (receptions turned) ≡ word_of e
    → Drains s.idle r q m n → (fs : List Event) × (wire : List WireEvent) × Ready s q e first n fs wire
ready s r q e first m n es turned h passed ended word drains =
    let d = drains.flushed s first es turned h passed in
    let ws = d.1 in
    let f = d.2 in
    let wire = turned ++ ws in
    let w = whole turned ws f.offers in
    let R : List Reception → Type 0 = λ l. end_line (word_of e) q.received q.refused ≡ relay_line s.max l in
    let received : q.received ≡ length (came (receptions turned)) = drains.received ∙ h.received in
    let refused : q.refused ≡ malformed_count (came (receptions turned)) = drains.refused ∙ h.refused in
    let first_line : end_line (word_of e) q.received q.refused ≡ relay_line s.max (receptions wire) = subst R (sym w.received) (rw (word, received, refused) refl) in
    let others : peer_lines 0 (tales_from 0 s.targets (seen [] wire)) ≡ count_lines 0 (receivers_of q) =
    lines_are 0 s.targets (receivers_of q) (seen [] wire) f.count (λ j p a at now. (let u = f.each j p a at now in let P : Tale → Type 0 = λ t. IsCounted a t in let Q : ℕ → Type 0 = λ k. IsCounted a (tale_of k p (seen [] wire)) in let same : j ≡ 0 + j = omega arith in subst Q same (subst P (sym (tale_flushed s.idle j p turned ws a u.0 f.offers u.1)) u.1.counted))) in (
      d.0,
      wire,
      record {
        trace = f.trace;
        so_far = f.so_far;
        done = f.done;
        passed = f.passed;
        lines = ap (λ (l : List ℕ). l ++ count_lines 0 (receivers_of q)) first_line ∙ ap (λ (l : List ℕ). relay_line s.max (receptions wire) ++ l) (sym others);
        sent = record {
          each = λ j p at.
              let a = found (receivers_of q) s.targets j p f.count at in
              let u = f.each j p a.0 at a.1 in
              u.1.sent ∙ sym (ap (λ (t : Tale). t.sent) (tale_flushed s.idle j p turned ws a.0 u.0 f.offers u.1));
          others = f.others;
        };
        closed = record {
          turned = turned;
          flushed = ws;
          whole = refl;
          named = h.named;
          ended = ended;
          polled = each_polled s r first m es turned h;
          offers = f.offers;
          drained = λ j p at.
              let a = found (receivers_of q) s.targets j p f.count at in
              let u = f.each j p a.0 at a.1 in
              drained_to s.idle j p turned ws a.0 u.0 f.offers u.1;
        };
        words = keeps_words s wire f.passed (w.names ∙ h.names);
      },
    )

-- one write after that
wrote_after : (s : Settings) (q : Relay) (e : End) (m n : Meaning) (es : List Event) (wire : List WireEvent) (w : Event) → Ready s q e m n es wire → AtReads (IsSoFar (relay_job s)) (on wire) (w ∷ []) → AtReads (IsSoFar (relay_job s)) nothing (es ++ w ∷ [])
wrote_after s q e m n es wire w h one =
    let P : Effects → Type 0 = λ f. AtReads (IsSoFar (relay_job s)) f (w ∷ []) in
    at_reads_join (IsSoFar (relay_job s)) nothing es (w ∷ []) h.so_far (subst P (sym h.done) one)

finished : (s : Settings) (wire : List WireEvent) → IsClosed s wire → IsFinished (relay_job s) [] false wire
finished s wire closed = ((tt, λ a. absurd a), closed)

pub finishes : (s : Settings) (q : Relay) (e : End) (m n o : Meaning) (es : List Event) (wire : List WireEvent) (bytes : List ℕ) → Ready s q e m n es wire → bytes ≡ end_line (word_of e) q.received q.refused ++ count_lines 0 (receivers_of q) → Step n (Wrote bytes) o
    → (fs : List Event) × Performs (relay_job s) m o Done fs
finishes s q e m n o es wire bytes h is step =
    let all : effects (es ++ Wrote bytes ∷ []) ≡ record nothing { wire = wire; written = bytes } = effects_more es (Wrote bytes) (on wire) h.done ∙ ap (λ (l : List WireEvent). record nothing { wire = l; written = bytes }) (append-nil wire) in (
      es ++ Wrote bytes ∷ [],
      performs (relay_job s) m o Done (es ++ Wrote bytes ∷ []) (record nothing { wire = wire; written = bytes }) (trace_join m n o es (Wrote bytes ∷ []) h.trace (trace_one n o (Wrote bytes) step))
          (wrote_after s q e m n es wire (Wrote bytes) h (tt, record { reads = refl; writes = refl; on_wire = h.passed }, tt)) all refl (record {
            output = is ∙ h.lines;
            sent = h.sent;
            cause = finished s wire h.closed;
            fails = record { read_failed = refl; write_failed = refl; on_wire = h.passed };
            fits = refl;
            wires = h.words;
          }),
    )

pub finishes_not : (s : Settings) (q : Relay) (e : End) (m n o : Meaning) (es : List Event) (wire : List WireEvent) (bytes front rest : List ℕ) → Ready s q e m n es wire → bytes ≡ end_line (word_of e) q.received q.refused ++ count_lines 0 (receivers_of q) → bytes ≡ front ++ rest
    → Step n (WriteFailed front) o → (fs : List Event) × Performs (relay_job s) m o WriteFault fs
finishes_not s q e m n o es wire bytes front rest h is parts step =
    let all : effects (es ++ WriteFailed front ∷ []) ≡ record nothing { wire = wire; written = front; write_failed = true } = effects_more es (WriteFailed front) (on wire) h.done ∙ ap (λ (l : List WireEvent). record nothing { wire = l; written = front; write_failed = true }) (append-nil wire) in (
      es ++ WriteFailed front ∷ [],
      performs (relay_job s) m o WriteFault (es ++ WriteFailed front ∷ []) (record nothing { wire = wire; written = front; write_failed = true }) (trace_join m n o es (WriteFailed front ∷ []) h.trace (trace_one n o (WriteFailed front) step))
          (wrote_after s q e m n es wire (WriteFailed front) h (tt, record { reads = refl; writes = refl; on_wire = h.passed }, tt)) all refl (record {
            output = inr (finished s wire h.closed, (rest, sym h.lines ∙ (sym is ∙ parts)));
            sent = h.sent;
            cause = tt;
            fails = record { read_failed = refl; write_failed = refl; on_wire = h.passed };
            fits = refl;
            wires = h.words;
          }),
    )
