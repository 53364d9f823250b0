-- Flushes, one after another.
use Rattle.std.proofs.Common.{◌≡◌, ◌≤◌, ◌<◌, ◌+◌, ◌++◌, ◌⊎◌, inl, inr, ℕ, zero, suc, Bool, true, false, List, [], ◌∷◌, Some, length, replicate, if◌then◌else◌, refl, sym, ◌∙◌, ap, subst, arith, length-append, append_assoc}
use Rattle.std.specs.Prelude.{slice_get}
use Rattle.std.proofs.lemmas.List.{append-nil}
use Rattle.std.proofs.lemmas.List.Concat.{flat_map-append}
use Rattle.wire_model.specs.LinkAnswers.{LinkAnswer, Sent, NotReady, Failed}
use Rattle.relay_model.specs.Queue.{Tale, Told, untold, poll}
use Rattle.relay_model.specs.Relays.{failure_count, ends_ready, HasFlushed}
use Rattle.relay_model.specs.Relays as relays
use Rattle.relay_model.specs.Laws.{IsSettled}
use Rattle.relay_model.specs.Lines.{came}
use Rattle.relay_model.proofs.Tales.{flushes_told}
use Rattle.scl_outside.specs.Meaning.{Meaning, Parcel, Reply}
use Rattle.scl_outside.specs.Events.{Event, WireEvent, parcels_by, answers_by}
use Rattle.scl_outside.specs.Effects.{Effects, nothing, receptions, answers, parcels, wire_failed}
use Rattle.scl_outside.specs.Traces.{AtReads}
use Rattle.scl_outside.proofs.Traces.{trace_join, effects_then, at_reads_join}
use Rattle.polled_datagrams.specs.Offers.{on_wire, answers_to, sent_to}
use Rattle.thinning_relay.proofs.Flushing.{answers_to-append, sent_to-append, at_or_below}
use Rattle.std.proofs.lemmas.Option.{slice_get_within}
use Rattle.thinning_relay.specs.Receivers.{queued, any_moved, count_after, Served}
use Rattle.thinning_relay.specs.Flushing.{links, FlushesAll}
use Rattle.thinning_relay.specs.Relaying.{Flushes, receivers_of}
use Rattle.thinning_relay.specs.declared.receiver.Receiver.{Receiver}
use Rattle.thinning_relay.specs.declared.relay.Relay.{Relay}
use Rattle.scl_run.specs.Performing.{IsSoFar}
use Rattle.relay_job.specs.Settings.{Target, Settings}
use Rattle.relay_job.specs.Job.{are_offers, relay_job}
use Rattle.relay_job.specs.Serving.{Turned}
use Rattle.relay_job.specs.Draining.{AreEmpty, HasWaited, FlushedTo, Drained, Drains}
use Rattle.relay_job.proofs.Calls.{on, effects_on, offers_of, offers-append, failed-append, names_of, offers_follow, are}
use Rattle.relay_job.proofs.Tracked.{size, flush_size, counted}
use Rattle.relay_job.proofs.Turned.{found}
use Rattle.relay_job.proofs.Working.{total, work, some_less, one_went, none_went, total_no_more, left_less, poll_left}

-- what a flush did to a tale
told_by : (r q : Receiver) (t : Tale) (given : List LinkAnswer) (sent : List (List ℕ)) → queued r ≡ t.left → Served r q given sent
    → relays.Flushes t given (record { sent = t.sent ++ sent; lost = t.lost; failed = t.failed + failure_count given; left = queued q })
told_by r q t given sent left h more =
    let P : List (List ℕ) → Type 0 = λ l. poll t l (given ++ more) ≡ record { tale = record { sent = t.sent ++ sent; lost = t.lost; failed = t.failed + failure_count given; left = queued q }; answers = more } in
    subst P left (h.told t more)

-- a flush of an empty queue takes nothing
empty_stays : (t u : Tale) (q : List (List ℕ)) (given : List LinkAnswer) → q ≡ [] → poll t q (given ++ []) ≡ record { tale = u; answers = [] } → (given ≡ []) × (u.left ≡ [])
unfolding poll
empty_stays t u [] given is e = (sym (append-nil given) ∙ ap (λ (x : Told). x.answers) e, sym (ap (λ (x : Told). x.tale.left) e))
empty_stays t u (d ∷ q) given is e = absurd (cc)

-- a flush that moved nothing: its queue was empty, or its link wasn't ready
nothing_moved : (t u : Tale) (q : List (List ℕ)) (given : List LinkAnswer) → ((more : List LinkAnswer) → poll t q (given ++ more) ≡ record { tale = u; answers = more }) → any_moved given ≡ false → (q ≡ []) ⊎ (given ≡ NotReady ∷ [])
unfolding poll
nothing_moved t u [] given h m = inl refl
nothing_moved t u (d ∷ q) [] h m = let e : [] ≡ NotReady ∷ [] = ap (λ (x : Told). x.answers) (h (NotReady ∷ [])) in absurd (cc)
nothing_moved t u (d ∷ q) (NotReady ∷ given) h m = let none : given ≡ [] = sym (append-nil given) ∙ ap (λ (x : Told). x.answers) (h []) in inr (ap (λ (l : List LinkAnswer). NotReady ∷ l) none)
nothing_moved t u (d ∷ q) (Sent ∷ given) h m = absurd (cc)
nothing_moved t u (d ∷ q) (Failed ∷ given) h m = absurd (cc)

-- no link moved
none_moved : (j : ℕ) (rs : List Reply) → any_moved (links rs) ≡ false → any_moved (answers_to j rs) ≡ false
none_moved j [] m = refl
none_moved j (r ∷ rs) m = by r.answer m (λ k. none_moved j rs k) where
  skipped : (b : Bool) → any_moved (answers_to j rs) ≡ false → any_moved (if b then NotReady ∷ answers_to j rs else answers_to j rs) ≡ false
  skipped true h = h
  skipped false h = h

  by : (a : LinkAnswer) → any_moved (a ∷ links rs) ≡ false → (any_moved (links rs) ≡ false → any_moved (answers_to j rs) ≡ false) → any_moved (answers_to j (record { peer = r.peer; answer = a } ∷ rs)) ≡ false
  by Sent m more = absurd (cc)
  by Failed m more = absurd (cc)
  by NotReady m more = skipped _ (more m)

-- what ends with a link that wasn't ready doesn't end ready
ends_busy : (xs : List LinkAnswer) → ends_ready (xs ++ NotReady ∷ []) ≡ 0
ends_busy [] = refl
ends_busy (x ∷ []) = one x where
  one : (x : LinkAnswer) → ends_ready (x ∷ NotReady ∷ []) ≡ 0
  one Sent = refl
  one NotReady = refl
  one Failed = refl
ends_busy (x ∷ y ∷ xs) = one x (ends_busy (y ∷ xs)) where
  one : (x : LinkAnswer) → ends_ready (y ∷ (xs ++ NotReady ∷ [])) ≡ 0 → ends_ready (x ∷ y ∷ (xs ++ NotReady ∷ [])) ≡ 0
  one Sent h = h
  one NotReady h = h
  one Failed h = h

replicate_more : (n : ℕ) → replicate n NotReady ++ NotReady ∷ [] ≡ replicate (suc n) NotReady
replicate_more zero = refl
replicate_more (suc n) = ap (λ (l : List LinkAnswer). NotReady ∷ l) (replicate_more n)

replicate_next : (n : ℕ) → replicate n NotReady ++ NotReady ∷ [] ≡ replicate (n + 1) NotReady
replicate_next n = replicate_more n ∙ ap (λ (k : ℕ). replicate k NotReady) (let e : suc n ≡ n + 1 = omega arith in e)

-- after one more flush
waits_after : (idle : ℕ) (t u : Tale) (q : List (List ℕ)) (given new : List LinkAnswer) (some : Bool) → q ≡ t.left → ((more : List LinkAnswer) → poll t q (new ++ more) ≡ record { tale = u; answers = more }) → IsSettled u.left new
    → (some ≡ false → any_moved new ≡ false) → HasWaited idle t.left given → HasWaited (if some then 0 else idle + 1) u.left (given ++ new)
waits_after idle t u q given new true left h (inl none) quiet w = inl none
waits_after idle t u q given new true left h (inr (before, is)) quiet w = inr (
  given ++ new,
  sym (append-nil (given ++ new)),
  ap (λ (l : List LinkAnswer). ends_ready (given ++ l)) is ∙ ap ends_ready (sym (append_assoc given before (NotReady ∷ []))) ∙ ends_busy (given ++ before),
)
waits_after idle t u q given new false left h settled quiet (inl none) = inl (empty_stays t u q new (left ∙ none) (h [])).1
waits_after idle t u q given new false left h settled quiet (inr (front, is, ends)) = elim (nothing_moved t u q new h (quiet refl)) [
  | inl none ↦ inl (empty_stays t u q new none (h [])).1
  | inr busy ↦ inr (
    front,
    ap (λ (l : List LinkAnswer). given ++ l) busy ∙ ap (λ (l : List LinkAnswer). l ++ NotReady ∷ []) is ∙ append_assoc front (replicate idle NotReady) (NotReady ∷ []) ∙ ap (λ (l : List LinkAnswer). front ++ l) (replicate_next idle),
    ends,
  )
]

-- the tale after a flush
abbrev pub tale_flushed : Tale → Receiver → List LinkAnswer → List (List ℕ) → Tale
tale_flushed t q given sent = record { sent = t.sent ++ sent; lost = t.lost; failed = t.failed + failure_count given; left = queued q }

-- one receiver that was flushed once more
one_flushed : (idle j : ℕ) (p : Target) (turned flushed ws : List WireEvent) (r q : Receiver) (t : Tale) (some : Bool) → length (came (receptions turned)) ≤ 8388607 → (some ≡ false → any_moved (answers_to j (answers ws)) ≡ false)
    → FlushedTo idle j p turned flushed r t → Served r q (answers_to j (answers ws)) (sent_to j (parcels ws))
    → FlushedTo (if some then 0 else idle + 1) j p turned (flushed ++ ws) q (tale_flushed t q (answers_to j (answers ws)) (sent_to j (parcels ws)))
one_flushed idle j p turned flushed ws r q t some most quiet h served =
    let given : List LinkAnswer = answers_to j (answers ws) in
    let sent : List (List ℕ) = sent_to j (parcels ws) in
    let u : Tale = tale_flushed t q given sent in
    let told : relays.Flushes t given u = told_by r q t given sent h.counted.left served in
    let replies : answers_to j (answers (flushed ++ ws)) ≡ answers_to j (answers flushed) ++ given = ap (λ (l : List Reply). answers_to j l) (flat_map-append answers_by flushed ws) ∙ answers_to-append j (answers flushed) (answers ws) in
    let gone : sent_to j (parcels (turned ++ (flushed ++ ws))) ≡ sent_to j (parcels (turned ++ flushed)) ++ sent =
    ap (λ (l : List WireEvent). sent_to j (parcels l)) (sym (append_assoc turned flushed ws)) ∙ ap (λ (l : List Parcel). sent_to j l) (flat_map-append parcels_by (turned ++ flushed) ws) ∙ sent_to-append j (parcels (turned ++ flushed)) (parcels ws) in
    let same : size u ≡ size t = flush_size t u given told in
    let before = h.few in
    let F : List LinkAnswer → Type 0 = λ l. HasFlushed h.turns l u in
    let W : List LinkAnswer → Type 0 = λ l. HasWaited (if some then 0 else idle + 1) u.left l in
    record {
      turns = h.turns;
      told = h.told;
      flushes = subst F (sym replies) (flushes_told.more h.turns t u (answers_to j (answers flushed)) given h.flushes told);
      sent = gone ∙ ap (λ (l : List (List ℕ)). l ++ sent) h.sent;
      counted = record {
        sent = served.sent_count ∙ ap (λ (n : ℕ). count_after n (length sent)) h.counted.sent ∙ counted (length t.sent) (length sent) (let n = length-append t.sent sent in omega (arith, same, before, most, n)) ∙ sym (length-append t.sent sent);
        lost = served.lost ∙ h.counted.lost;
        failed = served.failed_count ∙ ap (λ (n : ℕ). count_after n (failure_count given)) h.counted.failed ∙ counted t.failed (failure_count given) (omega (arith, same, before, most));
        left = refl;
      };
      few = omega (arith, same, before);
      waited = subst W (sym replies) (waits_after idle t u (queued r) (answers_to j (answers flushed)) given some h.counted.left (λ more. served.told t more) served.settled quiet h.waited);
    }

-- no flush yet
drained_none : (s : Settings) (r : Relay) (first m : Meaning) (es : List Event) (turned : List WireEvent) → Turned s r first m es turned → wire_failed turned ≡ false → Drained s 0 r first m es turned []
drained_none s r first m es turned h passed =
    let all : turned ++ [] ≡ turned = append-nil turned in
    record {
      trace = h.trace;
      so_far = h.so_far;
      done = h.done ∙ ap on (sym all);
      offers = refl;
      passed = ap wire_failed all ∙ passed;
      count = h.count;
      each = λ j p a at now.
          let t = h.each j p a at now in (
            t.0,
            record {
              turns = t.0;
              told = t.1.told;
              flushes = flushes_told.none t.0;
              sent = ap (λ (l : List WireEvent). sent_to j (parcels l)) all ∙ t.1.sent;
              counted = t.1.counted;
              few = t.1.few;
              waited = inr ([], refl, refl);
            },
          );
      others = λ j above. ap (λ (l : List WireEvent). sent_to j (parcels l)) all ∙ h.others j above;
    }

-- one more flush
drained_more : (s : Settings) (idle : ℕ) (r q : Relay) (some : Bool) (first n o : Meaning) (es : List Event) (turned flushed : List WireEvent) → length (came (receptions turned)) ≤ 8388607 → Drained s idle r first n es turned flushed
    → (f : FlushesAll (receivers_of r) some (receivers_of q) n o) → Drained s (if some then 0 else idle + 1) q first o (es ++ on_wire f.wire) turned (flushed ++ f.wire)
drained_more s idle r q some first n o es turned flushed most h f =
    let offers : are_offers f.wire ≡ true = offers_of 0 f.wire f.order in
    let all : (turned ++ flushed) ++ f.wire ≡ turned ++ (flushed ++ f.wire) = append_assoc turned flushed f.wire in
    let P : Effects → Type 0 = λ e. AtReads (IsSoFar (relay_job s)) e (on_wire f.wire) in
    record {
      trace = trace_join first n o es (on_wire f.wire) h.trace f.trace;
      so_far = at_reads_join (IsSoFar (relay_job s)) nothing es (on_wire f.wire) h.so_far (subst P (sym h.done) (offers_follow (IsSoFar (relay_job s)) (turned ++ flushed) f.wire (names_of (turned ++ flushed) h.passed) offers));
      done = effects_then es (on_wire f.wire) (on (turned ++ flushed)) (on f.wire) h.done (effects_on f.wire) ∙ ap on all;
      offers = offers-append flushed f.wire h.offers offers;
      passed = ap wire_failed (sym all) ∙ failed-append (turned ++ flushed) f.wire ∙ rw (h.passed, (are f.wire offers).passed) refl;
      count = f.count ∙ h.count;
      each = λ j p c at now.
          let a = found (receivers_of r) s.targets j p h.count at in
          let t = h.each j p a.0 at a.1 in (
            tale_flushed t.0 c (answers_to j (answers f.wire)) (sent_to j (parcels f.wire)),
            one_flushed idle j p turned flushed f.wire a.0 c t.0 some most (λ e. none_moved j (answers f.wire) (sym f.moved ∙ e)) t.1 (f.each j a.0 c a.1 now),
          );
      others = λ j above.
          ap (λ (l : List WireEvent). sent_to j (parcels l)) (sym all) ∙ ap (λ (l : List Parcel). sent_to j l) (flat_map-append parcels_by (turned ++ flushed) f.wire) ∙ sent_to-append j (parcels (turned ++ flushed)) (parcels f.wire)
          ∙ ap (λ (l : List (List ℕ)). l ++ sent_to j (parcels f.wire)) (h.others j above)
          ∙ (f.others j (let e = h.count in omega (arith, above, e))).1;
    }

-- flushes after turns, whatever was done before them
pub record Waning (limit : ℕ) (r0 r : Relay) (m n : Meaning) (idle : ℕ) : Type 0 where
  pub peers : length (receivers_of r) ≤ n.wire.peers
  pub within : idle ≤ limit
  pub count : length (receivers_of r) ≡ length (receivers_of r0)
  pub received : r.received ≡ r0.received
  pub refused : r.refused ≡ r0.refused
  pub so : (s : Settings) (first : Meaning) (es : List Event) (turned : List WireEvent) → Turned s r0 first m es turned → wire_failed turned ≡ false
      → (length (came (receptions turned)) ≤ 8388607) × ((fs : List Event) × (ws : List WireEvent) × Drained s idle r first n fs turned ws)

pub waning_none : (limit : ℕ) (r : Relay) (m : Meaning) → length (receivers_of r) ≤ m.wire.peers → Waning limit r r m m 0
waning_none limit r m peers = record {
  peers = peers;
  within = omega arith;
  count = refl;
  received = refl;
  refused = refl;
  so = λ s first es turned h passed. (h.few, (es, [], drained_none s r first m es turned h passed));
}

pub waning_more : (limit : ℕ) (r0 r q : Relay) (m n o : Meaning) (idle : ℕ) (some : Bool) (now : ℕ) → now ≡ (if some then 0 else idle + 1) → idle < limit → Waning limit r0 r m n idle → Flushes r some q n o → Waning limit r0 q m o now
waning_more limit r0 r q m n o idle some now is low h f = subst P (sym is) (record {
  peers = (let e = f.flushed.count in let p = f.flushed.peers in let g = h.peers in omega (arith, e, p, g));
  within = most some;
  count = f.flushed.count ∙ h.count;
  received = f.received ∙ h.received;
  refused = f.refused ∙ h.refused;
  so = λ s first es turned t passed.
      let w = h.so s first es turned t passed in
      (w.0, (w.1.0 ++ on_wire f.flushed.wire, w.1.1 ++ f.flushed.wire, drained_more s idle r q some first n o w.1.0 turned w.1.1 w.0 w.1.2 f.flushed));
}) where
  P : ℕ → Type 0
  P k = Waning limit r0 q m o k

  most : (b : Bool) → (if b then 0 else idle + 1) ≤ limit
  most true = omega arith
  most false = omega arith

served_left : (r q : Receiver) (given : List LinkAnswer) (sent : List (List ℕ)) → Served r q given sent → length (queued q) ≤ length (queued r)
served_left r q given sent h =
    let e = poll_left untold (queued r) (given ++ []) in
    let f : length (poll untold (queued r) (given ++ [])).tale.left ≡ length (queued q) = ap (λ (x : Told). length x.tale.left) (h.told untold []) in
    omega (arith, e, f)

pub flush_works : (limit : ℕ) (r q : Relay) (n o : Meaning) (idle now : ℕ) (some : Bool) → now ≡ (if some then 0 else idle + 1) → idle < limit → Flushes r some q n o → work limit 0 0 (total (receivers_of q)) now < work limit 0 0 (total (receivers_of r)) idle
flush_works limit r q n o idle now some is low h = subst P (sym is) (by some h.flushed.moved) where
  P : ℕ → Type 0
  P k = work limit 0 0 (total (receivers_of q)) k < work limit 0 0 (total (receivers_of r)) idle

  f : FlushesAll (receivers_of r) some (receivers_of q) n o
  f = h.flushed

  most : (j : ℕ) (a c : Receiver) → slice_get (receivers_of r) j ≡ Some a → slice_get (receivers_of q) j ≡ Some c → length (queued c) ≤ length (queued a)
  most j a c x y = served_left a c _ _ (h.flushed.each j a c x y)

  by : (b : Bool) → b ≡ any_moved (links (answers h.flushed.wire)) → work limit 0 0 (total (receivers_of q)) (if b then 0 else idle + 1) < work limit 0 0 (total (receivers_of r)) idle
  by true moved = one_went limit 0 0 (total (receivers_of r)) (total (receivers_of q)) 0 idle
      (some_less (receivers_of r) (receivers_of q) (answers h.flushed.wire) h.flushed.count most
      (λ j a c x y m. left_less untold _ (queued a) _ ((h.flushed.each j a c x y).told untold []) m) (λ j above. (h.flushed.others j above).0) (sym moved))
  by false moved = none_went limit 0 0 (total (receivers_of r)) (total (receivers_of q)) idle (total_no_more (receivers_of r) (receivers_of q) h.flushed.count most) low

-- flushes helped no more, or there is nothing left
pub drains_by_count : (limit : ℕ) (r0 r : Relay) (m n : Meaning) (idle : ℕ) → idle ≡ limit → Waning limit r0 r m n idle → Drains limit r0 r m n
drains_by_count limit r0 r m n idle is h = record {
  flushed = λ s first es turned t passed.
      let w = h.so s first es turned t passed in
      let P : ℕ → Type 0 = λ k. Drained s k r first n w.1.0 turned w.1.1 in (w.1.0, w.1.1, subst P is w.1.2);
  received = h.received;
  refused = h.refused;
  count = h.count;
}

pub drains_all : (limit : ℕ) (r0 r : Relay) (m n : Meaning) (idle : ℕ) → AreEmpty (receivers_of r) → Waning limit r0 r m n idle → Drains limit r0 r m n
drains_all limit r0 r m n idle none h = record {
  flushed = λ s first es turned t passed.
      let w = h.so s first es turned t passed in
      let d = w.1.2 in (
        w.1.0,
        w.1.1,
        record {
          trace = d.trace;
          so_far = d.so_far;
          done = d.done;
          offers = d.offers;
          passed = d.passed;
          count = d.count;
          each = λ j p a at now.
              let u = d.each j p a at now in (
                u.0,
                record {
                  turns = u.1.turns;
                  told = u.1.told;
                  flushes = u.1.flushes;
                  sent = u.1.sent;
                  counted = u.1.counted;
                  few = u.1.few;
                  waited = inl (sym u.1.counted.left ∙ none j a now);
                },
              );
          others = d.others;
        },
      );
  received = h.received;
  refused = h.refused;
  count = h.count;
}

-- empty queues so far
pub record EmptyTo (i : ℕ) (rs : List Receiver) : Type 0 where
  pub each : (j : ℕ) (r : Receiver) → j < i → slice_get rs j ≡ Some r → queued r ≡ []

none_of : {A : Type 0} (xs : List A) → length xs ≡ 0 → xs ≡ []
none_of [] e = refl
none_of (x ∷ xs) e = absurd (omega arith)

pub empty_more : (i : ℕ) (rs : List Receiver) (n : ℕ) → n ≤ 0 → ((r : Receiver) → slice_get rs i ≡ Some r → n ≡ length (queued r)) → EmptyTo i rs → EmptyTo (i + 1) rs
empty_more i rs n none is h = record { each = each } where
  each : (j : ℕ) (r : Receiver) → j < i + 1 → slice_get rs j ≡ Some r → queued r ≡ []
  each j r below at = elim (at_or_below j i below) [
    | inl e ↦ (let P : ℕ → Type 0 = λ k. slice_get rs k ≡ Some r in let f = is r (subst P e at) in none_of (queued r) (omega (arith, f, none)))
    | inr e ↦ h.each j r e at
  ]

pub all_empty : (i : ℕ) (rs : List Receiver) → length rs ≤ i → EmptyTo i rs → AreEmpty rs
all_empty i rs all h j r at = h.each j r (let w = slice_get_within rs j r at in omega (arith, w, all)) at
