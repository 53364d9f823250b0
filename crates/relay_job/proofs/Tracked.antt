-- One receiver in a turn.
use Rattle.std.proofs.Common.{◌≡◌, ◌≤◌, ◌+◌, ◌++◌, ℕ, Bool, true, false, List, [], ◌∷◌, Option, Some, length, map, min, max, nat_lt, if◌then◌else◌, refl, sym, ◌∙◌, ap, subst, arith, length-append}
use Rattle.wire_model.specs.Receptions.{Reception, Arrived, NotReady, Closed, Failed}
use Rattle.wire_model.specs.LinkAnswers.{LinkAnswer}
use Rattle.wire_model.specs.LinkAnswers as link
use Rattle.wire_model.specs.Thinning.{is_kept}
use Rattle.relay_model.specs.Queue.{Tale, Told, untold, poll, turn}
use Rattle.relay_model.specs.Relays.{given_by, failure_count, HasTurned}
use Rattle.relay_model.specs.Relays as relays
use Rattle.relay_model.specs.Lines.{came}
use Rattle.relay_model.proofs.Tales.{turns_told}
use Rattle.scl_outside.specs.Meaning.{Parcel, Reply}
use Rattle.scl_outside.specs.Events.{WireEvent, Received}
use Rattle.scl_outside.specs.Effects.{receptions, answers, parcels}
use Rattle.polled_datagrams.specs.Offers.{answers_to, sent_to}
use Rattle.polled_datagrams.specs.Sending.{depth_of}
use Rattle.thinning_relay.proofs.Flushing.{answers_to-append, sent_to-append}
use Rattle.thinning_relay.specs.Receivers.{queued, count_after, missed}
use Rattle.thinning_relay.specs.Passing.{kept_of}
use Rattle.thinning_relay.specs.Relaying.{ServedTurn, arrived_count}
use Rattle.thinning_relay.specs.declared.receiver.Receiver.{Receiver}
use Rattle.relay_job.specs.Settings.{Target}
use Rattle.relay_job.specs.Turns.{TurnTaken, turns_of, IsPolled, ArePolled}
use Rattle.relay_job.specs.Job.{are_offers}
use Rattle.relay_job.specs.Serving.{Tracks}
use Rattle.relay_job.proofs.Calls.{the_turn, turns_more, receptions_more, answers_more, parcels_more, came-append}

-- the datagrams that a tale speaks of
abbrev pub size : Tale → ℕ
size t = length t.sent + t.lost + t.failed + length t.left

poll_size : (t : Tale) (q : List (List ℕ)) (given : List LinkAnswer) → size (poll t q given).tale ≡ length t.sent + t.lost + t.failed + length q
unfolding poll
poll_size t [] given = refl
poll_size t (d ∷ q) [] = refl
poll_size t (d ∷ q) (link.NotReady ∷ given) = refl
poll_size t (d ∷ q) (link.Sent ∷ given) = let e = poll_size (record t { sent = t.sent ++ d ∷ [] }) q given in let n = length-append t.sent (d ∷ []) in omega (arith, e, n)
poll_size t (d ∷ q) (link.Failed ∷ given) = let e = poll_size (record t { failed = t.failed + 1 }) q given in omega (arith, e)

-- a flush keeps it
pub flush_size : (t u : Tale) (given : List LinkAnswer) → relays.Flushes t given u → size u ≡ size t
flush_size t u given h = ap (λ (x : Told). size x.tale) (sym (h [])) ∙ poll_size t t.left (given ++ [])

came_size : (got : Reception) → length (came (got ∷ [])) ≡ arrived_count got
came_size (Arrived d) = refl
came_size NotReady = refl
came_size Closed = refl
came_size Failed = refl

-- a datagram that is kept or isn't joins a queue that has room or hasn't
abbrev joined : List ℕ → Tale → Bool → Bool → Tale
joined d t a b = if a then (if b then record t { left = t.left ++ d ∷ [] } else record t { lost = t.lost + 1 }) else t

-- a turn adds what came
turn_size : (limit depth : ℕ) (t : Tale) (given : List LinkAnswer) (got : Reception) → size (turn limit depth (record { tale = t; answers = given }) (given_by got)).tale ≤ size t + arrived_count got
turn_size limit depth t given NotReady = let e = poll_size t t.left given in omega (arith, e)
turn_size limit depth t given Closed = let e = poll_size t t.left given in omega (arith, e)
turn_size limit depth t given Failed = let e = poll_size t t.left given in omega (arith, e)
turn_size limit depth t given (Arrived d) = by (is_kept limit d) (nat_lt (length t.left) depth) refl refl where
  of : (a b : Bool) → size (poll (joined d t a b) (joined d t a b).left given).tale ≤ size t + 1
  of true true = let e = poll_size (joined d t true true) (t.left ++ d ∷ []) given in let n = length-append t.left (d ∷ []) in omega (arith, e, n)
  of true false = let e = poll_size (joined d t true false) t.left given in omega (arith, e)
  of false true = let e = poll_size t t.left given in omega (arith, e)
  of false false = let e = poll_size t t.left given in omega (arith, e)

  by : (a b : Bool) → is_kept limit d ≡ a → nat_lt (length t.left) depth ≡ b → size (turn limit depth (record { tale = t; answers = given }) (Some d)).tale ≤ size t + 1
  by a b e f = rw (e, f) (of a b)

pub turned_size : (limit depth : ℕ) (t u : Tale) (given : List LinkAnswer) (got : Reception) → relays.Turns limit depth t (given_by got) given u → size u ≤ size t + arrived_count got
turned_size limit depth t u given got h =
    let e : size (turn limit depth (record { tale = t; answers = given ++ [] }) (given_by got)).tale ≡ size u = ap (λ (x : Told). size x.tale) (h []) in
    let f = turn_size limit depth t (given ++ []) got in
    omega (arith, e, f)

-- counts that are far from their end
pub counted : (r n : ℕ) → r + n ≤ 8388607 → count_after r n ≡ r + n
counted r n h =
    let e : min (r + n) 18446744073709551615 ≡ r + n = omega arith in
    let f : max r (r + n) ≡ r + n = omega arith in
    ap (λ (k : ℕ). max r k) e ∙ f

-- one more turn
pub polled_more : (j : ℕ) (p : Target) (t m u : Tale) (turns : List TurnTaken) (x : TurnTaken) → ArePolled j p t turns m → IsPolled j p m x u → ArePolled j p t (turns ++ x ∷ []) u
polled_more j p t m u [] x e one = let P : Tale → Type 0 = λ y. IsPolled j p y x u in (u, subst P e one, refl)
polled_more j p t m u (y ∷ turns) x (n, first, rest) one = (n, first, polled_more j p n m u turns x rest one)

given_more : (xs : List Reception) (got : Reception) → map given_by (xs ++ got ∷ []) ≡ map given_by xs ++ given_by got ∷ []
given_more [] got = refl
given_more (x ∷ xs) got = ap (λ (l : List (Option (List ℕ))). given_by x ∷ l) (given_more xs got)

-- the tale after a turn in which the receiver was served so
abbrev pub tale_after : Tale → Reception → Receiver → Receiver → List LinkAnswer → List (List ℕ) → Tale
tale_after t got r q took sent = record {
  sent = t.sent ++ sent;
  lost = t.lost + missed (depth_of r.queue) (kept_of r.limit (given_by got)) (queued r);
  failed = t.failed + failure_count took;
  left = queued q;
}

-- by the target's own limit and depth
told_for : (got : Reception) (p : Target) (r q : Receiver) (t : Tale) (took : List LinkAnswer) (sent : List (List ℕ)) → r.limit ≡ p.limit → depth_of r.queue ≡ p.depth → queued r ≡ t.left → ServedTurn (given_by got) r q took sent
    → relays.Turns p.limit p.depth t (given_by got) took (tale_after t got r q took sent)
told_for got p r q t took sent el ed left served more =
    let P : ℕ → Type 0 = λ n. turn n p.depth (record { tale = t; answers = took ++ more }) (given_by got) ≡ record { tale = tale_after t got r q took sent; answers = more } in
    let Q : ℕ → Type 0 = λ n. turn r.limit n (record { tale = t; answers = took ++ more }) (given_by got) ≡ record { tale = tale_after t got r q took sent; answers = more } in
    subst P el (subst Q ed (served.told t more (sym left)))

-- one more datagram came, or none
pub came_more : (wire ws : List WireEvent) (got : Reception) → are_offers ws ≡ true → length (came (receptions (wire ++ Received got ∷ ws))) ≡ length (came (receptions wire)) + arrived_count got
came_more wire ws got offers =
    ap (λ (l : List Reception). length (came l)) (receptions_more wire got ws offers)
    ∙ ap length (came-append (receptions wire) (got ∷ []))
    ∙ length-append (came (receptions wire)) (came (got ∷ []))
    ∙ ap (λ (n : ℕ). length (came (receptions wire)) + n) (came_size got)

within_came : (wire ws : List WireEvent) (got : Reception) (a b : ℕ) → are_offers ws ≡ true → a ≤ length (came (receptions wire)) → b ≤ a + arrived_count got → b ≤ length (came (receptions (wire ++ Received got ∷ ws)))
within_came wire ws got a b offers h k = let e = came_more wire ws got offers in omega (arith, e, h, k)

pub tracked : (j : ℕ) (p : Target) (wire ws : List WireEvent) (got : Reception) (r q : Receiver) (t : Tale) → are_offers ws ≡ true → Tracks j p wire r t
    → ServedTurn (given_by got) r q (answers_to j (answers ws)) (sent_to j (parcels ws)) → length (came (receptions (wire ++ Received got ∷ ws))) ≤ 8388607
    → Tracks j p (wire ++ Received got ∷ ws) q (tale_after t got r q (answers_to j (answers ws)) (sent_to j (parcels ws)))
tracked j p wire ws got r q t offers h served few =
    let now = wire ++ Received got ∷ ws in
    let took : List LinkAnswer = answers_to j (answers ws) in
    let sent : List (List ℕ) = sent_to j (parcels ws) in
    let lost : ℕ = missed (depth_of r.queue) (kept_of r.limit (given_by got)) (queued r) in
    let u : Tale = tale_after t got r q took sent in
    let T : List (Option (List ℕ)) → Type 0 = λ l. HasTurned p.limit p.depth l (answers_to j (answers now)) u in
    let A : List LinkAnswer → Type 0 = λ l. HasTurned p.limit p.depth (map given_by (receptions wire) ++ given_by got ∷ []) l u in
    let L : List TurnTaken → Type 0 = λ l. ArePolled j p untold l u in
    let told_now : relays.Turns p.limit p.depth t (given_by got) took u = told_for got p r q t took sent h.limit h.depth h.counted.left served in
    let received : receptions now ≡ receptions wire ++ got ∷ [] = receptions_more wire got ws offers in
    let replies : answers_to j (answers now) ≡ answers_to j (answers wire) ++ took = ap (λ (l : List Reply). answers_to j l) (answers_more wire got ws) ∙ answers_to-append j (answers wire) (answers ws) in
    let within : size u ≤ length (came (receptions now)) = within_came wire ws got (size t) (size u) offers h.few (turned_size p.limit p.depth t u took got told_now) in
    record {
      limit = served.keeps.limit ∙ h.limit;
      depth = served.keeps.queue.depth ∙ h.depth;
      told = subst T (sym (ap (λ (l : List Reception). map given_by l) received ∙ given_more (receptions wire) got)) (subst A (sym replies) (turns_told.more p.limit p.depth (map given_by (receptions wire)) (answers_to j (answers wire)) took t u (given_by got) h.told told_now));
      polled = subst L (sym (turns_more wire got ws offers)) (polled_more j p untold t u (turns_of wire) (the_turn got ws) h.polled (record { told = told_now; settled = served.settled }));
      sent = ap (λ (l : List Parcel). sent_to j l) (parcels_more wire got ws) ∙ sent_to-append j (parcels wire) (parcels ws) ∙ ap (λ (l : List (List ℕ)). l ++ sent) h.sent;
      counted = record {
        sent = served.sent_count ∙ ap (λ (n : ℕ). count_after n (length sent)) h.counted.sent ∙ counted (length t.sent) (length sent) (let n = length-append t.sent sent in omega (arith, within, few, n)) ∙ sym (length-append t.sent sent);
        lost = served.lost_count ∙ ap (λ (n : ℕ). count_after n lost) h.counted.lost ∙ counted t.lost lost (omega (arith, within, few));
        failed = served.failed_count ∙ ap (λ (n : ℕ). count_after n (failure_count took)) h.counted.failed ∙ counted t.failed (failure_count took) (omega (arith, within, few));
        left = refl;
      };
      few = within;
    }
