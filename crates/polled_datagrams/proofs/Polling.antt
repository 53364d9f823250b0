-- A queue that is being polled.
use Rattle.std.proofs.Common.{add-zero, ◌≡◌, ◌≤◌, ◌+◌, ◌++◌, ◌||◌, ◌==◌, inl, inr, nat_lt, if◌then◌else◌, ℕ, Bool, true, false, List, [], ◌∷◌, Some, None, length, take, drop, map, min, refl, sym, ◌∙◌, ap, subst, append_assoc, arith, length-append}
use Rattle.std.specs.List.{slice_get}
use Rattle.std.proofs.lemmas.List.{append-nil, take_min}
use Rattle.std.proofs.lemmas.Bool.{eq-eqb}
use Rattle.std.proofs.lemmas.Bool.Decides.{nat_tests}
use Rattle.std.proofs.lemmas.List.Concat.{flat_map-append}
use Rattle.wire_model.specs.LinkAnswers.{LinkAnswer, Sent, NotReady, Failed}
use Rattle.relay_model.specs.Queue.{Tale, poll}
use Rattle.relay_model.specs.Relays.{not_ready_count, failure_count}
use Rattle.scl_outside.specs.Meaning.{Meaning, Parcel, Reply}
use Rattle.scl_outside.specs.Events.{Event, WireEvent, Offered, Received, Bound, Joined, OnWire, answers_by, parcels_by, peer_fails}
use Rattle.scl_outside.specs.Steps.{Step, Counts}
use Rattle.scl_outside.specs.Effects.{answers, parcels}
use Rattle.scl_outside.specs.Traces.{Trace}
use Rattle.scl_outside.specs.WireAnswers.{parcel, IsAtFront}
use Rattle.scl_outside.proofs.Traces.{trace_join, trace_one}
use Rattle.polled_datagrams.specs.Offers.{offers, on_wire, answers_to, replies_of, parcels_of}
use Rattle.polled_datagrams.specs.Sending.{Polls}
use Rattle.polled_datagrams.specs.declared.sending.Flushed.{Flushed}

-- by now these answers were taken, and the rest of the poll is that of what is still queued
pub record IsPolled (peer : ℕ) (before after : List (List ℕ)) (count failed : ℕ) (s m : Meaning) : Type 0 where
  pub given : List LinkAnswer
  pub wire : List WireEvent
  pub gone : List (List ℕ)
  pub trace : Trace s (on_wire wire) m
  pub told : (x : Tale) (more : List LinkAnswer) → poll x before (given ++ more) ≡ poll (record x { sent = x.sent ++ gone; failed = x.failed + failed }) after more
  pub offered : (more : List LinkAnswer) → offers peer before (given ++ more) ≡ wire ++ offers peer after more
  pub number : count ≡ length gone
  pub size : count + failed + length after ≡ length before
  pub ready : not_ready_count given ≡ 0
  pub taken : length given ≡ count + failed
  pub failures : failed ≡ failure_count given
  pub replies : answers wire ≡ replies_of peer given
  pub parcels : parcels wire ≡ parcels_of peer gone
  pub peers : m.wire.peers ≡ s.wire.peers

pub polled_none : (peer : ℕ) (q : List (List ℕ)) (s : Meaning) → IsPolled peer q q 0 0 s s
polled_none peer q s = record {
  given = [];
  wire = [];
  gone = [];
  trace = refl;
  told = λ x more. rw (append-nil x.sent, add-zero) refl;
  offered = λ more. refl;
  number = refl;
  size = omega arith;
  ready = refl;
  taken = refl;
  failures = refl;
  replies = refl;
  parcels = refl;
  peers = refl;
}

pub on_wire-append : (ws vs : List WireEvent) → on_wire (ws ++ vs) ≡ on_wire ws ++ on_wire vs
on_wire-append [] vs = refl
on_wire-append (w ∷ ws) vs = ap (λ (l : List Event). OnWire w ∷ l) (on_wire-append ws vs)

pub replies_of-append : (peer : ℕ) (xs ys : List LinkAnswer) → replies_of peer (xs ++ ys) ≡ replies_of peer xs ++ replies_of peer ys
replies_of-append peer [] ys = refl
replies_of-append peer (x ∷ xs) ys = ap (λ (l : List Reply). record { peer = peer; answer = x } ∷ l) (replies_of-append peer xs ys)

pub parcels_of-append : (peer : ℕ) (xs ys : List (List ℕ)) → parcels_of peer (xs ++ ys) ≡ parcels_of peer xs ++ parcels_of peer ys
parcels_of-append peer [] ys = refl
parcels_of-append peer (x ∷ xs) ys = ap (λ (l : List Parcel). parcel peer x ∷ l) (parcels_of-append peer xs ys)

not_ready-append : (xs ys : List LinkAnswer) → not_ready_count (xs ++ ys) ≡ not_ready_count xs + not_ready_count ys
not_ready-append [] ys = omega arith
not_ready-append (NotReady ∷ xs) ys = omega (arith, not_ready-append xs ys)
not_ready-append (Sent ∷ xs) ys = not_ready-append xs ys
not_ready-append (Failed ∷ xs) ys = not_ready-append xs ys

failure-append : (xs ys : List LinkAnswer) → failure_count (xs ++ ys) ≡ failure_count xs + failure_count ys
failure-append [] ys = omega arith
failure-append (NotReady ∷ xs) ys = failure-append xs ys
failure-append (Sent ∷ xs) ys = failure-append xs ys
failure-append (Failed ∷ xs) ys = omega (arith, failure-append xs ys)

is_same : (j : ℕ) → (j == j) ≡ true
is_same j = eq-eqb j j refl

-- the answers of a peer among its own replies
pub answers_own : (j : ℕ) (given : List LinkAnswer) → answers_to j (replies_of j given) ≡ given
answers_own j [] = refl
answers_own j (a ∷ given) = rw (is_same j) (ap (λ (l : List LinkAnswer). a ∷ l) (answers_own j given))

counts_on : (a b : Bool) (x y z w : ℕ) → Counts a x y → y ≤ z → Counts b z w → Counts (a || b) x w
counts_on true true x y z w p q r = (omega arith, omega arith)
counts_on true false x y z w p q r = (omega arith, omega arith)
counts_on false true x y z w p q r = (omega arith, omega arith)
counts_on false false x y z w p q r = omega arith

-- one more answer to this peer, or to another
one_failure : (j : ℕ) (w : WireEvent) (ws : List WireEvent) → nat_lt 0 (failure_count (answers_to j (answers (w ∷ ws)))) ≡ (peer_fails j w || nat_lt 0 (failure_count (answers_to j (answers ws))))
one_failure j (Offered p Sent) ws = elim (p.peer == j) as (λ b. nat_lt 0 (failure_count (if b then Sent ∷ answers_to j (answers ws) else answers_to j (answers ws))) ≡ nat_lt 0 (failure_count (answers_to j (answers ws)))) [ true ↦ refl | false ↦ refl ]
one_failure j (Offered p NotReady) ws = elim (p.peer == j) as (λ b. nat_lt 0 (failure_count (if b then NotReady ∷ answers_to j (answers ws) else answers_to j (answers ws))) ≡ nat_lt 0 (failure_count (answers_to j (answers ws)))) [ true ↦ refl | false ↦ refl ]
one_failure j (Offered p Failed) ws = elim (p.peer == j) as (λ b. nat_lt 0 (failure_count (if b then Failed ∷ answers_to j (answers ws) else answers_to j (answers ws))) ≡ (b || nat_lt 0 (failure_count (answers_to j (answers ws))))) [ true ↦ some (failure_count (answers_to j (answers ws))) | false ↦ refl ] where
  some : (n : ℕ) → nat_lt 0 (n + 1) ≡ true
  some n = grind (arith, nat_tests)
one_failure j (Received r) ws = refl
one_failure j (Bound text done) ws = refl
one_failure j (Joined text done) ws = refl

-- over calls of the wire the count of a peer's faults rises where its link failed
pub failure_counts : (j : ℕ) (s t : Meaning) (ws : List WireEvent) → Trace s (on_wire ws) t → Counts (nat_lt 0 (failure_count (answers_to j (answers ws)))) (s.wire.peer_faults j) (t.wire.peer_faults j)
failure_counts j s t [] e = let h : t.wire.peer_faults j ≡ s.wire.peer_faults j = ap (λ (m : Meaning). m.wire.peer_faults j) e in omega arith
failure_counts j s t (w ∷ ws) (m, step, rest) =
    let (n, one, keeps) = step.wire in
    let P : Bool → Type 0 = λ b. Counts b (s.wire.peer_faults j) (t.wire.peer_faults j) in
    subst P (sym (one_failure j w ws)) (counts_on (peer_fails j w) (nat_lt 0 (failure_count (answers_to j (answers ws)))) (s.wire.peer_faults j) (n.peer_faults j) (m.wire.peer_faults j) (t.wire.peer_faults j) (one.peer_faults j) (keeps.peer_faults j) (failure_counts j m t ws rest))

-- the same of the calls of a poll
rises : (peer : ℕ) (given : List LinkAnswer) (wire : List WireEvent) (s t : Meaning) (failed : ℕ) → failed ≡ failure_count given → Trace s (on_wire wire) t → answers wire ≡ replies_of peer given
    → Counts (nat_lt 0 failed) (s.wire.peer_faults peer) (t.wire.peer_faults peer)
rises peer given wire s t failed is trace replies =
    let e : failure_count (answers_to peer (answers wire)) ≡ failed = ap (λ (l : List Reply). failure_count (answers_to peer l)) replies ∙ ap failure_count (answers_own peer given) ∙ sym is in
    let P : ℕ → Type 0 = λ n. Counts (nat_lt 0 n) (s.wire.peer_faults peer) (t.wire.peer_faults peer) in
    subst P e (failure_counts peer s t wire trace)

-- an offer changes no number of peers
pub offer_peers : (s t : Meaning) (p : Parcel) (a : LinkAnswer) → Step s (OnWire (Offered p a)) t → t.wire.peers ≡ s.wire.peers
offer_peers s t p a step = let (m, w, k) = step.wire in (let e = w.peers in let f = k.peers in omega arith)

-- one more call
trace_more : (s m n : Meaning) (wire : List WireEvent) (w : WireEvent) → Trace s (on_wire wire) m → Step m (OnWire w) n → Trace s (on_wire (wire ++ w ∷ [])) n
trace_more s m n wire w trace step = rw (on_wire-append wire (w ∷ [])) (trace_join s m n (on_wire wire) (OnWire w ∷ []) trace (trace_one m n (OnWire w) step))

answers_more : (peer : ℕ) (wire : List WireEvent) (given : List LinkAnswer) (d : List ℕ) (a : LinkAnswer) → answers wire ≡ replies_of peer given → answers (wire ++ Offered (parcel peer d) a ∷ []) ≡ replies_of peer (given ++ a ∷ [])
answers_more peer wire given d a e = flat_map-append answers_by wire (Offered (parcel peer d) a ∷ []) ∙ ap (λ (l : List Reply). l ++ record { peer = peer; answer = a } ∷ []) e ∙ sym (replies_of-append peer given (a ∷ []))

more_parcels : (peer : ℕ) (wire : List WireEvent) (w : WireEvent) (gone new : List (List ℕ)) → parcels wire ≡ parcels_of peer gone → parcels (w ∷ []) ≡ parcels_of peer new → parcels (wire ++ w ∷ []) ≡ parcels_of peer (gone ++ new)
more_parcels peer wire w gone new e f = flat_map-append parcels_by wire (w ∷ []) ∙ ap (λ (l : List Parcel). l ++ parcels (w ∷ [])) e ∙ ap (λ (l : List Parcel). parcels_of peer gone ++ l) f ∙ sym (parcels_of-append peer gone new)

pub polled_sent : (peer : ℕ) (before q : List (List ℕ)) (d : List ℕ) (count failed : ℕ) (s m n : Meaning) → IsPolled peer before (d ∷ q) count failed s m → Step m (OnWire (Offered (parcel peer d) Sent)) n → IsPolled peer before q (count + 1) failed s n
unfolding poll
polled_sent peer before q d count failed s m n p step = record {
  given = p.given ++ Sent ∷ [];
  wire = p.wire ++ Offered (parcel peer d) Sent ∷ [];
  gone = p.gone ++ d ∷ [];
  trace = trace_more s m n p.wire _ p.trace step;
  told = λ x more. (
      ap (λ (l : List LinkAnswer). poll x before l) (append_assoc p.given (Sent ∷ []) more)
      ∙ p.told x (Sent ∷ more)
      ∙ ap (λ (l : List (List ℕ)). poll (record x { sent = l; failed = x.failed + failed }) q more) (append_assoc x.sent p.gone (d ∷ [])));
  offered = λ more. (
      ap (λ (l : List LinkAnswer). offers peer before l) (append_assoc p.given (Sent ∷ []) more)
      ∙ p.offered (Sent ∷ more)
      ∙ sym (append_assoc p.wire (Offered (parcel peer d) Sent ∷ []) (offers peer q more)));
  number = rw (length-append p.gone (d ∷ [])) (let e = p.number in omega arith);
  size = (let e = p.size in omega arith);
  ready = rw (not_ready-append p.given (Sent ∷ [])) (let e = p.ready in omega arith);
  taken = rw (length-append p.given (Sent ∷ [])) (let e = p.taken in omega arith);
  failures = rw (failure-append p.given (Sent ∷ [])) (let e = p.failures in omega arith);
  replies = answers_more peer p.wire p.given d Sent p.replies;
  parcels = more_parcels peer p.wire _ p.gone (d ∷ []) p.parcels refl;
  peers = offer_peers m n _ _ step ∙ p.peers;
}

pub polled_failed : (peer : ℕ) (before q : List (List ℕ)) (d : List ℕ) (count failed : ℕ) (s m n : Meaning) → IsPolled peer before (d ∷ q) count failed s m → Step m (OnWire (Offered (parcel peer d) Failed)) n → IsPolled peer before q count (failed + 1) s n
unfolding poll
polled_failed peer before q d count failed s m n p step = record {
  given = p.given ++ Failed ∷ [];
  wire = p.wire ++ Offered (parcel peer d) Failed ∷ [];
  gone = p.gone;
  trace = trace_more s m n p.wire _ p.trace step;
  told = λ x more. (
      ap (λ (l : List LinkAnswer). poll x before l) (append_assoc p.given (Failed ∷ []) more)
      ∙ p.told x (Failed ∷ more)
      ∙ ap (λ (k : ℕ). poll (record x { sent = x.sent ++ p.gone; failed = k }) q more) (let e : x.failed + failed + 1 ≡ x.failed + (failed + 1) = omega arith in e));
  offered = λ more. (
      ap (λ (l : List LinkAnswer). offers peer before l) (append_assoc p.given (Failed ∷ []) more)
      ∙ p.offered (Failed ∷ more)
      ∙ sym (append_assoc p.wire (Offered (parcel peer d) Failed ∷ []) (offers peer q more)));
  number = p.number;
  size = (let e = p.size in omega arith);
  ready = rw (not_ready-append p.given (Failed ∷ [])) (let e = p.ready in omega arith);
  taken = rw (length-append p.given (Failed ∷ [])) (let e = p.taken in omega arith);
  failures = rw (failure-append p.given (Failed ∷ [])) (let e = p.failures in omega arith);
  replies = answers_more peer p.wire p.given d Failed p.replies;
  parcels = rw (← append-nil p.gone) (more_parcels peer p.wire _ p.gone [] p.parcels refl);
  peers = offer_peers m n _ _ step ∙ p.peers;
}

-- the link wasn't ready
pub polled_not_ready : (peer : ℕ) (before q : List (List ℕ)) (d : List ℕ) (count failed : ℕ) (s m n : Meaning) (r : Flushed) → r ≡ record { pending = true; sent = count; failed = failed } → IsPolled peer before (d ∷ q) count failed s m → Step m (OnWire (Offered (parcel peer d) NotReady)) n → Polls peer before r (d ∷ q) s n
unfolding poll
polled_not_ready peer before q d count failed s m n r is p step = let P : Flushed → Type 0 = λ x. Polls peer before x (d ∷ q) s n in subst P (sym is) (record {
  given = p.given ++ NotReady ∷ [];
  wire = p.wire ++ Offered (parcel peer d) NotReady ∷ [];
  offered = sym (
      ap (λ (l : List LinkAnswer). offers peer before l) (sym (append-nil (p.given ++ NotReady ∷ [])) ∙ append_assoc p.given (NotReady ∷ []) [])
      ∙ p.offered (NotReady ∷ []));
  trace = trace_more s m n p.wire _ p.trace step;
  sent = p.gone;
  told = λ x more. (
      ap (λ (l : List LinkAnswer). poll x before l) (append_assoc p.given (NotReady ∷ []) more)
      ∙ p.told x (NotReady ∷ more));
  settled = inr (p.given, refl);
  number = p.number;
  failed = rw (failure-append p.given (NotReady ∷ [])) (let e = p.failures in omega arith);
  faults = rises peer (p.given ++ NotReady ∷ []) (p.wire ++ Offered (parcel peer d) NotReady ∷ []) s n failed (rw (failure-append p.given (NotReady ∷ [])) (let e = p.failures in omega arith)) (trace_more s m n p.wire _ p.trace step) (answers_more peer p.wire p.given d NotReady p.replies);
  taken = rw (length-append p.given (NotReady ∷ []), not_ready-append p.given (NotReady ∷ [])) (let e = p.taken in let z = p.ready in omega arith);
  pending = (λ e. rw (not_ready-append p.given (NotReady ∷ [])) (let e = p.ready in omega arith), λ e. refl);
  replies = answers_more peer p.wire p.given d NotReady p.replies;
  parcels = rw (← append-nil p.gone) (more_parcels peer p.wire _ p.gone [] p.parcels refl);
  peers = offer_peers m n _ _ step ∙ p.peers;
})

-- the queue is empty
none_queued : (peer : ℕ) (before : List (List ℕ)) (count failed : ℕ) (s m : Meaning) → IsPolled peer before [] count failed s m → Polls peer before (record { pending = false; sent = count; failed = failed }) [] s m
unfolding poll
none_queued peer before count failed s m p = record {
  given = p.given;
  wire = p.wire;
  offered = sym (ap (λ (l : List LinkAnswer). offers peer before l) (sym (append-nil p.given)) ∙ p.offered [] ∙ append-nil p.wire);
  trace = p.trace;
  sent = p.gone;
  told = λ x more. p.told x more;
  settled = inl refl;
  number = p.number;
  failed = p.failures;
  faults = rises peer p.given p.wire s m failed p.failures p.trace p.replies;
  taken = (let e = p.taken in let z = p.ready in omega arith);
  pending = (λ e. absurd (cc), λ e. absurd (let z = p.ready in omega arith));
  replies = p.replies;
  parcels = p.parcels;
  peers = p.peers;
}

pub polled_all : (peer : ℕ) (before after : List (List ℕ)) (count failed : ℕ) (s m : Meaning) (r : Flushed) → r ≡ record { pending = false; sent = count; failed = failed } → after ≡ [] → IsPolled peer before after count failed s m → Polls peer before r after s m
polled_all peer before after count failed s m r is none p =
    let P : Flushed → Type 0 = λ x. Polls peer before x after s m in
    let Q : List (List ℕ) → Type 0 = λ l. Polls peer before (record { pending = false; sent = count; failed = failed }) l s m in
    let R : List (List ℕ) → Type 0 = λ l. IsPolled peer before l count failed s m in
    subst P (sym is) (subst Q (sym none) (none_queued peer before count failed s m (subst R none p)))

-- the front of a queue, and the rest
pub front_of : {A : Type 0} (f : A → List ℕ) (items : List A) (x : A) → slice_get items 0 ≡ Some x → map f items ≡ f x ∷ map f (drop 1 items)
front_of f [] x e = absurd (cc)
front_of {A} f (y ∷ ys) x e = let same : y ≡ x = cc in ap (λ (z : A). f z ∷ map f ys) same

-- a datagram at the front of a buffer of 9,001 bytes
pub kept : (d buf : List ℕ) (n : ℕ) → IsAtFront d n buf → length buf ≡ 9001 → (n ≡ min (length d) 9001) × (take n buf ≡ take 9001 d)
kept d buf n at size =
    let count : n ≡ min 9001 (length d) = let e = at.count in omega arith in
    (let e = at.count in omega arith, at.bytes ∙ ap (λ (k : ℕ). take k d) count ∙ take_min 9001 d)

-- the call of a loop, in the loop's own words: the first of the items is offered
abbrev Offering : {A : Type 0} → (A → List ℕ) → ℕ → List (List ℕ) → List A → ℕ → ℕ → Meaning → Meaning → Type 0
Offering f peer before items count failed s m = IsPolled peer before (map f items) count failed s m

offered_first : {A : Type 0} (f : A → List ℕ) (peer mine : ℕ) (items : List A) (x : A) (bytes : List ℕ) (a : LinkAnswer) (m n : Meaning)
    → mine ≡ peer → bytes ≡ f x → Step m (OnWire (Offered (parcel mine bytes) a)) n → Step m (OnWire (Offered (parcel peer (f x)) a)) n
offered_first {A} f peer mine items x bytes a m n e b step =
    let P : ℕ → Type 0 = λ k. Step m (OnWire (Offered (parcel k (f x)) a)) n in
    let Q : List ℕ → Type 0 = λ l. Step m (OnWire (Offered (parcel mine l) a)) n in
    subst P e (subst Q b step)

pub sent_first : {A : Type 0} (f : A → List ℕ) (peer mine : ℕ) (before : List (List ℕ)) (items : List A) (x : A) (bytes : List ℕ) (count failed : ℕ) (s m n : Meaning)
    → mine ≡ peer → Some x ≡ slice_get items 0 → bytes ≡ f x → IsPolled peer before (map f items) count failed s m → Step m (OnWire (Offered (parcel mine bytes) Sent)) n → IsPolled peer before (map f (drop 1 items)) (count + 1) failed s n
sent_first f peer mine before items x bytes count failed s m n e first b p step =
    let R : List (List ℕ) → Type 0 = λ l. IsPolled peer before l count failed s m in
    polled_sent peer before (map f (drop 1 items)) (f x) count failed s m n (subst R (front_of f items x (sym first)) p) (offered_first f peer mine items x bytes Sent m n e b step)

pub failed_first : {A : Type 0} (f : A → List ℕ) (peer mine : ℕ) (before : List (List ℕ)) (items : List A) (x : A) (bytes : List ℕ) (count failed : ℕ) (s m n : Meaning)
    → mine ≡ peer → Some x ≡ slice_get items 0 → bytes ≡ f x → IsPolled peer before (map f items) count failed s m → Step m (OnWire (Offered (parcel mine bytes) Failed)) n → IsPolled peer before (map f (drop 1 items)) count (failed + 1) s n
failed_first f peer mine before items x bytes count failed s m n e first b p step =
    let R : List (List ℕ) → Type 0 = λ l. IsPolled peer before l count failed s m in
    polled_failed peer before (map f (drop 1 items)) (f x) count failed s m n (subst R (front_of f items x (sym first)) p) (offered_first f peer mine items x bytes Failed m n e b step)

pub not_ready_first : {A : Type 0} (f : A → List ℕ) (peer mine : ℕ) (before : List (List ℕ)) (items : List A) (x : A) (bytes : List ℕ) (count failed : ℕ) (s m n : Meaning)
    → mine ≡ peer → Some x ≡ slice_get items 0 → bytes ≡ f x → IsPolled peer before (map f items) count failed s m → Step m (OnWire (Offered (parcel mine bytes) NotReady)) n → Polls peer before (record { pending = true; sent = count; failed = failed }) (map f items) s n
not_ready_first f peer mine before items x bytes count failed s m n e first b p step =
    let R : List (List ℕ) → Type 0 = λ l. IsPolled peer before l count failed s m in
    let Q : List (List ℕ) → Type 0 = λ l. Polls peer before (record { pending = true; sent = count; failed = failed }) l s n in
    let same = front_of f items x (sym first) in
    subst Q (sym same) (polled_not_ready peer before (map f (drop 1 items)) (f x) count failed s m n (record { pending = true; sent = count; failed = failed }) refl (subst R same p) (offered_first f peer mine items x bytes NotReady m n e b step))

pub none_first : {A : Type 0} (f : A → List ℕ) (items : List A) → None ≡ slice_get items 0 → map f items ≡ []
none_first f [] e = refl
none_first f (x ∷ xs) e = absurd (cc)
