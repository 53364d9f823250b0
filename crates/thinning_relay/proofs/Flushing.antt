-- Receivers that are flushed one after another.
use Rattle.std.proofs.Common.{◌≡◌, ◌≤◌, ◌<◌, ◌+◌, ◌++◌, ◌||◌, ◌&&◌, ◌⊎◌, inl, inr, ◌==◌, ℕ, Bool, true, false, List, [], ◌∷◌, Some, length, nat_lt, nat_le, get_or, zero, suc, refl, sym, ◌∙◌, ap, subst, arith, set, if◌then◌else◌}
use Rattle.std.specs.List.{slice_get}
use Rattle.std.proofs.lemmas.List.{append-nil}
use Rattle.std.proofs.lemmas.List.Concat.{flat_map-append}
use Rattle.std.proofs.lemmas.Bool.{ne_eqb, eq-eqb}
use Rattle.std.proofs.lemmas.Bool.Decides.{eqb_tells, nat_tests}
use Rattle.std.proofs.lemmas.Option.{slice_get_within}
use Rattle.wire_model.specs.LinkAnswers.{LinkAnswer, Sent, NotReady, Failed}
use Rattle.relay_model.specs.Relays.{not_ready_count}
use Rattle.scl_outside.specs.Meaning.{Meaning, Parcel, Reply}
use Rattle.scl_outside.specs.Events.{WireEvent, answers_by, parcels_by}
use Rattle.scl_outside.specs.Effects.{answers, parcels}
use Rattle.scl_outside.specs.Traces.{Trace}
use Rattle.scl_outside.proofs.Traces.{trace_join}
use Rattle.scl_outside.specs.Events.{Offered, Received, Bound, Joined}
use Rattle.polled_datagrams.specs.Offers.{on_wire, offers, answers_to, sent_to, replies_of, parcels_of}
use Rattle.polled_datagrams.proofs.Polling.{on_wire-append, answers_own, failure_counts}
use Rattle.thinning_relay.specs.Receivers.{Served, FlushesOne, any_moved, queued}
use Rattle.thinning_relay.specs.Numbered.{AreNumbered}
use Rattle.thinning_relay.specs.Flushing.{FlushesAll, links, offers_in_order}
use Rattle.thinning_relay.specs.declared.receiver.Receiver.{Receiver}

is_same : (j : ℕ) → (j == j) ≡ true
is_same j = eq-eqb j j refl

is_other : (k j : ℕ) → (k ≡ j → ⊥) → (k == j) ≡ false
is_other k j n = ne_eqb k j n

-- a list with one item changed, at its place and elsewhere
pub get-set_same : {A : Type 0} (xs : List A) (i : ℕ) (w : A) → i < length xs → slice_get (set xs i w) i ≡ Some w
get-set_same [] i w h = absurd (omega arith)
get-set_same (x ∷ xs) zero w h = refl
get-set_same (x ∷ xs) (suc i) w h = get-set_same xs i w (omega arith)

pub get-set_other : {A : Type 0} (xs : List A) (i j : ℕ) (w : A) → (j ≡ i → ⊥) → slice_get (set xs i w) j ≡ slice_get xs j
get-set_other [] i j w n = refl
get-set_other (x ∷ xs) zero zero w n = absurd (n refl)
get-set_other (x ∷ xs) zero (suc j) w n = refl
get-set_other (x ∷ xs) (suc i) zero w n = refl
get-set_other (x ∷ xs) (suc i) (suc j) w n = get-set_other xs i j w (λ e. n (ap (λ (k : ℕ). suc k) e))

pub get_at : {A : Type 0} (xs : List A) (i : ℕ) (d : A) → i < length xs → slice_get xs i ≡ Some (get_or xs i d)
get_at [] i d h = absurd (omega arith)
get_at (x ∷ xs) zero d h = refl
get_at (x ∷ xs) (suc i) d h = get_at xs i d (omega arith)

-- what one link answered, of answers and others
pub answers_to-append : (j : ℕ) (xs ys : List Reply) → answers_to j (xs ++ ys) ≡ answers_to j xs ++ answers_to j ys
answers_to-append j [] ys = refl
answers_to-append j (x ∷ xs) ys = elim (x.peer == j) as (λ b. (if b then x.answer ∷ answers_to j (xs ++ ys) else answers_to j (xs ++ ys)) ≡ (if b then x.answer ∷ answers_to j xs else answers_to j xs) ++ answers_to j ys) [
  | true ↦ ap (λ (l : List LinkAnswer). x.answer ∷ l) (answers_to-append j xs ys)
  | false ↦ answers_to-append j xs ys
]

pub sent_to-append : (j : ℕ) (xs ys : List Parcel) → sent_to j (xs ++ ys) ≡ sent_to j xs ++ sent_to j ys
sent_to-append j [] ys = refl
sent_to-append j (x ∷ xs) ys = elim (x.peer == j) as (λ b. (if b then x.bytes ∷ sent_to j (xs ++ ys) else sent_to j (xs ++ ys)) ≡ (if b then x.bytes ∷ sent_to j xs else sent_to j xs) ++ sent_to j ys) [
  | true ↦ ap (λ (l : List (List ℕ)). x.bytes ∷ l) (sent_to-append j xs ys)
  | false ↦ sent_to-append j xs ys
]

-- its own, and those of another
answers_other : (k j : ℕ) (given : List LinkAnswer) → (k ≡ j → ⊥) → answers_to j (replies_of k given) ≡ []
answers_other k j [] n = refl
answers_other k j (a ∷ given) n = rw (is_other k j n) (answers_other k j given n)

sent_own : (j : ℕ) (sent : List (List ℕ)) → sent_to j (parcels_of j sent) ≡ sent
sent_own j [] = refl
sent_own j (d ∷ sent) = rw (is_same j) (ap (λ (l : List (List ℕ)). d ∷ l) (sent_own j sent))

sent_other : (k j : ℕ) (sent : List (List ℕ)) → (k ≡ j → ⊥) → sent_to j (parcels_of k sent) ≡ []
sent_other k j [] n = refl
sent_other k j (d ∷ sent) n = rw (is_other k j n) (sent_other k j sent n)

links-append : (xs ys : List Reply) → links (xs ++ ys) ≡ links xs ++ links ys
links-append [] ys = refl
links-append (x ∷ xs) ys = ap (λ (l : List LinkAnswer). x.answer ∷ l) (links-append xs ys)

links_own : (j : ℕ) (given : List LinkAnswer) → links (replies_of j given) ≡ given
links_own j [] = refl
links_own j (a ∷ given) = ap (λ (l : List LinkAnswer). a ∷ l) (links_own j given)

pub moved-append : (xs ys : List LinkAnswer) → any_moved (xs ++ ys) ≡ (any_moved xs || any_moved ys)
moved-append [] ys = refl
moved-append (Sent ∷ xs) ys = refl
moved-append (Failed ∷ xs) ys = refl
moved-append (NotReady ∷ xs) ys = moved-append xs ys

-- each of these calls offers a datagram to a peer below this one
abbrev is_below : ℕ → List WireEvent → Bool
is_below i [] = true
is_below i (Offered p a ∷ ws) = nat_lt p.peer i && is_below i ws
is_below i (w ∷ ws) = false

both : (a b : Bool) → (a && b) ≡ true → (a ≡ true) × (b ≡ true)
both true b e = (refl, e)
both false b e = absurd (cc)

is_less : (a b : ℕ) → nat_lt a b ≡ true → a < b
is_less a b e = grind (arith, nat_tests)

less_is : (a b : ℕ) → a < b → nat_lt a b ≡ true
less_is a b h = grind (arith, nat_tests)

is_least : (a b : ℕ) → nat_le a b ≡ true → a ≤ b
is_least a b e = grind (arith, nat_tests)

least_is : (a b : ℕ) → a ≤ b → nat_le a b ≡ true
least_is a b h = grind (arith, nat_tests)

order_lower : (a i : ℕ) (ws : List WireEvent) → a ≤ i → offers_in_order i ws ≡ true → offers_in_order a ws ≡ true
order_lower a i [] h e = refl
order_lower a i (Offered p x ∷ ws) h e =
    let b = both (nat_le i p.peer) (offers_in_order p.peer ws) e in
    let k = is_least i p.peer b.0 in
    rw (least_is a p.peer (omega arith)) b.1
order_lower a i (Received r ∷ ws) h e = absurd (cc)
order_lower a i (Bound t d ∷ ws) h e = absurd (cc)
order_lower a i (Joined t d ∷ ws) h e = absurd (cc)

-- calls in order, and then those to a peer above all of theirs
order_append : (a i : ℕ) (ws vs : List WireEvent) → a ≤ i → offers_in_order a ws ≡ true → is_below i ws ≡ true → offers_in_order i vs ≡ true → offers_in_order a (ws ++ vs) ≡ true
order_append a i [] vs h e below f = order_lower a i vs h f
order_append a i (Offered p x ∷ ws) vs h e below f =
    let b = both (nat_le a p.peer) (offers_in_order p.peer ws) e in
    let c = both (nat_lt p.peer i) (is_below i ws) below in
    let k = is_less p.peer i c.0 in
    rw b.0 (order_append p.peer i ws vs (omega arith) b.1 c.1 f)
order_append a i (Received r ∷ ws) vs h e below f = absurd (cc)
order_append a i (Bound t d ∷ ws) vs h e below f = absurd (cc)
order_append a i (Joined t d ∷ ws) vs h e below f = absurd (cc)

below_append : (i : ℕ) (ws vs : List WireEvent) → is_below i ws ≡ true → is_below (i + 1) vs ≡ true → is_below (i + 1) (ws ++ vs) ≡ true
below_append i [] vs e f = f
below_append i (Offered p x ∷ ws) vs e f =
    let c = both (nat_lt p.peer i) (is_below i ws) e in
    let k = is_less p.peer i c.0 in
    rw (less_is p.peer (i + 1) (omega arith)) (below_append i ws vs c.1 f)
below_append i (Received r ∷ ws) vs e f = absurd (cc)
below_append i (Bound t d ∷ ws) vs e f = absurd (cc)
below_append i (Joined t d ∷ ws) vs e f = absurd (cc)

-- the calls of one poll
offers_ordered : (peer : ℕ) (q : List (List ℕ)) (given : List LinkAnswer) → offers_in_order peer (offers peer q given) ≡ true
offers_ordered peer [] given = refl
offers_ordered peer (d ∷ q) [] = refl
offers_ordered peer (d ∷ q) (Sent ∷ given) = rw (least_is peer peer (omega arith)) (offers_ordered peer q given)
offers_ordered peer (d ∷ q) (Failed ∷ given) = rw (least_is peer peer (omega arith)) (offers_ordered peer q given)
offers_ordered peer (d ∷ q) (NotReady ∷ given) = rw (least_is peer peer (omega arith)) refl

offers_below : (peer : ℕ) (q : List (List ℕ)) (given : List LinkAnswer) → is_below (peer + 1) (offers peer q given) ≡ true
offers_below peer [] given = refl
offers_below peer (d ∷ q) [] = refl
offers_below peer (d ∷ q) (Sent ∷ given) = rw (less_is peer (peer + 1) (omega arith)) (offers_below peer q given)
offers_below peer (d ∷ q) (Failed ∷ given) = rw (less_is peer (peer + 1) (omega arith)) (offers_below peer q given)
offers_below peer (d ∷ q) (NotReady ∷ given) = rw (less_is peer (peer + 1) (omega arith)) refl

-- the first of the receivers were flushed, and the others weren't
pub record Flushing (i : ℕ) (rs : List Receiver) (some : Bool) (qs : List Receiver) (s m : Meaning) : Type 0 where
  pub wire : List WireEvent
  pub trace : Trace s (on_wire wire) m
  pub order : offers_in_order 0 wire ≡ true
  pub below : is_below i wire ≡ true
  pub each : (j : ℕ) → j < i → (r q : Receiver) → slice_get rs j ≡ Some r → slice_get qs j ≡ Some q → Served r q (answers_to j (answers wire)) (sent_to j (parcels wire))
  pub others : (j : ℕ) → i ≤ j → (answers_to j (answers wire) ≡ []) × (sent_to j (parcels wire) ≡ [])
  pub same : (j : ℕ) → i ≤ j → slice_get qs j ≡ slice_get rs j
  pub peers : m.wire.peers ≡ s.wire.peers
  pub moved : some ≡ any_moved (links (answers wire))

pub flushing_none : (rs : List Receiver) (s : Meaning) → Flushing 0 rs false rs s s
flushing_none rs s = record {
  wire = [];
  trace = refl;
  order = refl;
  below = refl;
  each = λ j below. absurd (omega arith);
  others = λ j above. (refl, refl);
  same = λ j above. refl;
  peers = refl;
  moved = refl;
}

pub at_or_below : (j i : ℕ) → j < i + 1 → (j ≡ i) ⊎ (j < i)
at_or_below j i h = elim (eqb_tells j i) [ inl e ↦ inl e.1 | inr e ↦ inr (let n = e.1 in omega arith) ]

-- the calls for one more
module _ (i : ℕ) (wire mine : List WireEvent) (given : List LinkAnswer) (sent : List (List ℕ)) (replies : answers mine ≡ replies_of i given) (sends : parcels mine ≡ parcels_of i sent) where
  more_answers : (j : ℕ) → answers_to j (answers (wire ++ mine)) ≡ answers_to j (answers wire) ++ answers_to j (replies_of i given)
  more_answers j = ap (λ (l : List Reply). answers_to j l) (flat_map-append answers_by wire mine ∙ ap (λ (l : List Reply). answers wire ++ l) replies) ∙ answers_to-append j (answers wire) (replies_of i given)

  more_sent : (j : ℕ) → sent_to j (parcels (wire ++ mine)) ≡ sent_to j (parcels wire) ++ sent_to j (parcels_of i sent)
  more_sent j = ap (λ (l : List Parcel). sent_to j l) (flat_map-append parcels_by wire mine ∙ ap (λ (l : List Parcel). parcels wire ++ l) sends) ∙ sent_to-append j (parcels wire) (parcels_of i sent)

  other_answers : (j : ℕ) → (i ≡ j → ⊥) → answers_to j (answers (wire ++ mine)) ≡ answers_to j (answers wire)
  other_answers j n = more_answers j ∙ ap (λ (l : List LinkAnswer). answers_to j (answers wire) ++ l) (answers_other i j given n) ∙ append-nil (answers_to j (answers wire))

  other_sent : (j : ℕ) → (i ≡ j → ⊥) → sent_to j (parcels (wire ++ mine)) ≡ sent_to j (parcels wire)
  other_sent j n = more_sent j ∙ ap (λ (l : List (List ℕ)). sent_to j (parcels wire) ++ l) (sent_other i j sent n) ∙ append-nil (sent_to j (parcels wire))

  own_answers : answers_to i (answers wire) ≡ [] → answers_to i (answers (wire ++ mine)) ≡ given
  own_answers e = more_answers i ∙ ap (λ (l : List LinkAnswer). l ++ answers_to i (replies_of i given)) e ∙ answers_own i given

  own_sent : sent_to i (parcels wire) ≡ [] → sent_to i (parcels (wire ++ mine)) ≡ sent
  own_sent e = more_sent i ∙ ap (λ (l : List (List ℕ)). l ++ sent_to i (parcels_of i sent)) e ∙ sent_own i sent

pub flushing_more : (i : ℕ) (rs qs : List Receiver) (moved b : Bool) (r q : Receiver) (s m n : Meaning)
    → AreNumbered rs → i < length qs → slice_get qs i ≡ Some r → Flushing i rs moved qs s m → FlushesOne r b q m n → Flushing (i + 1) rs (moved || b) (set qs i q) s n
flushing_more i rs qs moved b r q s m n numbered within at f one = record {
  wire = f.wire ++ one.wire;
  trace = rw (on_wire-append f.wire one.wire) (trace_join s m n (on_wire f.wire) (on_wire one.wire) f.trace one.trace);
  order = order_append 0 i f.wire one.wire (omega arith) f.order f.below (rw mine_offered (offers_ordered i q_before one.given));
  below = below_append i f.wire one.wire f.below (rw mine_offered (offers_below i q_before one.given));
  each = each;
  others = λ j above. (other_answers i f.wire one.wire one.given one.sent replies sends j (λ e. omega arith) ∙ (f.others j (omega arith)).0, other_sent i f.wire one.wire one.given one.sent replies sends j (λ e. omega arith) ∙ (f.others j (omega arith)).1);
  same = λ j above. (get-set_other qs i j q (λ e. omega arith) ∙ f.same j (omega arith));
  peers = one.peers ∙ f.peers;
  moved = moves;
} where
  mine : r.queue.peer ≡ i
  mine = numbered i r (sym (f.same i (omega arith)) ∙ at)

  q_before : List (List ℕ)
  q_before = queued r

  mine_offered : one.wire ≡ offers i q_before one.given
  mine_offered = one.offered ∙ ap (λ (k : ℕ). offers k q_before one.given) mine

  replies : answers one.wire ≡ replies_of i one.given
  replies = one.replies ∙ ap (λ (k : ℕ). replies_of k one.given) mine

  sends : parcels one.wire ≡ parcels_of i one.sent
  sends = one.parcels ∙ ap (λ (k : ℕ). parcels_of k one.sent) mine

  own : (j : ℕ) → j ≡ i → (a c : Receiver) → slice_get rs j ≡ Some a → slice_get (set qs i q) j ≡ Some c → Served a c (answers_to j (answers (f.wire ++ one.wire))) (sent_to j (parcels (f.wire ++ one.wire)))
  own j e a c h k =
      let none = f.others i (omega arith) in
      let O : ℕ → Type 0 = λ x. slice_get rs x ≡ Some a in
      let K : ℕ → Type 0 = λ x. slice_get (set qs i q) x ≡ Some c in
      let h' : slice_get rs i ≡ Some a = subst O e h in
      let k' : slice_get (set qs i q) i ≡ Some c = subst K e k in
      let same_a : Some r ≡ Some a = sym at ∙ (f.same i (omega arith) ∙ h') in
      let same_c : Some q ≡ Some c = sym (get-set_same qs i q within) ∙ k' in
      let ra : r ≡ a = cc in
      let qc : q ≡ c = cc in
      let P : ℕ → Type 0 = λ x. Served a c (answers_to x (answers (f.wire ++ one.wire))) (sent_to x (parcels (f.wire ++ one.wire))) in
      let A : Receiver → Type 0 = λ x. Served x c (answers_to i (answers (f.wire ++ one.wire))) (sent_to i (parcels (f.wire ++ one.wire))) in
      let C : Receiver → Type 0 = λ x. Served r x (answers_to i (answers (f.wire ++ one.wire))) (sent_to i (parcels (f.wire ++ one.wire))) in
      let G : List LinkAnswer → Type 0 = λ l. Served r q l (sent_to i (parcels (f.wire ++ one.wire))) in
      let S : List (List ℕ) → Type 0 = λ l. Served r q one.given l in
      subst P (sym e) (subst A ra (subst C qc
      (subst G (sym (own_answers i f.wire one.wire one.given one.sent replies sends none.0))
      (subst S (sym (own_sent i f.wire one.wire one.given one.sent replies sends none.1)) one.served))))

  each : (j : ℕ) → j < i + 1 → (a c : Receiver) → slice_get rs j ≡ Some a → slice_get (set qs i q) j ≡ Some c → Served a c (answers_to j (answers (f.wire ++ one.wire))) (sent_to j (parcels (f.wire ++ one.wire)))
  each j below a c h k = elim (at_or_below j i below) [
    | inl e ↦ own j e a c h k
    | inr e ↦ (
        let P : List LinkAnswer → Type 0 = λ l. Served a c l (sent_to j (parcels (f.wire ++ one.wire))) in
        let Q : List (List ℕ) → Type 0 = λ l. Served a c (answers_to j (answers f.wire)) l in
        subst P (sym (other_answers i f.wire one.wire one.given one.sent replies sends j (λ x. omega arith)))
        (subst Q (sym (other_sent i f.wire one.wire one.given one.sent replies sends j (λ x. omega arith)))
        (f.each j e a c h (sym (get-set_other qs i j q (λ x. omega arith)) ∙ k))))
  ]

  moves : (moved || b) ≡ any_moved (links (answers (f.wire ++ one.wire)))
  moves = sym (
      ap (λ (l : List Reply). any_moved (links l)) (flat_map-append answers_by f.wire one.wire ∙ ap (λ (l : List Reply). answers f.wire ++ l) replies)
      ∙ ap (λ (l : List LinkAnswer). any_moved l) (links-append (answers f.wire) (replies_of i one.given) ∙ ap (λ (l : List LinkAnswer). links (answers f.wire) ++ l) (links_own i one.given))
      ∙ moved-append (links (answers f.wire)) one.given
      ∙ ap (λ (x : Bool). x || any_moved one.given) (sym f.moved)
      ∙ ap (λ (x : Bool). moved || x) (sym one.moved))

pub flushed : (rs qs : List Receiver) (moved : Bool) (s m : Meaning) → length qs ≡ length rs → Flushing (length rs) rs moved qs s m → FlushesAll rs moved qs s m
flushed rs qs moved s m size f = record {
  wire = f.wire;
  trace = f.trace;
  order = f.order;
  causes = λ j. failure_counts j s m f.wire f.trace;
  count = size;
  each = λ j r q h k. f.each j (slice_get_within rs j r h) r q h k;
  others = f.others;
  peers = f.peers;
  moved = f.moved;
}

-- a datagram was sent or failed where not all answers were that the link wasn't ready
not_ready_most : (given : List LinkAnswer) → not_ready_count given ≤ length given
not_ready_most [] = omega arith
not_ready_most (NotReady ∷ given) = let e = not_ready_most given in omega arith
not_ready_most (Sent ∷ given) = let e = not_ready_most given in omega arith
not_ready_most (Failed ∷ given) = let e = not_ready_most given in omega arith

pub some_moved : (given : List LinkAnswer) (sent failed : ℕ) (b : Bool) → length given ≡ sent + failed + not_ready_count given → b ≡ nat_lt 0 (sent + failed) → b ≡ any_moved given
some_moved [] sent failed b e is = is ∙ grind (arith, nat_tests)
some_moved (NotReady ∷ given) sent failed b e is = some_moved given sent failed b (omega arith) is
some_moved (Sent ∷ given) sent failed b e is = let most = not_ready_most given in is ∙ grind (arith, nat_tests)
some_moved (Failed ∷ given) sent failed b e is = let most = not_ready_most given in is ∙ grind (arith, nat_tests)
