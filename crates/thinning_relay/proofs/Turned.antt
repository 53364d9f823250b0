-- All receivers in a turn.
use Rattle.std.proofs.Common.{◌≡◌, ◌≤◌, ◌<◌, ◌&&◌, ◌⊎◌, inl, inr, nat_le, ℕ, Bool, List, [], ◌∷◌, Option, Some, None, true, false, take, if◌then◌else◌, length, get_or, refl, sym, ◌∙◌, ap, subst, arith}
use Rattle.std.specs.List.{slice_get}
use Rattle.std.proofs.lemmas.Option.{slice_get_within}
use Rattle.std.proofs.lemmas.List.{take_all, length-take-le}
use Rattle.std.proofs.lemmas.Bool.Decides.{nat_tests}
use Rattle.wire_model.specs.RtpReading.{is_rtp}
use Rattle.wire_model.specs.PayloadReading.{is_payload}
use Rattle.wire_model.specs.Datagram.{is_well_formed, rtp_payload, datagram_of}
use Rattle.wire_model.specs.Receptions.{Reception, Arrived}
use Rattle.relay_model.specs.Relays.{given_by}
use Rattle.scl_outside.specs.Meaning.{Meaning}
use Rattle.scl_outside.specs.Events.{WireEvent, OnWire, Received}
use Rattle.scl_outside.specs.Steps.{Step}
use Rattle.scl_outside.specs.Effects.{answers, parcels}
use Rattle.polled_datagrams.specs.Offers.{answers_to, sent_to}
use Rattle.thinning_relay.specs.Receivers.{count_after, missed, queued, queue_after}
use Rattle.thinning_relay.specs.Numbered.{AreNumbered}
use Rattle.thinning_relay.specs.Flushing.{FlushesAll}
use Rattle.thinning_relay.specs.Passing.{PassesOn, PassedOn, SameButShare, IsKeptBySome, kept_of}
use Rattle.thinning_relay.specs.Relaying.{TakesIn, TurnsAll, TurnDoes, Turns, Flushes, ServedTurn, IsTurn, CountsReceived, arrived_count, refused_count, receivers_of}
use Rattle.thinning_relay.specs.declared.receiver.Receiver.{Receiver}
use Rattle.thinning_relay.specs.declared.relay.Turn.{Turn}
use Rattle.thinning_relay.specs.declared.relay.Turn.TheVariants as out
use Rattle.thinning_relay.specs.declared.relay.Relay.{Relay}
use Rattle.wire_model.specs.Thinning.{is_kept, is_within}
use Rattle.polled_datagrams.specs.Sending.{depth_of}
use Rattle.thinning_relay.specs.declared.relay.Received.TheVariants as which
use Rattle.polled_datagrams.proofs.Polling.{failure_counts}
use Rattle.thinning_relay.proofs.Flushing.{get_at}
use Rattle.thinning_relay.proofs.Turning.{turned_given}

-- an item of one list at a place of another of the same length
there : {A : Type 0} (xs ys : List A) (j : ℕ) (y : A) → length xs ≡ length ys → slice_get ys j ≡ Some y → slice_get xs j ≡ Some (get_or xs j y)
there xs ys j y e h = get_at xs j y (let w = slice_get_within ys j y h in omega arith)

pub numbered_passed : (given : Option (List ℕ)) (rs qs : List Receiver) → PassesOn given rs qs → AreNumbered rs → AreNumbered qs
numbered_passed given rs qs p numbered j q h =
    let r = get_or rs j q in
    let at : slice_get rs j ≡ Some r = there rs qs j q (sym p.count) h in
    (p.each j r q at h).keeps.queue.peer ∙ numbered j r at

pub numbered_flushed : (rs qs : List Receiver) (some : Bool) (s t : Meaning) → FlushesAll rs some qs s t → AreNumbered rs → AreNumbered qs
numbered_flushed rs qs some s t f numbered j q h =
    let r = get_or rs j q in
    let at : slice_get rs j ≡ Some r = there rs qs j q (sym f.count) h in
    (f.each j r q at h).keeps.queue.peer ∙ numbered j r at

pub numbered_same : (rs qs : List Receiver) → SameButShare rs qs → AreNumbered rs → AreNumbered qs
numbered_same rs qs f numbered j q h =
    let r = get_or rs j q in
    let at : slice_get rs j ≡ Some r = there rs qs j q (sym f.count) h in
    ap (λ (x : _). x.peer) (f.each j r q at h).queue ∙ numbered j r at

-- what came was passed on, and each receiver was flushed
pub turned_all : (got : Reception) (rs ms qs : List Receiver) (some : Bool) (m n : Meaning) (answer : Turn) → PassesOn (given_by got) rs ms → (f : FlushesAll ms some qs m n) → IsTurn got some answer → TurnsAll got rs qs answer f.wire
turned_all got rs ms qs some m n answer p f is = record {
  order = f.order;
  count = f.count ∙ p.count;
  each = each;
  others = λ j above. f.others j (let e = p.count in omega arith);
  answers = (let P : Bool → Type 0 = λ b. IsTurn got b answer in subst P f.moved is);
} where
  each : (j : ℕ) (a c : Receiver) → slice_get rs j ≡ Some a → slice_get qs j ≡ Some c → ServedTurn (given_by got) a c (answers_to j (answers f.wire)) (sent_to j (parcels f.wire))
  each j a c h k =
      let at : slice_get ms j ≡ Some (get_or ms j a) = there ms rs j a p.count h in
      turned_given (given_by got) a (get_or ms j a) c _ _ (p.each j a (get_or ms j a) h at) (f.each j (get_or ms j a) c at k)

pub relay_flushed : (r q : Relay) (some : Bool) (s t : Meaning) (ws : List Receiver) → FlushesAll (receivers_of r) some ws s t → receivers_of q ≡ ws → q.received ≡ r.received → q.refused ≡ r.refused → Flushes r some q s t
relay_flushed r q some s t ws f e received refused =
    let P : List Receiver → Type 0 = λ l. FlushesAll (receivers_of r) some l s t in
    record { flushed = subst P (sym e) f; received = received; refused = refused }

-- what a relay counted stays in a flush
counts_stay : (r m q : Relay) (got : Reception) → CountsReceived r got m → q.received ≡ m.received → q.refused ≡ m.refused → CountsReceived r got q
counts_stay r m q got c e f = record { received = e ∙ c.received; refused = f ∙ c.refused }

-- a turn that received and flushed
pub relay_turned : (r m q : Relay) (got : Reception) (answer : Turn) (some : Bool) (s n t : Meaning)
    → Step s (OnWire (Received got)) n → n.wire.peers ≡ s.wire.peers → CountsReceived r got m → PassesOn (given_by got) (receivers_of r) (receivers_of m) → Flushes m some q n t
    → IsTurn got some answer → ((wire : List WireEvent) → TurnsAll got (receivers_of r) (receivers_of q) answer wire → TurnDoes answer got (receivers_of r) (receivers_of q) wire) → Turns r answer q s t
relay_turned r m q got answer some s n t step peers counts p f is does = record {
  got = got;
  wire = f.flushed.wire;
  trace = (n, step, f.flushed.trace);
  does = does f.flushed.wire (turned_all got (receivers_of r) (receivers_of m) (receivers_of q) some n t answer p f.flushed is);
  counts = counts_stay r m q got counts f.received f.refused;
  causes = λ j. failure_counts j s t (Received got ∷ f.flushed.wire) (n, step, f.flushed.trace);
  peers = f.flushed.peers ∙ peers;
}

-- a call for a datagram changes no number of peers
pub received_peers : (s t : Meaning) (got : Reception) → Step s (OnWire (Received got)) t → t.wire.peers ≡ s.wire.peers
received_peers s t got step = let (m, w, k) = step.wire in (let e = w.peers in let f = k.peers in omega arith)

-- of a datagram of more than 9,000 bytes nothing is kept, nor of its front of 9,001 bytes
too_long : (limit : ℕ) (d : List ℕ) → 9000 < length d → is_kept limit d ≡ false
too_long limit d h = none (nat_le 1 (length d)) (nat_le (length d) 9000) (is_rtp d) (is_payload (rtp_payload d)) (is_within limit (datagram_of d).payload) (past (length d) h) where
  none : (a b c e f : Bool) → b ≡ false → ((((a && b) && c) && e) && f) ≡ false
  none false b c e f h = refl
  none true b c e f h = ap (λ (x : Bool). ((x && c) && e) && f) h

  past : (n : ℕ) → 9000 < n → nat_le n 9000 ≡ false
  past n h = grind (arith, nat_tests)

same_kept : (limit : ℕ) (d kept : List ℕ) → kept ≡ take 9001 d → kept_of limit (Some kept) ≡ kept_of limit (Some d)
same_kept limit d kept e = elim (within_or (length d)) [
  | inl short ↦ (let same : kept ≡ d = e ∙ take_all 9001 d (omega arith) in ap (λ (l : List ℕ). kept_of limit (Some l)) same)
  | inr long ↦ (
      let size : length kept ≡ 9001 = ap (λ (l : List ℕ). length l) e ∙ length-take-le 9001 d (omega arith) in
      none kept (too_long limit kept (omega arith)) ∙ sym (none d (too_long limit d long)))
] where
  within_or : (n : ℕ) → (n ≤ 9000) ⊎ (9000 < n)
  within_or n = grind (arith, nat_tests)

  none : (l : List ℕ) → is_kept limit l ≡ false → kept_of limit (Some l) ≡ None
  none l h = ap (λ (b : Bool). if b then Some l else None) h

-- nor is one of more than 9,000 bytes well formed
long_formed : (d : List ℕ) → 9000 < length d → is_well_formed d ≡ false
long_formed d h = none (nat_le 1 (length d)) (nat_le (length d) 9000) (is_rtp d) (is_payload (rtp_payload d)) (past (length d) h) where
  none : (a b c e : Bool) → b ≡ false → (((a && b) && c) && e) ≡ false
  none false b c e h = refl
  none true b c e h = ap (λ (x : Bool). (x && c) && e) h

  past : (n : ℕ) → 9000 < n → nat_le n 9000 ≡ false
  past n h = grind (arith, nat_tests)

same_formed : (d kept : List ℕ) → kept ≡ take 9001 d → is_well_formed kept ≡ is_well_formed d
same_formed d kept e = elim (within_or (length d)) [
  | inl short ↦ (let same : kept ≡ d = e ∙ take_all 9001 d (omega arith) in ap (λ (l : List ℕ). is_well_formed l) same)
  | inr long ↦ (
      let size : length kept ≡ 9001 = ap (λ (l : List ℕ). length l) e ∙ length-take-le 9001 d (omega arith) in
      long_formed kept (omega arith) ∙ sym (long_formed d long))
] where
  within_or : (n : ℕ) → (n ≤ 9000) ⊎ (9000 < n)
  within_or n = grind (arith, nat_tests)

longer : (rs ws : List Receiver) (d kept : List ℕ) → kept ≡ take 9001 d → PassesOn (Some kept) rs ws → PassesOn (Some d) rs ws
longer rs ws d kept e p = record { count = p.count; each = λ j r q h k. one r q (p.each j r q h k) } where
  one : (r q : Receiver) → PassedOn (Some kept) r q → PassedOn (Some d) r q
  one r q o = record {
    queue = o.queue ∙ ap (λ (x : Option (List ℕ)). queue_after (depth_of r.queue) x (queued r)) (same_kept r.limit d kept e);
    lost = o.lost ∙ ap (λ (x : Option (List ℕ)). count_after r.lost (missed (depth_of r.queue) x (queued r))) (same_kept r.limit d kept e);
    sent = o.sent;
    failed = o.failed;
    keeps = o.keeps;
  }

-- what some limit keeps of a datagram's first 9,001 bytes it keeps of the datagram
wanted_whole : (rs : List Receiver) (d kept : List ℕ) → kept ≡ take 9001 d → IsKeptBySome kept rs → IsKeptBySome d rs
wanted_whole rs d kept e (j, r, there, is) = (j, r, there, by_test (is_kept r.limit d) refl) where
  by_test : (b : Bool) → is_kept r.limit d ≡ b → is_kept r.limit d ≡ true
  by_test true f = f
  by_test false f =
      let had : kept_of r.limit (Some kept) ≡ Some kept = ap (λ (b : Bool). if b then Some kept else None) is in
      let none : kept_of r.limit (Some d) ≡ None = ap (λ (b : Bool). if b then Some d else None) f in
      let bad : Some kept ≡ None = sym had ∙ (same_kept r.limit d kept e ∙ none) in
      absurd (cc)

none_refused : (d : List ℕ) (n : ℕ) → is_well_formed d ≡ true → count_after n (refused_count (Arrived d)) ≡ n
none_refused d n e = rw e (let h : count_after n 0 ≡ n = omega arith in h)

one_refused : (d : List ℕ) (n : ℕ) → is_well_formed d ≡ false → count_after n (refused_count (Arrived d)) ≡ count_after n 1
one_refused d n e = rw e refl

-- what a relay counts of a datagram that it took in
pub kept_counts : (r q : Relay) (d kept : List ℕ) → kept ≡ take 9001 d → is_well_formed kept ≡ true → q.received ≡ count_after r.received 1 → q.refused ≡ r.refused → CountsReceived r (Arrived d) q
kept_counts r q d kept e formed received refused = record { received = received; refused = refused ∙ sym (none_refused d r.refused (sym (same_formed d kept e) ∙ formed)) }

pub refused_counts : (r q : Relay) (d kept : List ℕ) → kept ≡ take 9001 d → is_well_formed kept ≡ false → q.received ≡ count_after r.received 1 → q.refused ≡ count_after r.refused 1 → CountsReceived r (Arrived d) q
refused_counts r q d kept e formed received refused = record { received = received; refused = refused ∙ sym (one_refused d r.refused (sym (same_formed d kept e) ∙ formed)) }

-- and where nothing came
pub nothing_counts : (r q : Relay) (got : Reception) → arrived_count got ≡ 0 → refused_count got ≡ 0 → q.received ≡ r.received → q.refused ≡ r.refused → CountsReceived r got q
nothing_counts r q got a b received refused = record { received = received ∙ rw a (let h : r.received ≡ count_after r.received 0 = omega arith in h); refused = refused ∙ rw b (let h : r.refused ≡ count_after r.refused 0 = omega arith in h) }

-- a relay that passed a datagram on
pub took_in : (r q : Relay) (d kept : List ℕ) (s t : Meaning) (ws : List Receiver) → Step s (OnWire (Received (Arrived d))) t → kept ≡ take 9001 d → PassesOn (Some kept) (receivers_of r) ws → receivers_of q ≡ ws
    → CountsReceived r (Arrived d) q → TakesIn r which.Datagram q s t
took_in r q d kept s t ws step e p same counts =
    let P : List Receiver → Type 0 = λ l. PassesOn (Some d) (receivers_of r) l in
    let C : List Receiver → Type 0 = λ l. length l ≡ length (receivers_of r) in
    let whole : PassesOn (Some d) (receivers_of r) ws = longer (receivers_of r) ws d kept e p in record {
      got = Arrived d;
      is = (d, refl);
      step = step;
      counts = counts;
      passes = subst P (sym same) whole;
      count = subst C (sym same) whole.count;
      peers = received_peers s t (Arrived d) step;
    }

pub took_none : (r q : Relay) (d kept : List ℕ) (s t : Meaning) (ws : List Receiver) → Step s (OnWire (Received (Arrived d))) t → kept ≡ take 9001 d → IsKeptBySome kept (receivers_of r) × SameButShare (receivers_of r) ws → receivers_of q ≡ ws
    → CountsReceived r (Arrived d) q → TakesIn r which.NoMemory q s t
took_none r q d kept s t ws step e f same counts =
    let P : List Receiver → Type 0 = λ l. SameButShare (receivers_of r) l in
    let C : List Receiver → Type 0 = λ l. length l ≡ length (receivers_of r) in record {
      got = Arrived d;
      is = (d, refl);
      step = step;
      counts = counts;
      passes = ((d, refl, wanted_whole (receivers_of r) d kept e f.0), subst P (sym same) f.1);
      count = subst C (sym same) f.1.count;
      peers = received_peers s t (Arrived d) step;
    }

-- the receivers keep their numbers
pub numbered_in : (given : Option (List ℕ)) (rs ws qs : List Receiver) → PassesOn given rs ws → qs ≡ ws → AreNumbered rs → AreNumbered qs
numbered_in given rs ws qs p e n = let Q : List Receiver → Type 0 = λ l. AreNumbered l in subst Q (sym e) (numbered_passed given rs ws p n)

pub numbered_none : (rs ws qs : List Receiver) → SameButShare rs ws → qs ≡ ws → AreNumbered rs → AreNumbered qs
numbered_none rs ws qs p e n = let Q : List Receiver → Type 0 = λ l. AreNumbered l in subst Q (sym e) (numbered_same rs ws p n)

pub numbered_after : (rs ws qs : List Receiver) (some : Bool) (s t : Meaning) → FlushesAll rs some ws s t → qs ≡ ws → AreNumbered rs → AreNumbered qs
numbered_after rs ws qs some s t f e n = let Q : List Receiver → Type 0 = λ l. AreNumbered l in subst Q (sym e) (numbered_flushed rs ws some s t f n)

-- a turn without memory
pub turn_none : (r q : Relay) (s t : Meaning) → TakesIn r which.NoMemory q s t → Turns r out.NoMemory q s t
turn_none r q s t h = record {
  got = h.got;
  wire = [];
  trace = (t, h.step, refl);
  does = record { came = h.passes.0; nothing = refl; same = h.passes.1 };
  counts = h.counts;
  causes = λ j. failure_counts j s t (Received h.got ∷ []) (t, h.step, refl);
  peers = h.peers;
}

-- the answers of a turn
pub turn_failed : (r m q : Relay) (some : Bool) (s n t : Meaning) → TakesIn r which.Failed m s n → Flushes m some q n t → Turns r out.Failed q s t
turn_failed r m q some s n t h f = let P : Reception → Type 0 = λ x. IsTurn x some out.Failed in relay_turned r m q h.got out.Failed some s n t h.step h.peers h.counts h.passes f (subst P (sym h.is) refl) (λ wire x. x)

pub turn_ended : (r m q : Relay) (some : Bool) (s n t : Meaning) → TakesIn r which.Ended m s n → Flushes m some q n t → Turns r out.Ended q s t
turn_ended r m q some s n t h f = let P : Reception → Type 0 = λ x. IsTurn x some out.Ended in relay_turned r m q h.got out.Ended some s n t h.step h.peers h.counts h.passes f (subst P (sym h.is) refl) (λ wire x. x)

pub turn_given : (r m q : Relay) (some : Bool) (s n t : Meaning) → TakesIn r which.Datagram m s n → Flushes m some q n t → Turns r out.Moved q s t
turn_given r m q some s n t h f = let P : Reception → Type 0 = λ x. IsTurn x some out.Moved in relay_turned r m q h.got out.Moved some s n t h.step h.peers h.counts h.passes f (subst P (sym h.is.1) refl) (λ wire x. x)

pub turn_nothing : (r m q : Relay) (some : Bool) (s n t : Meaning) (answer : Turn) → answer ≡ (if some then out.Moved else out.Idle) → TakesIn r which.Nothing m s n → Flushes m some q n t → Turns r answer q s t
turn_nothing r m q some s n t answer e h f = let P : Reception → Type 0 = λ x. IsTurn x some answer in relay_turned r m q h.got answer some s n t h.step h.peers h.counts h.passes f (subst P (sym h.is) e) (does some answer e) where
  does : (b : Bool) (a : Turn) → a ≡ (if b then out.Moved else out.Idle) → (wire : List WireEvent) → TurnsAll h.got (receivers_of r) (receivers_of q) a wire → TurnDoes a h.got (receivers_of r) (receivers_of q) wire
  does b out.Moved e wire x = x
  does b out.Idle e wire x = x
  does b out.Failed e wire x = x
  does b out.Ended e wire x = x
  does true out.NoMemory e wire x = absurd (cc)
  does false out.NoMemory e wire x = absurd (cc)
