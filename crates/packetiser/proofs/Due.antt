-- The datagrams of what a sender knows, and those that the bytes read fix.
use Rattle.std.proofs.Common.{◌≡◌, ◌<◌, ◌≤◌, ℕ, zero, suc, List, [], ◌∷◌, ◌++◌, map, length, take, refl, sym, subst, ap, ◌∙◌, inl, inr, arith}
use Rattle.std.specs.Prelude.{nat_le, false}
use Rattle.std.specs.List.{AllByRecursion}
use Rattle.std.proofs.lemmas.Bool.{le-leb}
use Rattle.std.proofs.lemmas.List.{append-nil, take_all, map-append}
use Rattle.wire_model.specs.Datagram.{Datagram}
use Rattle.codestream_model.specs.Bytes.{IsBytes}
use Rattle.stream_model.specs.Stream.{Parts}
use Rattle.stream_model.specs.Cut.{Plan, Known, room, known_of, datagrams_by, datagram_bytes, sendable}
use Rattle.stream_model.proofs.GrownDatagrams.{Begins, datagrams_placed, Follows, known_front, sent_with}
use Rattle.sender_model.specs.Closing.{due_by, closed}
use Rattle.sender_model.proofs.ClosedComputed.{Computed, computed, both_fronts}
use Rattle.sender_model.proofs.Refused.{FitsKnown}
use Rattle.packetiser.proofs.CodestreamsGrow.{AreThere, HaveGrown, have_grown}

-- what is computed is there
pub computed_there : (bytes : List ℕ) (r : Computed 65536 bytes) → AreThere bytes r.parts r.next
computed_there bytes r = record { codestreams = r.codestreams; rest = r.rest; whole = r.whole; are_parts = r.are; few = r.few; is_next = r.is_next }

-- the datagrams of what is there of bytes are the first of those of more bytes
front_of : (p : Plan) (parts later : List Parts) (next now : List Known) → 1 ≤ room p → HaveGrown parts next later now → Begins (datagrams_by p (sendable p (map known_of parts ++ next))) (datagrams_by p (sendable p (map known_of later ++ now)))
front_of p parts later next now some g =
    let k = known_front p 0 0 (map known_of parts) next g.back some g.follows in
    let was = datagrams_placed p (sendable p (map known_of parts ++ next)) in
    let is = ap (λ l. datagrams_by p (sendable p l)) g.whole ∙ datagrams_placed p (sendable p (map known_of parts ++ g.back)) in
    (k.0, is ∙ (k.1 ∙ ap (λ l. l ++ k.0) (sym was)))

-- what is there of bytes fixes the first datagrams of more bytes
pub due_begins : (p : Plan) (bytes more : List ℕ) (parts : List Parts) (next : List Known) → 1 ≤ room p → IsBytes (bytes ++ more) → AreThere bytes parts next → Begins (datagrams_by p (sendable p (map known_of parts ++ next))) (due_by p (bytes ++ more))
due_begins p bytes more parts next some fits a =
    let r = computed 65536 (bytes ++ more) fits in
    let f = front_of p parts r.parts next r.next some (have_grown bytes more parts r.parts next r.next a (computed_there (bytes ++ more) r)) in
    (f.0, ap (λ l. datagrams_by p (sendable p l)) r.is_known ∙ f.1)

-- and all those of the bytes themselves
pub due_is : (p : Plan) (bytes : List ℕ) (parts : List Parts) (next : List Known) → 1 ≤ room p → IsBytes bytes → AreThere bytes parts next → due_by p bytes ≡ datagrams_by p (sendable p (map known_of parts ++ next))
due_is p bytes parts next some fits a =
    let r = computed 65536 bytes fits in
    let A : List ℕ → Type 0 = λ l. AreThere l parts next in
    let B : List ℕ → Type 0 = λ l. AreThere l r.parts r.next in
    let b = computed_there bytes r in
    let forth = front_of p parts r.parts next r.next some (have_grown bytes [] parts r.parts next r.next a (subst B (sym (append-nil bytes)) b)) in
    let back = front_of p r.parts parts r.next next some (have_grown bytes [] r.parts parts r.next next b (subst A (sym (append-nil bytes)) a)) in
    ap (λ l. datagrams_by p (sendable p l)) r.is_known ∙ both_fronts (datagrams_by p (sendable p (map known_of r.parts ++ r.next))) (datagrams_by p (sendable p (map known_of parts ++ next))) back.0 forth.0 back.1 forth.1

-- nothing is sent from the first main header on that is too long
long_ends : (p : Plan) (ks : List Known) (d : Known) (more : List Known) → AllByRecursion (FitsKnown p) ks → room p < length d.header → sendable p (ks ++ d ∷ more) ≡ ks
long_ends p [] d more fit long = rw (never (length d.header) (room p) long) refl
  where
    never : (n m : ℕ) → m < n → nat_le n m ≡ false
    never n m l = grind arith
long_ends p (c ∷ ks) d more fit long = sent_with p c (ks ++ d ∷ more) (le-leb (length c.header) (room p) fit.0) ∙ ap (λ l. c ∷ l) (long_ends p ks d more fit.1 long)

long_follows : (p : Plan) (ks : List Known) (c : Known) (back : List Known) → AllByRecursion (FitsKnown p) ks → room p < length c.header → Follows (c ∷ []) back → sendable p (ks ++ back) ≡ ks
long_follows p ks c back fit long (inl none) = absurd (omega (arith, ap length none))
long_follows p ks c back fit long (inr (x, d, more, e, f, unended, h, same, grown)) =
    let first : c ≡ x = cc in
    let size : length d.header ≡ length c.header = ap (λ (k : List ℕ). length k) (sym same ∙ ap (λ (k : Known). k.header) (sym first)) in
    ap (λ l. sendable p (ks ++ l)) f ∙ long_ends p ks d more fit (omega (arith, long, size))

-- so the datagrams that bytes fix are those of the codestreams before it
pub due_before : (p : Plan) (bytes more : List ℕ) (parts : List Parts) (c : Known) → IsBytes (bytes ++ more) → AreThere bytes parts (c ∷ []) → AllByRecursion (FitsKnown p) (map known_of parts) → room p < length c.header → due_by p (bytes ++ more) ≡ datagrams_by p (map known_of parts)
due_before p bytes more parts c fits a fit long =
    let r = computed 65536 (bytes ++ more) fits in
    let g = have_grown bytes more parts r.parts (c ∷ []) r.next a (computed_there (bytes ++ more) r) in
    ap (λ l. datagrams_by p (sendable p l)) (r.is_known ∙ g.whole) ∙ ap (datagrams_by p) (long_follows p (map known_of parts) c g.back fit long g.follows)

-- datagrams that are all that bytes fix
pub all_closed : (p : Plan) (bytes : List ℕ) (sent : List Datagram) → due_by p bytes ≡ sent → length sent ≤ 8388607 → closed p bytes ≡ map datagram_bytes sent
all_closed p bytes sent e few = ap (λ l. map datagram_bytes (take 8388607 l)) e ∙ ap (map datagram_bytes) (take_all 8388607 sent few)

-- datagrams that are the first that bytes fix
take_within : (n : ℕ) (xs ys : List Datagram) → length xs ≤ n → (more : List Datagram) × (take n (xs ++ ys) ≡ xs ++ more)
take_within n [] ys few = (take n ys, refl)
take_within zero (x ∷ xs) ys few = absurd (omega (arith, few))
take_within (suc n) (x ∷ xs) ys few = let r = take_within n xs ys (omega (arith, few)) in (r.0, ap (λ l. x ∷ l) r.1)

pub first_closed : (p : Plan) (bytes : List ℕ) (sent : List Datagram) → Begins sent (due_by p bytes) → length sent ≤ 8388607 → (more : List (List ℕ)) × (closed p bytes ≡ map datagram_bytes sent ++ more)
first_closed p bytes sent b few =
    let t = take_within 8388607 sent b.0 few in
    (map datagram_bytes t.0, ap (λ l. map datagram_bytes (take 8388607 l)) b.1 ∙ (ap (map datagram_bytes) t.1 ∙ map-append datagram_bytes sent t.0))
