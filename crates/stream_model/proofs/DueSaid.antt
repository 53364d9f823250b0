-- What is reached of a stream, in the words of what is due.
use Rattle.std.proofs.Common.{◌≡◌, ◌<◌, ◌≤◌, ◌+◌, ◌-◌, ◌==◌, ℕ, Bool, true, false, cond, List, [], ◌∷◌, ◌++◌, map, length, take, subst, refl, sym, ◌∙◌, ap, inl, inr, arith, append_assoc, if◌then◌else◌}
use Rattle.std.specs.List.{AllByRecursion, IsDistinct, filter, flat_map, sum_by, range_with_len, enumerate_from}
use Rattle.std.proofs.lemmas.Bool.{cases_lt}
use Rattle.std.proofs.lemmas.Bool.Decides.{eqb_tells}
use Rattle.std.proofs.lemmas.Grind.{flat_map-append}
use Rattle.std.proofs.lemmas.List.{append-nil, length-append}
use Rattle.std.proofs.lemmas.List.Sums.{sum_by-append, sum_by-cons}
use Rattle.std.proofs.lemmas.Option.{slice_get_within}
use Rattle.std.proofs.Math.Seq.{take-append_seam, take-append-add}
use Rattle.wire_model.specs.Datagram.{Datagram}
use Rattle.codestream_model.proofs.TreeLemmas.{either, same_number}
use Rattle.stream_model.specs.Report.{Precinct}
use Rattle.stream_model.specs.Stream.{ArePartsOf, Sent, datagrams_of, Mark, IsResync, mark_of, packet_start, payload_start, precinct_at, packet_span, carried_at}
use Rattle.stream_model.specs.Reached.{CarriedPacket, Carried, StreamPrecinct, precincts_by}
use Rattle.stream_model.specs.RunLaws.{passing, precincts_in}
use Rattle.stream_model.specs.StreamLaws.{said_by}
use Rattle.stream_model.proofs.Positions.{placed}
use Rattle.stream_model.proofs.CutPayloads.{all-append}
use Rattle.stream_model.proofs.Found.{packets_have_bytes, starts_rise, precinct_is_found}
use Rattle.stream_model.proofs.StreamOrder.{body_with_rises}
use Rattle.stream_model.proofs.RunPlaces.{as_many, starts_up, body_is}
use Rattle.stream_model.proofs.RunReach.{Fails, passing-append, passing_none, point}
use Rattle.stream_model.proofs.RunStates.{marks_from}
use Rattle.stream_model.proofs.RunHanded.{none_own, one_own}
use Rattle.stream_model.proofs.RunStream.{IsBodyOf}

-- the precinct of a number
pub one_passes : (front back : List Precinct) (z : Precinct) (k : ℕ) → length front ≡ k → passing (λ j. j == k) 0 (front ++ z ∷ back) ≡ z ∷ []
one_passes front back z k e =
    let t : ℕ → Bool = λ j. j == k in
    let before = passing_none t 0 front (λ j low high. elim (eqb_tells j k) [ inr n ↦ n.0 | inl s ↦ absurd (omega (arith, s.1, high, e)) ]) in
    let n : 0 + length front ≡ k = omega (arith, e) in
    let here : (k == k) ≡ true = same_number k in
    let behind = passing_none t (k + 1) back (λ j low high. elim (eqb_tells j k) [ inr m ↦ m.0 | inl s ↦ absurd (omega (arith, s.1, low)) ]) in
    passing-append t 0 front (z ∷ back) ∙ (ap (λ l. l ++ passing t (0 + length front) (z ∷ back)) before ∙ (ap (λ m. passing t m (z ∷ back)) n ∙ rw here (ap (λ l. z ∷ l) behind)))

-- what precincts of one codestream say that pass a test
abbrev pub named : ℕ → ℕ × CarriedPacket → StreamPrecinct
named stamp p = record { stamp = stamp; precinct = p.0 }

-- one of them is chosen or not
chosen : {A B : Type 0} (g : B → List Precinct) (nm : A → B) (x : A) (z : Precinct) (xs : List A) (rest : List Precinct) (b : Bool) → g (nm x) ≡ z ∷ [] → flat_map g (map nm xs) ≡ rest → flat_map g (map nm (cond b (x ∷ xs) xs)) ≡ (if b then z ∷ rest else rest)
chosen g nm x z xs rest true e f = ap (λ l. l ++ flat_map g (map nm xs)) e ∙ ap (λ l. z ∷ l) f
chosen g nm x z xs rest false e f = f

-- one after another, from a number on
said_from : (g : StreamPrecinct → List Precinct) (stamp : ℕ) (test : ℕ → CarriedPacket → Bool) (f : ℕ → CarriedPacket) (ys front zs : List Precinct) (k : ℕ) → ((j : ℕ) → g (record { stamp = stamp; precinct = j }) ≡ passing (λ i. i == j) 0 ys) → ys ≡ front ++ zs → length front ≡ k
    → flat_map g (map (named stamp) (filter (λ p. test p.0 p.1) (enumerate_from k (map f (range_with_len k (length zs)))))) ≡ passing (λ j. test j (f j)) k zs
said_from g stamp test f ys front [] k says e n = refl
said_from g stamp test f ys front (z ∷ zs) k says e n =
    let one : g (record { stamp = stamp; precinct = k }) ≡ z ∷ [] = says k ∙ (ap (passing (λ i. i == k) 0) e ∙ one_passes front zs z k n) in
    let next = said_from g stamp test f ys (front ++ z ∷ []) zs (k + 1) says (e ∙ sym (append_assoc front (z ∷ []) zs)) (omega (arith, n, length-append front (z ∷ []))) in
    chosen g (named stamp) (k, f k) z (filter (λ p. test p.0 p.1) (enumerate_from (k + 1) (map f (range_with_len (k + 1) (length zs))))) (passing (λ j. test j (f j)) (k + 1) zs) (test k (f k)) one next

-- a codestream's precincts are found by its stamp
abbrev pub Says : List Sent → Sent → Type 0
Says all s = (k : ℕ) → said_by all (record { stamp = s.stamp; precinct = k }) ≡ passing (λ j. j == k) 0 (precincts_in s)

-- two numbers differ both ways
not_other : (a b : ℕ) → (a == b) ≡ false → (b == a) ≡ false
not_other a b e = elim (eqb_tells b a) [ inr t ↦ t.0 | inl t ↦ let s : (a == b) ≡ true = ap (λ c. a == c) t.1 ∙ same_number a in absurd (cc) ]

-- a stamp that no codestream has says nothing
none_said : (sent : List Sent) (stamp k : ℕ) → AllByRecursion (λ t. (stamp == t) ≡ false) (map (λ s. s.stamp) sent) → said_by sent (record { stamp = stamp; precinct = k }) ≡ []
none_said [] stamp k h = refl
none_said (s ∷ sent) stamp k h = let e = not_other stamp s.stamp h.0 in rw e (none_said sent stamp k h.1)

-- a codestream before others changes nothing of what they say
says_behind : (s : Sent) (sent rest : List Sent) → AllByRecursion (λ t. (s.stamp == t) ≡ false) (map (λ t. t.stamp) rest) → AllByRecursion (Says sent) rest → AllByRecursion (Says (s ∷ sent)) rest
says_behind s sent [] h a = tt
says_behind s sent (t ∷ rest) h a = (λ k. let e = h.0 in rw e (a.0 k), says_behind s sent rest h.1 a.1)

-- so each codestream of a stream says its own
pub all_say : (sent : List Sent) → IsDistinct (λ a b. a == b) (map (λ s. s.stamp) sent) → AllByRecursion (Says sent) sent
unfolding IsDistinct
all_say [] d = tt
all_say (s ∷ sent) d = (
  λ k. (let e = same_number s.stamp in rw e (ap (λ l. passing (λ j. j == k) 0 (precincts_in s) ++ l) (none_said sent s.stamp k d.0) ∙ append-nil (passing (λ j. j == k) 0 (precincts_in s)))),
  says_behind s sent sent d.0 (all_say sent d.1),
)

-- what the codestreams of a stream say that passes
pub said_placed : (all : List Sent) (test : Carried → ℕ → CarriedPacket → Bool) (i at : ℕ) (sent : List Sent) → AllByRecursion (Says all) sent → AllByRecursion (λ s. length (precincts_in s) ≡ length s.parts.packets) sent
    → flat_map (said_by all) (flat_map (λ c. precincts_by (test c) c) (placed (λ s. length (datagrams_of s)) (λ i at s. carried_at at s) i at sent))
    ≡ flat_map (λ l. l) (placed (λ s. length (datagrams_of s)) (λ i at s. passing (λ k. test (carried_at at s) k (packet_span s at k)) 0 (precincts_in s)) i at sent)
said_placed all test i at [] a b = refl
said_placed all test i at (s ∷ sent) a b =
    let c = carried_at at s in
    let one : flat_map (said_by all) (precincts_by (test c) c) ≡ passing (λ k. test c k (packet_span s at k)) 0 (precincts_in s) =
    ap (λ n. flat_map (said_by all) (map (named s.stamp) (filter (λ p. test c p.0 p.1) (enumerate_from 0 (map (packet_span s at) (range_with_len 0 n)))))) (sym b.0)
    ∙ said_from (said_by all) s.stamp (test c) (packet_span s at) (precincts_in s) [] (precincts_in s) 0 a.0 refl refl in
    let rest = flat_map (λ c. precincts_by (test c) c) (placed (λ s. length (datagrams_of s)) (λ i at s. carried_at at s) (i + 1) (at + length (datagrams_of s)) sent) in
    flat_map-append (said_by all) (precincts_by (test c) c) rest
    ∙ (ap (λ l. l ++ flat_map (said_by all) rest) one ∙ ap (λ l. passing (λ k. test c k (packet_span s at k)) 0 (precincts_in s) ++ l) (said_placed all test (i + 1) (at + length (datagrams_of s)) sent a.1 b.1))

-- a mark is in its Body
abbrev pub StandsIn : List Datagram → Mark → Type 0
StandsIn bodies m = (payload_start bodies m.body ≤ m.place) × (m.place < payload_start bodies (m.body + 1))

-- where a Body starts and ends
pub starts_here : (bodies front : List Datagram) (x : Datagram) (rest : List Datagram) (i at : ℕ) → bodies ≡ front ++ x ∷ rest → length front ≡ i → at ≡ sum_by (λ y. length y.codestream) front → (payload_start bodies i ≡ at) × (payload_start bodies (i + 1) ≡ at + length x.codestream)
starts_here bodies front x rest i at e n start =
    let f : Datagram → ℕ = λ y. length y.codestream in
    let one = ap (λ l. sum_by f (take (length front) l)) e ∙ ap (sum_by f) (take-append_seam front (x ∷ rest)) in
    let two = ap (λ l. sum_by f (take (length front + 1) l)) e ∙ (ap (sum_by f) (take-append-add front (x ∷ rest) 1) ∙ sum_by-append f front (x ∷ [])) in
    let last = sum_by-cons f x [] in
    let g = ap (payload_start bodies) (sym n) in
    let h = ap (λ k. payload_start bodies (k + 1)) (sym n) in
    (omega (arith, one, g, start), omega (arith, two, h, last, start))

-- each mark of Bodies is in its own
pub marks_stand : (s : Sent) (bodies front rest : List Datagram) (i at : ℕ) → bodies ≡ front ++ rest → length front ≡ i → at ≡ sum_by (λ y. length y.codestream) front → AllByRecursion (IsBodyOf s) rest → AllByRecursion (StandsIn bodies) (marks_from i at rest)
marks_stand s bodies front [] i at e n start each = tt
marks_stand s bodies front (x ∷ rest) i at e n start each =
    let f : Datagram → ℕ = λ y. length y.codestream in
    let g = each.0.fields in
    let w = starts_here bodies front x rest i at e n start in
    let P : List Mark → Type 0 = λ l. AllByRecursion (StandsIn bodies) l in
    let own : P (mark_of i at x.payload) = elim (either g.ordb) [
      | inr o ↦ subst P (sym (none_own i at x.payload g each.0.payload o)) tt
      | inl o ↦ let m = each.0.marked o in subst P (sym (one_own i at x.payload g each.0.payload o)) ((omega (arith, w.0), omega (arith, w.1, m)), tt)
    ] in
    let sum = sum_by-append f front (x ∷ []) in
    let last = sum_by-cons f x [] in
    all-append (StandsIn bodies) (mark_of i at x.payload) (marks_from (i + 1) (at + length x.codestream) rest) own
    (marks_stand s bodies (front ++ x ∷ []) rest (i + 1) (at + length x.codestream) (e ∙ sym (append_assoc front (x ∷ []) rest)) (omega (arith, n, length-append front (x ∷ []))) (omega (arith, sum, last, start)) each.1)

-- a precinct isn't due whose last datagram isn't below the base: something isn't there after each resync point at or before it
pub fail_points : (there : ℕ → Bool) (main j : ℕ) (s : Sent) (codestream : List ℕ) (parts : ArePartsOf s.parts codestream) (ms : List Mark) → j < length s.parts.packets → there (packet_span s main j).last ≡ false → AllByRecursion (IsResync s.parts) ms → AllByRecursion (StandsIn s.bodies) ms
    → AllByRecursion (Fails there j (packet_span s main j).last) (map (point main s) ms)
fail_points there main j s codestream parts [] few none right stand = tt
fail_points there main j s codestream parts (m ∷ ms) few none right stand =
    let c = s.parts in
    let r = right.0 in
    let q = r.precinct in
    let packets = packets_have_bytes c.head c.places c.content c.packets parts.are_packets in
    let most : q < length c.packets = omega (arith, slice_get_within c.places q r.place r.has, as_many c.head c.places c.content c.packets parts.are_packets) in
    let number : precinct_at c m.place ≡ q = ap (precinct_at c) r.starts ∙ precinct_is_found c codestream q parts most in
    let body = body_is s.bodies m.body m.place stand.0.0 stand.0.1 in
    let here : Fails there j (packet_span s main j).last (point main s m) = elim (cases_lt j q) [
      | inl later ↦ inl (omega (arith, later, number))
      | inr low ↦
          let up = starts_up (λ (b : List ℕ). length b) c.packets q j low in
          let next = starts_rise c.packets j (j + 1) packets (omega arith) (omega (arith, few)) in
          let rises = body_with_rises s.bodies m.place (packet_start c (j + 1) - 1) (omega (arith, up, next, r.starts)) in
          inr ((packet_span s main j).last, omega (arith, rises, body), omega arith, none)
    ] in
    (here, fail_points there main j s codestream parts ms few none right.1 stand.1)
