-- A receiver gives what is due.
use Rattle.std.proofs.Common.{◌≡◌, ◌<◌, ◌≤◌, ◌+◌, ◌-◌, ◌==◌, ◌&&◌, ℕ, zero, suc, Bool, true, false, List, [], ◌∷◌, ◌++◌, map, length, nat_le, subst, refl, sym, ◌∙◌, ap, inl, inr, arith, append_assoc}
use Rattle.std.specs.Prelude.{nat_lt}
use Rattle.std.specs.List.{AllByRecursion, AllZip, filter, flat_map, list_any, list_all, range_with_len, enumerate_from}
use Rattle.std.proofs.lemmas.Bool.{cases_lt, lt-ltb, lt-leb}
use Rattle.std.proofs.lemmas.List.{length-append}
use Rattle.codestream_model.specs.Values.{Head, Place}
use Rattle.codestream_model.specs.Packet.{Content}
use Rattle.stream_model.specs.Report.{Precinct}
use Rattle.stream_model.specs.Arrivals.{in_time, base}
use Rattle.stream_model.specs.Stream.{ArePartsOf, Sent, datagrams_of, Mark, marks, packet_span, carried_at, carried}
use Rattle.stream_model.specs.Reached.{CarriedPacket, ResyncPoint, Carried, StreamPrecinct, is_reached, is_due, precincts_by, due, due_at_end}
use Rattle.stream_model.specs.CommandLaws.{precincts_of}
use Rattle.stream_model.specs.RunLaws.{reaches, passing, precincts_in, reached_in}
use Rattle.stream_model.specs.StreamLaws.{said_by, GivesWhatIsDue, EachPrecinctIsSaid}
use Rattle.stream_model.proofs.Positions.{placed, are_placed}
use Rattle.stream_model.proofs.CutPayloads.{all-append}
use Rattle.stream_model.proofs.CutStreams.{marks_placed}
use Rattle.stream_model.proofs.RunPlaces.{as_many}
use Rattle.stream_model.proofs.RunReach.{reach_false, second_fails}
use Rattle.stream_model.proofs.RunSteps.{as_said}
use Rattle.stream_model.proofs.RunStream.{IsWhole}
use Rattle.stream_model.proofs.RunLaws.{are_whole, have_bytes, reached_placed}
use Rattle.stream_model.proofs.DueSaid.{Says, all_say, said_placed, named, one_passes, StandsIn, marks_stand, fail_points}
use Rattle.stream_model.proofs.ReceiverLaws.{gives_what_is_reached}

-- tests that agree
same_any : (t u : ResyncPoint → Bool) (rs : List ResyncPoint) → ((r : ResyncPoint) → t r ≡ u r) → list_any t rs ≡ list_any u rs
same_any t u [] h = refl
same_any t u (r ∷ rs) h = let e = h r in let f = same_any t u rs h in rw (e, f) refl

-- on each number of a range
same_range : (t u : ℕ → Bool) (a n : ℕ) → ((i : ℕ) → a ≤ i → i < a + n → t i ≡ u i) → list_all t (range_with_len a n) ≡ list_all u (range_with_len a n)
same_range t u a zero h = refl
same_range t u a (suc n) h = let e = h a (omega arith) (omega arith) in let f = same_range t u (a + 1) n (λ i low high. h i (omega arith) (omega arith)) in rw (e, f) refl

-- and on the numbers of precincts
same_passing : (t u : ℕ → Bool) (k : ℕ) (xs : List Precinct) → ((j : ℕ) → k ≤ j → j < k + length xs → t j ≡ u j) → passing t k xs ≡ passing u k xs
same_passing t u k [] h = refl
same_passing t u k (x ∷ xs) h = let e = h k (omega arith) (omega arith) in let f = same_passing t u (k + 1) xs (λ j low high. h j (omega arith) (omega arith)) in rw (e, f) refl

-- what is in time and below the base
abbrev below : List ℕ → ℕ → ℕ → Bool
below events window i = in_time events i window && nat_lt i (base events window)

-- a test and one that holds
and_yes : (b c : Bool) → c ≡ true → (b && c) ≡ b
and_yes true c e = e
and_yes false c e = refl

-- below the base only time counts
is_below : (events : List ℕ) (window i : ℕ) → i < base events window → below events window i ≡ in_time events i window
is_below events window i low = and_yes (in_time events i window) (nat_lt i (base events window)) (lt-ltb i (base events window) low)

-- and from the base on nothing passes
not_below : (events : List ℕ) (window i : ℕ) → base events window ≤ i → below events window i ≡ false
not_below events window i high = second_fails (in_time events i window) (nat_lt i (base events window)) (lt-leb (suc i) (base events window) (omega arith))

-- a precinct is due where it is reached by what is in time and below the base
due_test : (events : List ℕ) (window main j : ℕ) (s : Sent) (w : IsWhole s) → j < length s.parts.packets
    → is_due events window (carried_at main s) j (packet_span s main j) ≡ reaches (below events window) (carried_at main s) j (packet_span s main j)
due_test events window main j s w few =
    let c = carried_at main s in
    let packet = packet_span s main j in
    let b = base events window in
    let t : ℕ → Bool = below events window in
    elim (cases_lt packet.last b) [
      | inl low ↦
          let yes : nat_lt packet.last b ≡ true = lt-ltb packet.last b low in
          let one : is_due events window c j packet ≡ is_reached events window c j packet = and_yes (is_reached events window c j packet) (nat_lt packet.last b) yes in
          let first : t main ≡ in_time events main window = is_below events window main (omega arith) in
          let each : (r : ResyncPoint) → (nat_le r.precinct j && list_all (λ i. in_time events i window) (range_with_len r.at (packet.last + 1 - r.at))) ≡ (nat_le r.precinct j && list_all t (range_with_len r.at (packet.last + 1 - r.at))) =
          λ r. ap (λ z. nat_le r.precinct j && z) (same_range (λ i. in_time events i window) t r.at (packet.last + 1 - r.at) (λ i l h. sym (is_below events window i (omega (arith, l, h, low))))) in
          let rest = same_any (λ r. nat_le r.precinct j && list_all (λ i. in_time events i window) (range_with_len r.at (packet.last + 1 - r.at))) (λ r. nat_le r.precinct j && list_all t (range_with_len r.at (packet.last + 1 - r.at))) c.resyncs each in
          one ∙ (ap (λ z. z && list_any (λ r. nat_le r.precinct j && list_all (λ i. in_time events i window) (range_with_len r.at (packet.last + 1 - r.at))) c.resyncs) (sym first) ∙ ap (λ z. t main && z) rest)
      | inr high ↦
          let none : nat_lt packet.last b ≡ false = lt-leb (suc packet.last) b (omega arith) in
          let no : t packet.last ≡ false = not_below events window packet.last high in
          let P : List Mark → Type 0 = λ l. AllByRecursion (StandsIn s.bodies) l in
          let stand : P (marks s.bodies) = subst P (sym (marks_placed s.bodies)) (marks_stand s s.bodies [] s.bodies 0 0 refl refl refl w.bodies) in
          let points = fail_points t main j s w.codestream w.parts (marks s.bodies) few no w.carries.marks stand in
          second_fails (is_reached events window c j packet) (nat_lt packet.last b) none ∙ sym (reach_false t c j packet (inr (packet.last, omega arith, omega arith, no), points))
    ]

-- the precincts of packets are as many as the places
precincts-length : (h : Head) (stamp : ℕ) (ps : List Place) (xs : List Content) → length ps ≡ length xs → length (precincts_of h stamp ps xs) ≡ length ps
precincts-length h stamp [] [] e = refl
precincts-length h stamp [] (x ∷ xs) e = refl
precincts-length h stamp (p ∷ ps) [] e = absurd (omega arith)
precincts-length h stamp (p ∷ ps) (x ∷ xs) e = ap suc (precincts-length h stamp ps xs (omega arith))

-- as many precincts as packets
as_many_in : (s : Sent) (codestream : List ℕ) → ArePartsOf s.parts codestream → length (precincts_in s) ≡ length s.parts.packets
as_many_in s codestream a =
    let c = s.parts in
    precincts-length c.head s.stamp c.places c.content (as_said c.head c.places c.content c.packets a.are_packets) ∙ as_many c.head c.places c.content c.packets a.are_packets

-- so with each codestream
all_many : (sent : List Sent) → AllByRecursion IsWhole sent → AllByRecursion (λ s. length (precincts_in s) ≡ length s.parts.packets) sent
all_many [] w = tt
all_many (s ∷ sent) w = (as_many_in s w.0.codestream w.0.parts, all_many sent w.1)

-- what is due is what is reached by what is in time and below the base
all_due : (events : List ℕ) (window i at : ℕ) (sent : List Sent) → AllByRecursion IsWhole sent
    → flat_map (λ l. l) (placed (λ s. length (datagrams_of s)) (λ i at s. passing (λ k. is_due events window (carried_at at s) k (packet_span s at k)) 0 (precincts_in s)) i at sent)
    ≡ flat_map (λ l. l) (placed (λ s. length (datagrams_of s)) (λ i at s. passing (λ k. reaches (below events window) (carried_at at s) k (packet_span s at k)) 0 (precincts_in s)) i at sent)
all_due events window i at [] w = refl
all_due events window i at (s ∷ sent) w =
    let one = same_passing (λ k. is_due events window (carried_at at s) k (packet_span s at k)) (λ k. reaches (below events window) (carried_at at s) k (packet_span s at k)) 0 (precincts_in s)
    (λ j low high. due_test events window at j s w.0 (omega (arith, high, as_many_in s w.0.codestream w.0.parts))) in
    let rest = flat_map (λ l. l) (placed (λ s. length (datagrams_of s)) (λ i at s. passing (λ k. is_due events window (carried_at at s) k (packet_span s at k)) 0 (precincts_in s)) (i + 1) (at + length (datagrams_of s)) sent) in
    ap (λ l. l ++ rest) one ∙ ap (λ l. passing (λ k. reaches (below events window) (carried_at at s) k (packet_span s at k)) 0 (precincts_in s) ++ l) (all_due events window (i + 1) (at + length (datagrams_of s)) sent w.1)

-- how the codestreams lie, one after another
carried_placed : (sent : List Sent) → carried sent ≡ placed (λ s. length (datagrams_of s)) (λ i at s. carried_at at s) 0 0 sent
carried_placed sent = are_placed (λ s. length (datagrams_of s)) (λ i at s. carried_at at s) sent

-- the rules give what is due
pub gives_what_is_due : GivesWhatIsDue
gives_what_is_due sent codestreams datagrams frames events pick c some a =
    let r = gives_what_is_reached sent codestreams datagrams frames events pick c some a in
    let whole = are_whole sent codestreams c.are_parts c.each (have_bytes (flat_map datagrams_of sent) datagrams c.are_datagrams) in
    let says = all_say sent c.apart in
    let many = all_many sent whole in
    let now : flat_map (said_by sent) (due events pick.window (carried sent)) ≡ reached_in (below events pick.window) sent =
    ap (λ l. flat_map (said_by sent) (flat_map (λ c. precincts_by (is_due events pick.window c) c) l)) (carried_placed sent)
    ∙ (said_placed sent (is_due events pick.window) 0 0 sent says many ∙ (all_due events pick.window 0 0 sent whole ∙ sym (reached_placed (below events pick.window) sent))) in
    let last : flat_map (said_by sent) (due_at_end events pick.window (carried sent)) ≡ reached_in (λ i. in_time events i pick.window) sent =
    ap (λ l. flat_map (said_by sent) (flat_map (λ c. precincts_by (is_reached events pick.window c) c) l)) (carried_placed sent)
    ∙ (said_placed sent (is_reached events pick.window) 0 0 sent says many ∙ sym (reached_placed (λ i. in_time events i pick.window) sent)) in
    (r.0 ∙ sym now, r.1 ∙ sym last, r.2)

-- each precinct says one thing
abbrev IsSaid : List Sent → StreamPrecinct → Type 0
IsSaid all x = (p : Precinct) × (said_by all x ≡ p ∷ []) × (p.stamp ≡ x.stamp)

-- the precincts of a codestream have its stamp
stamps_are : (h : Head) (stamp : ℕ) (ps : List Place) (xs : List Content) → AllByRecursion (λ z. z.stamp ≡ stamp) (precincts_of h stamp ps xs)
stamps_are h stamp [] xs = tt
stamps_are h stamp (p ∷ ps) [] = tt
stamps_are h stamp (p ∷ ps) (x ∷ xs) = (refl, stamps_are h stamp ps xs)

-- each precinct of a codestream says one thing
said_each : (all : List Sent) (stamp : ℕ) (f : ℕ → CarriedPacket) (ys front zs : List Precinct) (k : ℕ) → ((j : ℕ) → said_by all (record { stamp = stamp; precinct = j }) ≡ passing (λ i. i == j) 0 ys) → ys ≡ front ++ zs → length front ≡ k → AllByRecursion (λ z. z.stamp ≡ stamp) zs
    → AllByRecursion (IsSaid all) (map (named stamp) (filter (λ p. true) (enumerate_from k (map f (range_with_len k (length zs))))))
said_each all stamp f ys front [] k says e n h = tt
said_each all stamp f ys front (z ∷ zs) k says e n h = (
  (z, says k ∙ (ap (passing (λ i. i == k) 0) e ∙ one_passes front zs z k n), h.0),
  said_each all stamp f ys (front ++ z ∷ []) zs (k + 1) says (e ∙ sym (append_assoc front (z ∷ []) zs)) (omega (arith, n, length-append front (z ∷ []))) h.1,
)

-- and each of many
said_all : (all : List Sent) (i at : ℕ) (sent : List Sent) (codestreams : List (List ℕ)) → AllZip (λ s codestream. ArePartsOf s.parts codestream) sent codestreams → AllByRecursion (Says all) sent
    → AllByRecursion (IsSaid all) (flat_map (λ c. precincts_by (λ k p. true) c) (placed (λ s. length (datagrams_of s)) (λ i at s. carried_at at s) i at sent))
said_all all i at [] codestreams a h = tt
said_all all i at (s ∷ sent) [] a h = absurd a
said_all all i at (s ∷ sent) (b ∷ codestreams) a h =
    let c = carried_at at s in
    let P : ℕ → Type 0 = λ n. AllByRecursion (IsSaid all) (map (named s.stamp) (filter (λ p. true) (enumerate_from 0 (map (packet_span s at) (range_with_len 0 n))))) in
    let one = subst P (as_many_in s b a.0) (said_each all s.stamp (packet_span s at) (precincts_in s) [] (precincts_in s) 0 h.0 refl refl (stamps_are s.parts.head s.stamp s.parts.places s.parts.content)) in
    all-append (IsSaid all) (precincts_by (λ k p. true) c) (flat_map (λ c. precincts_by (λ k p. true) c) (placed (λ s. length (datagrams_of s)) (λ i at s. carried_at at s) (i + 1) (at + length (datagrams_of s)) sent)) one
    (said_all all (i + 1) (at + length (datagrams_of s)) sent codestreams a.1 h.1)

-- so with a stream
pub each_precinct_is_said : EachPrecinctIsSaid
each_precinct_is_said sent codestreams datagrams c =
    let P : List Carried → Type 0 = λ l. AllByRecursion (IsSaid sent) (flat_map (λ c. precincts_by (λ k p. true) c) l) in
    subst P (sym (carried_placed sent)) (said_all sent 0 0 sent codestreams c.are_parts (all_say sent c.apart))
