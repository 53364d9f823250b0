-- A cut that is thinned on its way: each precinct of a resolution that is left is reached.
use Rattle.std.proofs.Common.{◌≡◌, ◌<◌, ◌≤◌, ◌+◌, ◌-◌, ℕ, zero, suc, Bool, true, List, [], ◌∷◌, ◌++◌, map, length, take, refl, sym, subst, ap, ◌∙◌, inl, inr, arith, append_assoc}
use Rattle.std.specs.Prelude.{slice_get, Some}
use Rattle.std.specs.List.{AllZip, filter, flat_map, sum_by, range_with_len, enumerate_from}
use Rattle.std.proofs.lemmas.Bool.{cases_lt}
use Rattle.std.proofs.lemmas.Grind.{flat_map-append}
use Rattle.std.proofs.lemmas.List.{length-append}
use Rattle.std.proofs.lemmas.List.Concat.{length-flat_map}
use Rattle.std.proofs.lemmas.List.Sums.{sum_by-take-le}
use Rattle.std.proofs.lemmas.Option.{slice_get_within}
use Rattle.std.proofs.Math.Seq.{take-append_seam}
use Rattle.wire_model.specs.Payload.{PayloadFields, Main, Body}
use Rattle.wire_model.specs.Thinning.{is_within, is_kept}
use Rattle.wire_model.specs.Datagram.{Datagram, IsDatagram}
use Rattle.codestream_model.specs.Values.{Place}
use Rattle.codestream_model.proofs.Members.{Has, at_member, has_map, contained_has, has_flat_map}
use Rattle.stream_model.specs.Arrivals.{datagram_at, in_time}
use Rattle.stream_model.specs.Stream.{Parts, Sent, ArePartsOf, Carries, Carry, Mark, IsResync, IsMainPayload, mark_of, marks, datagrams_of, packet_start, payload_start, body_with, precinct_at, packet_span, carried_at, main_position, carried}
use Rattle.stream_model.specs.Reached.{ResyncPoint, is_reached, precincts_by, due_at_end}
use Rattle.stream_model.specs.Cut.{Plan, known_of, sent_by, bodies_at, stamp_at}
use Rattle.stream_model.specs.ThinnedLaws.{kept_positions, CanBeSent, cut_of, ThinnedKeepsBytes, StartsHaveResyncs, ThinnedIsReached, ThinnedIsDue}
use Rattle.stream_model.proofs.Positions.{placed}
use Rattle.stream_model.proofs.Found.{packets_have_bytes, starts_rise, precinct_is_found}
use Rattle.stream_model.proofs.StreamShapes.{body_has_byte, bodies_bytes}
use Rattle.stream_model.proofs.RunPlaces.{starts_up}
use Rattle.stream_model.proofs.RunReach.{reach_true, point}
use Rattle.stream_model.proofs.CutBodies.{as_many, the_body}
use Rattle.stream_model.proofs.CutStreams.{the_sent, count_of, sent_placed, cut_is_stream}
use Rattle.stream_model.proofs.ThinnedTimes.{kept_here, kept_is_in_time}
use Rattle.stream_model.proofs.ThinnedBodies.{has_filter, is_left, is_marked, the_body_is, mark_among}

-- a Body that a number has, and which is kept
abbrev pub IsLeftBody : ℕ → List Datagram → ℕ → Type 0
IsLeftBody limit bodies j = (front : List Datagram) × (x : Datagram) × (rest : List Datagram) × (bodies ≡ front ++ x ∷ rest) × (length front ≡ j) × (is_within limit x.payload ≡ true)

-- thinning leaves a precinct: each Body that has a byte of its packet is kept, and the one where it starts has a mark at or before it
pub record IsLeft (limit : ℕ) (s : Sent) (k : ℕ) : Type 0 where
  pub each : (j : ℕ) → j < length s.bodies → packet_start s.parts k < payload_start s.bodies (j + 1) → payload_start s.bodies j < packet_start s.parts (k + 1) → IsLeftBody limit s.bodies j
  pub marked : (j : ℕ) → j < length s.bodies → payload_start s.bodies j ≤ packet_start s.parts k → packet_start s.parts k < payload_start s.bodies (j + 1) → (m : Mark) × Has (marks s.bodies) m × (m.body ≡ j) × (m.place ≤ packet_start s.parts k)

-- so it does in a cut
pub cut_is_left : (p : Plan) (i at : ℕ) (c : Parts) (limit k : ℕ) (q : Place) → slice_get c.places k ≡ Some q → length c.places ≡ length c.packets → q.r + 7 ≤ c.head.levels + limit → IsLeft limit (the_sent p i at c) k
cut_is_left p i at c limit k q e same within =
    let less : k < length c.packets = omega (arith, slice_get_within c.places k q e, same) in
    let bodies : List Datagram = bodies_at p (stamp_at p i) at (known_of c) in
    record {
      each = λ j few low high. (
          let b = the_body_is p (stamp_at p i) at (known_of c) j few in
          let begins : payload_start bodies j ≡ b.from = b.begins in
          let ends : payload_start bodies (j + 1) ≡ b.from + length b.bytes = b.ends in
          (b.front, _, b.rest, b.splits, b.number, is_left p (stamp_at p i) at c limit j b.from k b.bytes q e same less within (omega arith) (omega arith))
          );
      marked = λ j few low high. (
          let b = the_body_is p (stamp_at p i) at (known_of c) j few in
          let begins : payload_start bodies j ≡ b.from = b.begins in
          let ends : payload_start bodies (j + 1) ≡ b.from + length b.bytes = b.ends in
          let m = is_marked p (stamp_at p i) at c j b.from k b.bytes q e same less (omega arith) (omega arith) in
          let P : ℕ → Type 0 = λ n. Has (mark_of j n (the_body p (stamp_at p i) at (known_of c) j b.from b.bytes).payload) m.0 in
          (m.0, mark_among bodies b.front (the_body p (stamp_at p i) at (known_of c) j b.from b.bytes) b.rest j m.0 b.splits b.number (subst P (sym begins) m.1), m.2, m.3)
          );
    }

-- where a codestream is in a stream, its datagrams are
main_here : (before after : List Sent) (s : Sent) → flat_map datagrams_of (before ++ s ∷ after) ≡ flat_map datagrams_of before ++ s.main ∷ (s.bodies ++ flat_map datagrams_of after)
main_here before after s = flat_map-append datagrams_of before (s ∷ after)

body_here : (before after : List Sent) (s : Sent) (front : List Datagram) (x : Datagram) (rest : List Datagram) → s.bodies ≡ front ++ x ∷ rest
    → flat_map datagrams_of (before ++ s ∷ after) ≡ (flat_map datagrams_of before ++ s.main ∷ front) ++ x ∷ (rest ++ flat_map datagrams_of after)
body_here before after s front x rest e =
    let B : List Datagram = flat_map datagrams_of before in
    let A : List Datagram = flat_map datagrams_of after in
    main_here before after s
    ∙ (ap (λ l. B ++ s.main ∷ (l ++ A)) e
    ∙ (ap (λ l. B ++ s.main ∷ l) (append_assoc front (x ∷ rest) A)
    ∙ sym (append_assoc B (s.main ∷ front) (x ∷ (rest ++ A)))))

main_kept : (limit : ℕ) (h : PayloadFields) → IsMainPayload h → is_within limit h ≡ true
main_kept limit (Main h) m = refl
main_kept limit (Body h) m = absurd m

-- how a codestream is in a stream
record StandsThere (sent : List Sent) (datagrams : List (List ℕ)) (before after : List Sent) (s : Sent) (codestream : List ℕ) : Type 0 where
  split : sent ≡ before ++ s ∷ after
  are_datagrams : AllZip IsDatagram (flat_map datagrams_of sent) datagrams
  carries : Carries s
  parts : ArePartsOf s.parts codestream

-- its Main is kept,
main_is_kept : (sent : List Sent) (datagrams : List (List ℕ)) (limit : ℕ) (before after : List Sent) (s : Sent) (codestream : List ℕ) → StandsThere sent datagrams before after s codestream → is_kept limit (datagram_at datagrams (length (flat_map datagrams_of before))) ≡ true
main_is_kept sent datagrams limit before after s codestream r =
    let P : List Datagram → Type 0 = λ l. AllZip IsDatagram l datagrams in
    kept_here limit (flat_map datagrams_of before) s.main (s.bodies ++ flat_map datagrams_of after) datagrams (subst P (ap (flat_map datagrams_of) r.split ∙ main_here before after s) r.are_datagrams) (main_kept limit s.main.payload r.carries.main)

body_is_kept : (sent : List Sent) (datagrams : List (List ℕ)) (limit : ℕ) (before after : List Sent) (s : Sent) (codestream : List ℕ) (j : ℕ) → StandsThere sent datagrams before after s codestream → IsLeftBody limit s.bodies j → is_kept limit (datagram_at datagrams (length (flat_map datagrams_of before) + 1 + j)) ≡ true
body_is_kept sent datagrams limit before after s codestream j r b =
    let P : List Datagram → Type 0 = λ l. AllZip IsDatagram l datagrams in
    let t = kept_here limit (flat_map datagrams_of before ++ s.main ∷ b.0) b.1 (b.2 ++ flat_map datagrams_of after) datagrams (subst P (ap (flat_map datagrams_of) r.split ∙ body_here before after s b.0 b.1 b.2 b.3) r.are_datagrams) b.5 in
    let long = length-append (flat_map datagrams_of before) (s.main ∷ b.0) in
    let n = b.4 in
    let e : length (flat_map datagrams_of before ++ s.main ∷ b.0) ≡ length (flat_map datagrams_of before) + 1 + j = omega (arith, long, n) in
    ap (λ i. is_kept limit (datagram_at datagrams i)) (sym e) ∙ t

-- the Bodies of a packet's first and last byte
record HasPacket (s : Sent) (k : ℕ) : Type 0 where
  up : packet_start s.parts k < packet_start s.parts (k + 1)
  first : body_with s.bodies (packet_start s.parts k) < length s.bodies
  first_begins : payload_start s.bodies (body_with s.bodies (packet_start s.parts k)) ≤ packet_start s.parts k
  first_ends : packet_start s.parts k < payload_start s.bodies (body_with s.bodies (packet_start s.parts k) + 1)
  last : body_with s.bodies (packet_start s.parts (k + 1) - 1) < length s.bodies
  last_begins : payload_start s.bodies (body_with s.bodies (packet_start s.parts (k + 1) - 1)) ≤ packet_start s.parts (k + 1) - 1

has_packet : (s : Sent) (codestream : List ℕ) (k : ℕ) → Carries s → ArePartsOf s.parts codestream → k < length s.parts.packets → HasPacket s k
has_packet s codestream k carries parts less =
    let c : Parts = s.parts in
    let packets = packets_have_bytes c.head c.places c.content c.packets parts.are_packets in
    let up : packet_start c k < packet_start c (k + 1) = starts_rise c.packets k (k + 1) packets (omega arith) (omega arith) in
    let most : packet_start c (k + 1) ≤ sum_by (λ b. length b) c.packets = sum_by-take-le (λ b. length b) c.packets (k + 1) in
    let bytes : sum_by (λ x. length x.codestream) s.bodies ≡ sum_by (λ b. length b) c.packets + 2 = bodies_bytes s carries in
    let first = body_has_byte s.bodies (packet_start c k) (omega arith) in
    let last = body_has_byte s.bodies (packet_start c (k + 1) - 1) (omega arith) in
    record { up = up; first = first.0; first_begins = first.1; first_ends = first.2; last = last.0; last_begins = last.1 }

-- so is each datagram that has a byte of a packet that is left,
left_is_kept : (sent : List Sent) (datagrams : List (List ℕ)) (limit : ℕ) (before after : List Sent) (s : Sent) (codestream : List ℕ) (k i : ℕ) → StandsThere sent datagrams before after s codestream → HasPacket s k → IsLeft limit s k
    → (packet_span s (length (flat_map datagrams_of before)) k).first ≤ i → i ≤ (packet_span s (length (flat_map datagrams_of before)) k).last → is_kept limit (datagram_at datagrams i) ≡ true
left_is_kept sent datagrams limit before after s codestream k i r h left from to =
    let c : Parts = s.parts in
    let main : ℕ = length (flat_map datagrams_of before) in
    let b : ℕ = body_with s.bodies (packet_start c k) in
    let l : ℕ = body_with s.bodies (packet_start c (k + 1) - 1) in
    let low : main + 1 + b ≤ i = from in
    let high : i ≤ main + 1 + l = to in
    let up : packet_start c k < packet_start c (k + 1) = h.up in
    let few : l < length s.bodies = h.last in
    let ends : payload_start s.bodies l ≤ packet_start c (k + 1) - 1 = h.last_begins in
    let begins : packet_start c k < payload_start s.bodies (b + 1) = h.first_ends in
    let j : ℕ = i - (main + 1) in
    let is : main + 1 + j ≡ i = omega arith in
    let one : payload_start s.bodies (b + 1) ≤ payload_start s.bodies (j + 1) = starts_up (λ (x : Datagram). length x.codestream) s.bodies (b + 1) (j + 1) (omega arith) in
    let two : payload_start s.bodies j ≤ payload_start s.bodies l = starts_up (λ (x : Datagram). length x.codestream) s.bodies j l (omega arith) in
    ap (λ i. is_kept limit (datagram_at datagrams i)) (sym is) ∙ body_is_kept sent datagrams limit before after s codestream j r (left.each j (omega arith) (omega arith) (omega arith))

-- the datagram in which it starts has a resync point at or before it,
start_has_resync : (limit : ℕ) (s : Sent) (codestream : List ℕ) (k main : ℕ) → Carries s → ArePartsOf s.parts codestream → k < length s.parts.packets → HasPacket s k → IsLeft limit s k
    → (r : ResyncPoint) × Has (carried_at main s).resyncs r × (r.at ≡ (packet_span s main k).first) × (r.precinct ≤ k)
start_has_resync limit s codestream k main carries parts less h left =
    let c : Parts = s.parts in
    let b : ℕ = body_with s.bodies (packet_start c k) in
    let packets = packets_have_bytes c.head c.places c.content c.packets parts.are_packets in
    let m = left.marked b h.first h.first_begins h.first_ends in
    let r : IsResync c m.0 = at_member (IsResync c) (marks s.bodies) m.0 carries.marks m.1 in
    let number : r.precinct < length c.packets = omega (arith, slice_get_within c.places r.precinct r.place r.has, as_many c.head c.places c.content c.packets parts.are_packets) in
    let named : precinct_at c m.0.place ≡ r.precinct = ap (precinct_at c) r.starts ∙ precinct_is_found c codestream r.precinct parts number in
    let low : r.precinct ≤ k = elim (cases_lt k r.precinct) [
      | inl later ↦ (let high = starts_rise c.packets k r.precinct packets later (omega arith) in absurd (omega (arith, high, r.starts, m.3)))
      | inr early ↦ early
    ] in
    (point main s m.0, inr (has_map (point main s) (marks s.bodies) m.0 m.1), ap (λ n. main + 1 + n) m.2, (let e : precinct_at c m.0.place ≤ k = omega (arith, named, low) in e))

-- and it is reached
left_is_reached : (sent : List Sent) (datagrams : List (List ℕ)) (limit window : ℕ) (before after : List Sent) (s : Sent) (codestream : List ℕ) (k : ℕ)
    → 1 ≤ window → StandsThere sent datagrams before after s codestream → k < length s.parts.packets → IsLeft limit s k
    → is_reached (kept_positions limit datagrams) window (carried_at (length (flat_map datagrams_of before)) s) k (packet_span s (length (flat_map datagrams_of before)) k) ≡ true
left_is_reached sent datagrams limit window before after s codestream k some stands less left =
    let there : ℕ → Bool = λ i. in_time (kept_positions limit datagrams) i window in
    let main : ℕ = length (flat_map datagrams_of before) in
    let h = has_packet s codestream k stands.carries stands.parts less in
    let m = start_has_resync limit s codestream k main stands.carries stands.parts less h left in
    let run : (i : ℕ) → m.0.at ≤ i → i ≤ (packet_span s main k).last → there i ≡ true = λ i from to. (
    let at = m.2 in
    let low : (packet_span s main k).first ≤ i = omega (arith, at, from) in
    kept_is_in_time limit window datagrams i some ∙ left_is_kept sent datagrams limit before after s codestream k i stands h left low to
    ) in
    reach_true there (carried_at main s) k (packet_span s main k) m.0 (kept_is_in_time limit window datagrams main some ∙ main_is_kept sent datagrams limit before after s codestream stands) m.1 m.3 run

-- an item by its number splits a list, is a member, and is numbered
split_at : {A : Type 0} (xs : List A) (i : ℕ) (x : A) → slice_get xs i ≡ Some x → (before : List A) × (after : List A) × (xs ≡ before ++ x ∷ after) × (length before ≡ i)
split_at [] i x e = absurd (cc)
split_at (y ∷ xs) zero x e = let same : y ≡ x = cc in ([], xs, ap (λ l. l ∷ xs) same, refl)
split_at (y ∷ xs) (suc i) x e = let h = split_at xs i x e in (y ∷ h.0, h.1, ap (λ l. y ∷ l) h.2, ap (λ n. suc n) h.3)

got_has : {A : Type 0} (xs : List A) (i : ℕ) (x : A) → slice_get xs i ≡ Some x → Has xs x
got_has [] i x e = absurd (cc)
got_has (y ∷ xs) zero x e = let same : y ≡ x = cc in inl same
got_has (y ∷ xs) (suc i) x e = inr (got_has xs i x e)

pub got_numbered : {A : Type 0} (n m : ℕ) (xs : List A) (i : ℕ) (x : A) → slice_get xs i ≡ Some x → m ≡ n + i → Has (enumerate_from n xs) (m, x)
got_numbered n m [] i x e s = absurd (cc)
got_numbered n m (y ∷ xs) zero x e s =
    let same : y ≡ x = cc in
    let number : n ≡ m = omega arith in
    inl (ap (λ l. (l, y)) number ∙ ap (λ l. (m, l)) same)
got_numbered n m (y ∷ xs) (suc i) x e s = inr (got_numbered (n + 1) m xs i x e (omega arith))

made_numbered : {A : Type 0} (f : ℕ → A) (a n k : ℕ) → a ≤ k → k < a + n → Has (enumerate_from a (map f (range_with_len a n))) (k, f k)
made_numbered f a zero k low high = absurd (omega arith)
made_numbered f a (suc n) k low high = elim (cases_lt k (a + 1)) [
  | inl h ↦ inl (ap (λ l. (l, f l)) (let e : a ≡ k = omega arith in e))
  | inr h ↦ inr (made_numbered f (a + 1) n k h (omega arith))
]

-- what belongs to a member of two lists that belong together
zip_has : (sent : List Sent) (codestreams : List (List ℕ)) (s : Sent) → AllZip (λ s codestream. ArePartsOf s.parts codestream) sent codestreams → Has sent s → (codestream : List ℕ) × ArePartsOf s.parts codestream
zip_has [] codestreams s a h = absurd h
zip_has (x ∷ sent) [] s a h = absurd a
zip_has (x ∷ sent) (b ∷ codestreams) s a (inl e) = let P : Sent → Type 0 = λ y. ArePartsOf y.parts b in (b, subst P e a.0)
zip_has (x ∷ sent) (b ∷ codestreams) s a (inr h) = zip_has sent codestreams s a.1 h

-- what is sent of a cut
placed_is : (p : Plan) (i at : ℕ) (parts : List Parts) (s : Sent) → Has (placed (count_of p) (the_sent p) i at parts) s → (n : ℕ) × (from : ℕ) × (c : Parts) × (the_sent p n from c ≡ s)
placed_is p i at [] s h = absurd h
placed_is p i at (c ∷ parts) s (inl e) = (i, at, c, e)
placed_is p i at (c ∷ parts) s (inr h) = placed_is p (i + 1) (at + count_of p c) parts s h

sent_is : (p : Plan) (parts : List Parts) (s : Sent) → Has (sent_by p parts) s → (n : ℕ) × (from : ℕ) × (c : Parts) × (the_sent p n from c ≡ s)
sent_is p parts s h = let P : List Sent → Type 0 = λ l. Has l s in placed_is p 0 0 parts s (subst P (sent_placed p parts) h)

-- the carry of a cut
pub cut_carries : (p : Plan) (parts : List Parts) (codestreams : List (List ℕ)) → CanBeSent p parts codestreams → Carry (sent_by p parts) codestreams (cut_of p parts)
cut_carries p parts codestreams r = cut_is_stream p parts codestreams r.plan r.are_parts r.bytes r.fit r.few r.short

-- how a codestream of a cut is in it
record StandsInCut (p : Plan) (parts : List Parts) (i : ℕ) (s : Sent) : Type 0 where
  before : List Sent
  after : List Sent
  codestream : List ℕ
  stands : StandsThere (sent_by p parts) (cut_of p parts) before after s codestream
  position : main_position (sent_by p parts) i ≡ length (flat_map datagrams_of before)
  same : length s.parts.places ≡ length s.parts.packets
  left : (limit k : ℕ) (q : Place) → slice_get s.parts.places k ≡ Some q → q.r + 7 ≤ s.parts.head.levels + limit → IsLeft limit s k

stands_in_cut : (p : Plan) (parts : List Parts) (codestreams : List (List ℕ)) (i : ℕ) (s : Sent) → CanBeSent p parts codestreams → slice_get (sent_by p parts) i ≡ Some s → StandsInCut p parts i s
stands_in_cut p parts codestreams i s r here =
    let sent : List Sent = sent_by p parts in
    let carry = cut_carries p parts codestreams r in
    let split = split_at sent i s here in
    let member = got_has sent i s here in
    let own = zip_has sent codestreams s carry.are_parts member in
    let same : length s.parts.places ≡ length s.parts.packets = as_many s.parts.head s.parts.places s.parts.content s.parts.packets own.1.are_packets in
    let made = sent_is p parts s member in
    let P : Sent → Type 0 = λ y. (limit k : ℕ) (q : Place) → slice_get y.parts.places k ≡ Some q → length y.parts.places ≡ length y.parts.packets → q.r + 7 ≤ y.parts.head.levels + limit → IsLeft limit y k in
    let left = subst P made.3 (cut_is_left p made.0 made.1 made.2) in
    let f : Sent → ℕ = λ s. length (datagrams_of s) in
    record {
      before = split.0;
      after = split.1;
      codestream = own.0;
      stands = record { split = split.2; are_datagrams = carry.are_datagrams; carries = at_member Carries sent s carry.each member; parts = own.1 };
      position = ap (main_position sent) (sym split.3) ∙ (ap (λ l. sum_by f (take (length split.0) l)) split.2 ∙ (ap (sum_by f) (take-append_seam split.0 (s ∷ split.1)) ∙ sym (length-flat_map datagrams_of split.0)));
      same = same;
      left = λ limit k q has within. left limit k q has same within;
    }

less_packets : (s : Sent) (k : ℕ) (q : Place) → slice_get s.parts.places k ≡ Some q → length s.parts.places ≡ length s.parts.packets → k < length s.parts.packets
less_packets s k q has same = omega (arith, slice_get_within s.parts.places k q has, same)

pub thinned_keeps_bytes : ThinnedKeepsBytes
thinned_keeps_bytes p parts codestreams limit i s r here =
    let w = stands_in_cut p parts codestreams i s r here in
    let kept_at : ℕ → Bool = λ i. is_kept limit (datagram_at (cut_of p parts) i) in (
      ap kept_at w.position ∙ main_is_kept (sent_by p parts) (cut_of p parts) limit w.before w.after s w.codestream w.stands,
      λ k j q has within from to. (
          let position = w.position in
          let h = has_packet s w.codestream k w.stands.carries w.stands.parts (less_packets s k q has w.same) in
          left_is_kept (sent_by p parts) (cut_of p parts) limit w.before w.after s w.codestream k j w.stands h (w.left limit k q has within) (omega (arith, position, from)) (omega (arith, position, to))
          ),
    )

some_got : {A : Type 0} (xs : List A) (k : ℕ) → k < length xs → (x : A) × (slice_get xs k ≡ Some x)
some_got [] k less = absurd (omega arith)
some_got (x ∷ xs) zero less = (x, refl)
some_got (x ∷ xs) (suc k) less = some_got xs k (omega arith)

pub starts_have_resyncs : StartsHaveResyncs
starts_have_resyncs p parts codestreams i k main s r here less =
    let w = stands_in_cut p parts codestreams i s r here in
    let same = w.same in
    let q = some_got s.parts.places k (omega (arith, same, less)) in
    let h = has_packet s w.codestream k w.stands.carries w.stands.parts less in
    let m = start_has_resync (q.0.r + 7) s w.codestream k main w.stands.carries w.stands.parts less h (w.left (q.0.r + 7) k q.0 q.1 (omega arith)) in
    (m.0, contained_has (carried_at main s).resyncs m.0 m.1, m.2, m.3)

pub thinned_is_reached : ThinnedIsReached
thinned_is_reached p parts codestreams limit window i k s q r some here has within =
    let w = stands_in_cut p parts codestreams i s r here in
    ap (λ at. is_reached (kept_positions limit (cut_of p parts)) window (carried_at at s) k (packet_span s at k)) w.position
    ∙ left_is_reached (sent_by p parts) (cut_of p parts) limit window w.before w.after s w.codestream k some w.stands (less_packets s k q has w.same) (w.left limit k q has within)

pub thinned_is_due : ThinnedIsDue
thinned_is_due p parts codestreams limit window i k s q r some here has within =
    let sent : List Sent = sent_by p parts in
    let events : List ℕ = kept_positions limit (cut_of p parts) in
    let carry = cut_carries p parts codestreams r in
    let own = zip_has sent codestreams s carry.are_parts (got_has sent i s here) in
    let same : length s.parts.places ≡ length s.parts.packets = as_many s.parts.head s.parts.places s.parts.content s.parts.packets own.1.are_packets in
    let less : k < 0 + length s.parts.packets = omega (arith, slice_get_within s.parts.places k q has, same) in
    let at : ℕ = main_position sent i in
    let c = carried_at at s in
    let reached = thinned_is_reached p parts codestreams limit window i k s q r some here has within in
    let numbered = made_numbered (packet_span s at) 0 (length s.parts.packets) k (omega arith) less in
    let passed = has_filter (λ p. is_reached events window c p.0 p.1) (enumerate_from 0 c.packets) (k, packet_span s at k) numbered reached in
    let mine : Has (precincts_by (is_reached events window c) c) (record { stamp = s.stamp; precinct = k }) = has_map (λ p. record { stamp = c.stamp; precinct = p.0 }) (filter (λ p. is_reached events window c p.0 p.1) (enumerate_from 0 c.packets)) (k, packet_span s at k) passed in
    let among : Has (carried sent) c = has_map (λ x. carried_at (main_position sent x.0) x.1) (enumerate_from 0 sent) (i, s) (got_numbered 0 i sent i s here (omega arith)) in
    contained_has (due_at_end events window (carried sent)) (record { stamp = s.stamp; precinct = k })
    (has_flat_map (λ c. precincts_by (is_reached events window c) c) (carried sent) c (record { stamp = s.stamp; precinct = k }) among mine)
