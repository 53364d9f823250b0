-- A precinct is found by the place of its packet, and the events by the frames.
use Rattle.std.proofs.Common.{◌≡◌, ◌<◌, ◌≤◌, ◌+◌, ◌%◌, ◌^◌, ℕ, zero, suc, Bool, true, List, [], ◌∷◌, ◌++◌, map, length, take, get_or, refl, sym, subst, ap, ◌∙◌, arith}
use Rattle.std.specs.Prelude.{nat_lt}
use Rattle.std.specs.List.{AllByRecursion, AllZip, flat_map, sum_by, range_with_len}
use Rattle.std.proofs.lemmas.Bool.{lt-ltb, ltb-true}
use Rattle.std.proofs.lemmas.List.{length-append, get_or-map}
use Rattle.std.proofs.lemmas.List.FromFn.{length-range_with_len, get_or-range_with_len, get_or-map-range_with_len}
use Rattle.std.proofs.lemmas.List.Sums.{sum_by-cons, prefix_len_is}
use Rattle.codestream_model.specs.MarkedHeader.{end_marker}
use Rattle.wire_model.specs.Datagram.{Datagram, IsDatagram, datagram_of}
use Rattle.wire_model.proofs.DatagramLaws.{datagram_is_computed}
use Rattle.wire_model.proofs.RtpLaws.{rtp_is_read_one_way}
use Rattle.wire_model.proofs.PayloadLaws.{payload_is_read_one_way}
use Rattle.codestream_model.specs.Values.{Head, Place}
use Rattle.codestream_model.specs.Packet.{Content, SpellsPacket}
use Rattle.stream_model.specs.Arrivals.{datagram_at}
use Rattle.stream_model.specs.Stream.{ArePackets, Sent, Carry, datagrams_of, extended_number, packet_start}
use Rattle.stream_model.specs.Laws.{PrecinctIsFound, EventsAreOne}
use Rattle.stream_model.proofs.Bases.{not_true}
use Rattle.stream_model.proofs.StreamShapes.{sum-take-up, counts_front}

-- no packet is empty
some_bytes : (xs : List ℕ) (y : ℕ) (ys : List ℕ) → 1 ≤ length (xs ++ y ∷ ys)
some_bytes xs y ys = omega (arith, length-append xs (y ∷ ys))

pub packet_has_bytes : (h : Head) (p : Place) (x : Content) (b : List ℕ) → SpellsPacket h p x b → 1 ≤ length b
packet_has_bytes h p x b r =
    let packs = r.is_header.is_header.packs in
    let some : 1 ≤ length r.is_header.header = (let P : List ℕ → Type 0 = λ ys. 1 ≤ length ys in subst P (sym packs.whole) (some_bytes packs.front packs.last packs.closing)) in
    let header : 1 ≤ length r.header = omega (arith, ap length r.is_header.whole, length-append r.is_header.header (end_marker h.eph)) in
    let all : length b ≡ length r.header + length x.bytes = ap (λ ys. length ys) r.whole ∙ length-append r.header x.bytes in
    omega arith

pub packets_have_bytes : (h : Head) (places : List Place) (content : List Content) (packets : List (List ℕ)) → ArePackets h places content packets → AllByRecursion (λ b. 1 ≤ length b) packets
packets_have_bytes h [] [] [] r = tt
packets_have_bytes h [] [] (b ∷ packets) r = absurd r
packets_have_bytes h [] (x ∷ content) packets r = absurd r
packets_have_bytes h (p ∷ places) [] packets r = absurd r
packets_have_bytes h (p ∷ places) (x ∷ content) [] r = absurd r
packets_have_bytes h (p ∷ places) (x ∷ content) (b ∷ packets) r = (packet_has_bytes h p x b r.0, packets_have_bytes h places content packets r.1)

-- so the place of a packet is below that of each later one
pub starts_rise : (packets : List (List ℕ)) (j k : ℕ) → AllByRecursion (λ b. 1 ≤ length b) packets → j < k → k ≤ length packets → sum_by (λ b. length b) (take j packets) < sum_by (λ b. length b) (take k packets)
starts_rise [] j zero h less most = absurd (omega arith)
starts_rise [] j (suc k) h less most = absurd (omega arith)
starts_rise (b ∷ packets) j zero h less most = absurd (omega arith)
starts_rise (b ∷ packets) zero (suc k) h less most = omega (arith, h.0, sum_by-cons (λ b. length b) b (take k packets))
starts_rise (b ∷ packets) (suc j) (suc k) h less most =
    let ih : sum_by (λ b. length b) (take j packets) < sum_by (λ b. length b) (take k packets) = starts_rise packets j k h.1 (omega arith) (omega arith) in
    omega (arith, sum_by-cons (λ b. length b) b (take k packets), sum_by-cons (λ b. length b) b (take j packets))

pub precinct_is_found : PrecinctIsFound
precinct_is_found c codestream k r within =
    let packets : List (List ℕ) = c.packets in
    let n : ℕ = length packets in
    let p : ℕ → Bool = λ j. nat_lt (packet_start c j) (packet_start c k) in
    let some : AllByRecursion (λ b. 1 ≤ length b) packets = packets_have_bytes c.head c.places c.content packets r.are_packets in
    let down : (j : ℕ) → p (j + 1) ≡ true → p j ≡ true = λ j h.
    (let high : packet_start c (j + 1) < packet_start c k = ltb-true (packet_start c (j + 1)) (packet_start c k) h in
    let up : packet_start c j ≤ packet_start c (j + 1) = sum-take-up (λ b. length b) packets j in
    lt-ltb (packet_start c j) (packet_start c k) (omega arith)) in
    counts_front p 0 n down
    ∙ prefix_len_is p (range_with_len 0 n) k 0
    (omega (arith, length-range_with_len 0 n))
    (λ j h.
    (let at : get_or (range_with_len 0 n) j 0 ≡ j = get_or-range_with_len 0 n j 0 (omega arith) ∙ (let z : 0 + j ≡ j = omega arith in z) in
    ap p at ∙ lt-ltb (packet_start c j) (packet_start c k) (starts_rise packets j k some h (omega arith))))
    (λ h.
    (let at : get_or (range_with_len 0 n) k 0 ≡ k = get_or-range_with_len 0 n k 0 within ∙ (let z : 0 + k ≡ k = omega arith in z) in
    ap p at ∙ not_true (p k) (λ t. let l : packet_start c k < packet_start c k = ltb-true (packet_start c k) (packet_start c k) t in omega arith)))

-- the extended numbers of a stream's datagrams are those of their bytes
number_of : List ℕ → ℕ
number_of b = extended_number (datagram_of b)

numbers_of : (xs : List Datagram) (datagrams : List (List ℕ)) → AllZip IsDatagram xs datagrams → map extended_number xs ≡ map number_of datagrams
unfolding number_of
numbers_of [] [] r = refl
numbers_of [] (b ∷ datagrams) r = absurd r
numbers_of (x ∷ xs) [] r = absurd r
numbers_of (x ∷ xs) (b ∷ datagrams) r =
    let same : x ≡ datagram_of b = (datagram_is_computed rtp_is_read_one_way payload_is_read_one_way x b r.0).1 in
    ap (λ y. extended_number y ∷ map extended_number xs) same ∙ ap (λ ys. number_of b ∷ ys) (numbers_of xs datagrams r.1)

number_here : (sent : List Sent) (codestreams datagrams : List (List ℕ)) (i : ℕ) → (r : Carry sent codestreams datagrams) → i < length datagrams → number_of (datagram_at datagrams i) ≡ (r.number + i) % 2 ^ 24
number_here sent codestreams datagrams i r within =
    let all : map number_of datagrams ≡ map (λ i. (r.number + i) % 2 ^ 24) (range_with_len 0 (length datagrams)) =
    sym (numbers_of (flat_map datagrams_of sent) datagrams r.are_datagrams) ∙ r.numbers in
    sym (get_or-map number_of datagrams i [] (number_of []) within)
    ∙ (ap (λ ys. get_or ys i (number_of [])) all
    ∙ get_or-map-range_with_len (λ i. (r.number + i) % 2 ^ 24) 0 (length datagrams) i i (number_of []) within (omega arith))

-- so a datagram is at one position
apart : (a i j : ℕ) → i < 8388608 → j < 8388608 → (a + i) % 16777216 ≡ (a + j) % 16777216 → i ≡ j
apart a i j h k e = omega arith

one_position : (sent : List Sent) (codestreams datagrams : List (List ℕ)) (i j : ℕ) → Carry sent codestreams datagrams → i < length datagrams → j < length datagrams → datagram_at datagrams i ≡ datagram_at datagrams j → i ≡ j
one_position sent codestreams datagrams i j r h k same =
    let few : length datagrams < 8388608 = r.few in
    let e : (r.number + i) % 2 ^ 24 ≡ (r.number + j) % 2 ^ 24 =
    sym (number_here sent codestreams datagrams i r h) ∙ (ap (λ b. number_of b) same ∙ number_here sent codestreams datagrams j r k) in
    apart r.number i j (omega arith) (omega arith) e

one_list : (sent : List Sent) (codestreams datagrams : List (List ℕ)) (events others : List ℕ) → Carry sent codestreams datagrams
    → AllByRecursion (λ i. i < length datagrams) events → AllByRecursion (λ i. i < length datagrams) others
    → map (datagram_at datagrams) events ≡ map (datagram_at datagrams) others → events ≡ others
one_list sent codestreams datagrams [] [] r h k e = refl
one_list sent codestreams datagrams [] (j ∷ others) r h k e = absurd (cc)
one_list sent codestreams datagrams (i ∷ events) [] r h k e = absurd (cc)
one_list sent codestreams datagrams (i ∷ events) (j ∷ others) r h k e =
    let first : datagram_at datagrams i ≡ datagram_at datagrams j = cc in
    let more : map (datagram_at datagrams) events ≡ map (datagram_at datagrams) others = cc in
    ap (λ n. n ∷ events) (one_position sent codestreams datagrams i j r h.0 k.0 first)
    ∙ ap (λ ys. j ∷ ys) (one_list sent codestreams datagrams events others r h.1 k.1 more)

pub events_are_one : EventsAreOne
events_are_one sent codestreams datagrams frames events others r a b = one_list sent codestreams datagrams events others r a.within b.within (sym a.each ∙ b.each)
