-- How many packets the receiver of a trial releases at most.
use Rattle.std.proofs.Common.{◌≡◌, ◌≤◌, ◌+◌, ℕ, suc, Bool, true, false, cond, List, [], ◌∷◌, map, length, refl, ◌∙◌, ap, arith}
use Rattle.std.specs.List.{AllZip, filter, sum_by, enumerate_from, range_with_len}
use Rattle.std.proofs.lemmas.List.{length-append, length-map}
use Rattle.std.proofs.lemmas.List.FromFn.{length-range_with_len, length-enumerate_from}
use Rattle.std.proofs.lemmas.List.Sums.{sum_by-cons}
use Rattle.codestream_model.specs.Values.{Head, Place}
use Rattle.codestream_model.specs.Packet.{Content}
use Rattle.stream_model.specs.Cut.{Plan, sent_by}
use Rattle.stream_model.specs.Reached.{Carried, CarriedPacket, StreamPrecinct, is_reached, precincts_by, due_at_end}
use Rattle.stream_model.specs.Stream.{Parts, Sent, ArePackets, ArePartsOf, carried, carried_at, main_position, packet_span}

-- A part of a list isn't longer than the list.
filter_few : {A : Type 0} (t : A → Bool) (xs : List A) → length (filter t xs) ≤ length xs
filter_few t [] = omega arith
filter_few t (x ∷ xs) = by (t x) (filter_few t xs) where
  by : (b : Bool) → length (filter t xs) ≤ length xs → length (cond b (x ∷ filter t xs) (filter t xs)) ≤ suc (length xs)
  by true few = omega (arith, few)
  by false few = omega (arith, few)

-- At most all precincts are due.
due_few : (events : List ℕ) (window : ℕ) (stream : List Carried) → length (due_at_end events window stream) ≤ sum_by (λ c. length c.packets) stream
due_few events window [] = omega arith
due_few events window (c ∷ stream) =
    let due = precincts_by (is_reached events window c) c in
    let joined = length-append due (due_at_end events window stream) in
    let precinct : ℕ × CarriedPacket → StreamPrecinct = λ p. record { stamp = c.stamp; precinct = p.0 } in
    let mine = length-map (filter (λ (p : ℕ × CarriedPacket). is_reached events window c p.0 p.1) (enumerate_from 0 c.packets)) precinct in
    let few = filter_few (λ (p : ℕ × CarriedPacket). is_reached events window c p.0 p.1) (enumerate_from 0 c.packets) in
    let all = length-enumerate_from 0 c.packets in
    let sum = sum_by-cons (λ (x : Carried). length x.packets) c stream in
    omega (arith, joined, mine, few, all, sum, due_few events window stream)

-- The packets of the codestreams that are carried.
carried_packets : (at : ℕ × Sent → ℕ) (from : ℕ) (sent : List Sent) → sum_by (λ c. length c.packets) (map (λ x. carried_at (at x) x.1) (enumerate_from from sent)) ≡ sum_by (λ s. length s.parts.packets) sent
carried_packets at from [] = refl
carried_packets at from (s ∷ sent) =
    let main = at (from, s) in
    let c = carried_at main s in
    let mine : length c.packets ≡ length s.parts.packets = length-map (range_with_len 0 (length s.parts.packets)) (packet_span s main) ∙ length-range_with_len 0 (length s.parts.packets) in
    let first = sum_by-cons (λ (x : Carried). length x.packets) c (map (λ (x : ℕ × Sent). carried_at (at x) x.1) (enumerate_from (from + 1) sent)) in
    let second = sum_by-cons (λ (x : Sent). length x.parts.packets) s sent in
    omega (arith, mine, first, second, carried_packets at (from + 1) sent)

sent_packets : (send : ℕ × Parts → Sent) (from : ℕ) (parts : List Parts) → ((x : ℕ × Parts) → (send x).parts ≡ x.1) → sum_by (λ s. length s.parts.packets) (map send (enumerate_from from parts)) ≡ sum_by (λ c. length c.packets) parts
sent_packets send from [] is = refl
sent_packets send from (c ∷ parts) is =
    let mine : length (send (from, c)).parts.packets ≡ length c.packets = ap (λ (p : Parts). length p.packets) (is (from, c)) in
    let first = sum_by-cons (λ (x : Sent). length x.parts.packets) (send (from, c)) (map send (enumerate_from (from + 1) parts)) in
    let second = sum_by-cons (λ (x : Parts). length x.packets) c parts in
    omega (arith, mine, first, second, sent_packets send (from + 1) parts is)

-- There is a packet for each precinct.
packet_each : (h : Head) (places : List Place) (content : List Content) (packets : List (List ℕ)) → ArePackets h places content packets → length packets ≡ length places
packet_each h [] [] [] are = refl
packet_each h [] [] (b ∷ packets) are = absurd are
packet_each h [] (x ∷ content) packets are = absurd are
packet_each h (p ∷ places) [] packets are = absurd are
packet_each h (p ∷ places) (x ∷ content) [] are = absurd are
packet_each h (p ∷ places) (x ∷ content) (b ∷ packets) are = omega (arith, packet_each h places content packets are.1)

packets_each : (parts : List Parts) (codestreams : List (List ℕ)) → AllZip (λ c codestream. ArePartsOf c codestream) parts codestreams → sum_by (λ c. length c.packets) parts ≡ sum_by (λ c. length c.places) parts
packets_each [] [] all = refl
packets_each [] (b ∷ codestreams) all = absurd all
packets_each (c ∷ parts) [] all = absurd all
packets_each (c ∷ parts) (b ∷ codestreams) all =
    let mine = packet_each c.head c.places c.content c.packets all.0.are_packets in
    let first = sum_by-cons (λ (x : Parts). length x.packets) c parts in
    let second = sum_by-cons (λ (x : Parts). length x.places) c parts in
    omega (arith, mine, first, second, packets_each parts codestreams all.1)

-- At most as many packets are released as there are precincts.
pub released_few : (p : Plan) (parts : List Parts) (codestreams : List (List ℕ)) (window : ℕ) (events : List ℕ) → AllZip (λ c codestream. ArePartsOf c codestream) parts codestreams
    → length (due_at_end events window (carried (sent_by p parts))) ≤ sum_by (λ c. length c.places) parts
released_few p parts codestreams window events all =
    let sent = sent_by p parts in
    let due = due_few events window (carried sent) in
    let packets = carried_packets (λ x. main_position sent x.0) 0 sent in
    let of_parts : sum_by (λ s. length s.parts.packets) sent ≡ sum_by (λ c. length c.packets) parts = sent_packets _ 0 parts (λ x. refl) in
    omega (arith, due, packets, of_parts, packets_each parts codestreams all)
