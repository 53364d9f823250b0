-- The codestreams of a trial can be sent.
use Rattle.std.proofs.Common.{◌≡◌, ◌≤◌, ◌<◌, ◌+◌, ◌*◌, ◌/◌, ◌%◌, ◌^◌, ◌==◌, ◌++◌, ◌&&◌, ℕ, zero, suc, Bool, true, false, List, [], ◌∷◌, length, map, refl, sym, ap, subst, inl, inr, arith}
use Rattle.std.specs.Prelude.{nat_le}
use Rattle.std.specs.List.{AllByRecursion, AllZip, flat_map, list_all, sum_by, range_with_len}
use Rattle.std.proofs.lemmas.Bool.{cases_Bool, leb-true}
use Rattle.std.proofs.lemmas.List.{length-append, length-map}
use Rattle.std.proofs.lemmas.List.FromFn.{length-range_with_len}
use Rattle.std.proofs.lemmas.List.Sums.{sum_by-cons}
use Rattle.codestream_model.specs.Values.{Head, Place, Grid, Block}
use Rattle.codestream_model.specs.Bytes.{two_bytes, four_bytes, IsBytes}
use Rattle.codestream_model.specs.Segments.{SOC, SOT, SOD, segments_bytes}
use Rattle.codestream_model.specs.Precincts.{IsPrecinct, grids}
use Rattle.codestream_model.specs.PacketOrder.{sum_below, placed as placed_in_order, sorted, packet_order}
use Rattle.codestream_model.specs.TagTrees.{Seat, seats}
use Rattle.codestream_model.specs.MarkedHeader.{end_marker, SpellsMarkedHeader}
use Rattle.codestream_model.specs.Packet.{Content, SpellsPacket}
use Rattle.codestream_model.specs.Codestream.{joined}
use Rattle.codestream_model.proofs.BytesLemmas.{bytes_join}
use Rattle.codestream_model.proofs.PackingLemmas.{bytes-cons, bytes-nil}
use Rattle.codestream_model.proofs.Members.{each_member, contained_has}
use Rattle.stream_model.specs.Stream.{Parts, ArePartsOf, datagrams_of, bytes_after_sod}
use Rattle.stream_model.specs.Cut.{IsPlan, known_of, payloads}
use Rattle.stream_model.proofs.CutBodies.{as_many}
use Rattle.stream_model.proofs.CutPayloads.{payloads_are_whole}
use Rattle.stream_model.proofs.CutStreams.{the_sent, count_of, sent_placed, sent_length}
use Rattle.stream_model.proofs.Positions.{placed}
use Rattle.trial_model.specs.Draws.{draw}
use Rattle.trial_model.specs.Generator.{shape_segments, shape_head, shape_header, draw_refine, draw_block, draw_content, draw_contents, packet_of, packets_of, psot_of, generated_parts, generated}
use Rattle.trial_model.specs.GeneratorLaws.{IsShape, AllArePackets, drawn_contents}
use Rattle.trial_model.specs.Trial.{trial_shape, trial_plan, trial_parts}
use Rattle.trial_model.specs.TrialLaws.{TrialsCanBeSent}
use Rattle.trial_model.proofs.Drawing.{draws_are_within}
use Rattle.trial_model.proofs.GeneratedParts.{generated_has_parts}
use Rattle.trial_model.proofs.MadePackets.{all_drawn, shape_order, drawn_contents_make_packets}
use Rattle.trial_model.proofs.ShapeHeads.{plain_head}

-- The pictures of a trial are of a shape that may be asked for.
pub trial_shape_is : IsShape trial_shape
trial_shape_is = record {
  some_width = omega arith;
  most_width = omega arith;
  some_height = omega arith;
  most_height = omega arith;
  some_component = omega arith;
  few_components = omega arith;
  chroma_x = (omega arith, omega arith);
  chroma_y = (omega arith, omega arith);
  few_levels = omega arith;
  order = inr refl;
}

trial_plan_is : IsPlan trial_plan
trial_plan_is = record {
  least_mtu = omega arith;
  greatest_mtu = omega arith;
  kind = omega arith;
  source = omega arith;
  number = omega arith;
  stamp = omega arith;
  some_step = omega arith;
  step = omega arith;
}

-- Each has 30 precincts.
pub thirty_precincts : length (packet_order (shape_head trial_shape 0)) ≡ 30
unfolding sum_below placed_in_order sorted
thirty_precincts = refl

-- Its packets have at most 109,200 bytes.
abbrev made_packets : ℕ → List (List ℕ)
made_packets seed = packets_of (shape_head trial_shape 0) (packet_order (shape_head trial_shape 0)) (drawn_contents trial_shape seed)

short_packets : (seed : ℕ) → length (joined (made_packets seed)) ≤ 109200
short_packets seed =
    let h = shape_head trial_shape 0 in
    let order = shape_order trial_shape trial_shape_is in
    let each = each_member (IsPrecinct h) (packet_order h) (λ p has. (order.each p).0 (contained_has (packet_order h) p has)) in
    let all = all_drawn h (packet_order h) seed (plain_head trial_shape 0 trial_shape_is) each in
    omega (arith, all.1, thirty_precincts)

-- Its header has 126 bytes.
header_size : (psot : ℕ) → length (shape_header trial_shape psot) ≡ 126
header_size psot = refl

-- What is drawn are bytes,
block_bytes : (s : Seat) (state : ℕ) → IsBytes (draw_block s state).value.bytes
block_bytes s state =
    let passes = draw 4 state in
    let cleanup = draw 63 (draw 8 passes.state).state in
    let refine = draw_refine passes.value cleanup.state in
    elim (cases_Bool (passes.value == 0)) [
      | inl t ↦ rw t bytes-nil
      | inr f ↦ rw f (draws_are_within.bytes (2 + cleanup.value + refine.value) refine.state)
    ]

content_bytes : (ss : List Seat) (state : ℕ) → IsBytes (draw_content ss state).value.bytes
unfolding draw_content
content_bytes [] state = bytes-nil
content_bytes (s ∷ ss) state =
    bytes_join (draw_block s state).value.bytes (draw_content ss (draw_block s state).state).value.bytes
    (block_bytes s state) (content_bytes ss (draw_block s state).state)

-- so are the headers of packets,
marker_bytes : (eph : Bool) → IsBytes (end_marker eph)
marker_bytes false = bytes-nil
marker_bytes true = bytes-cons 255 (146 ∷ []) (omega arith) (bytes-cons 146 [] (omega arith) bytes-nil)

marked_bytes : (gs : List Grid) (eph : Bool) (blocks : List Block) (bytes : List ℕ) → SpellsMarkedHeader gs eph blocks bytes → IsBytes bytes
marked_bytes gs eph blocks bytes s =
    let P : List ℕ → Type 0 = λ l. IsBytes l in
    subst P (sym s.whole) (bytes_join s.header (end_marker eph) s.is_header.packs.each (marker_bytes eph))

-- the packets,
packet_bytes : (h : Head) (p : Place) (x : Content) → SpellsPacket h p x (packet_of h p x) → IsBytes x.bytes → IsBytes (packet_of h p x)
packet_bytes h p x s is =
    let P : List ℕ → Type 0 = λ l. IsBytes l in
    subst P (sym s.whole) (bytes_join s.header x.bytes (marked_bytes (grids h p) h.eph x.blocks s.header s.is_header) is)

all_bytes : (h : Head) (places : List Place) (state : ℕ) → AllArePackets h places (draw_contents h places state).value
    → IsBytes (joined (packets_of h places (draw_contents h places state).value))
unfolding draw_contents
all_bytes h [] state all = bytes-nil
all_bytes h (p ∷ places) state all =
    let first = draw_content (flat_map seats (grids h p)) state in
    let later = (draw_contents h places first.state).value in
    bytes_join (packet_of h p first.value) (joined (packets_of h places later))
    (packet_bytes h p first.value all.0 (content_bytes (flat_map seats (grids h p)) state)) (all_bytes h places first.state all.1)

-- and the main header.
abbrev is_byte : ℕ → Bool
is_byte b = nat_le b 255

tested : (bytes : List ℕ) → list_all is_byte bytes ≡ true → IsBytes bytes
tested [] h = bytes-nil
tested (b ∷ bytes) h = by (nat_le b 255) refl h (tested bytes) where
  by : (t : Bool) → nat_le b 255 ≡ t → (t && list_all is_byte bytes) ≡ true → (list_all is_byte bytes ≡ true → IsBytes bytes) → IsBytes (b ∷ bytes)
  by true low k later = bytes-cons b bytes (omega (arith, leb-true b 255 low)) (later k)
  by false low k later = absurd (cc)

header_bytes : (psot : ℕ) → psot < 2 ^ 32 → IsBytes (shape_header trial_shape psot)
header_bytes psot small =
    let front = two_bytes SOC ++ segments_bytes (shape_segments trial_shape) in
    let last = 0 ∷ 1 ∷ two_bytes SOD in
    let number = bytes-cons (psot / 16777216) ((psot / 65536 % 256) ∷ (psot / 256 % 256) ∷ (psot % 256) ∷ last) (omega (arith, small)) (
    bytes-cons (psot / 65536 % 256) ((psot / 256 % 256) ∷ (psot % 256) ∷ last) (omega arith) (
    bytes-cons (psot / 256 % 256) ((psot % 256) ∷ last) (omega arith) (bytes-cons (psot % 256) last (omega arith) (tested last refl))
    )
    ) in
    bytes_join front (two_bytes SOT ++ (two_bytes 10 ++ (0 ∷ 0 ∷ four_bytes psot ++ last))) (tested front refl)
    (bytes_join (two_bytes SOT ++ (two_bytes 10 ++ (0 ∷ 0 ∷ []))) (four_bytes psot ++ last) (tested (two_bytes SOT ++ (two_bytes 10 ++ (0 ∷ 0 ∷ []))) refl) number)

codestream_bytes : (seed : ℕ) → IsBytes (generated trial_shape seed)
codestream_bytes seed =
    let h = shape_head trial_shape 0 in
    let packets = made_packets seed in
    let made = drawn_contents_make_packets trial_shape seed trial_shape_is in
    bytes_join (shape_header trial_shape (psot_of packets)) (joined packets ++ 255 ∷ 217 ∷ [])
    (header_bytes (psot_of packets) (omega (arith, short_packets seed)))
    (bytes_join (joined packets) (255 ∷ 217 ∷ []) (all_bytes h (packet_order h) seed made.packets) (tested (255 ∷ 217 ∷ []) refl))

-- As many payloads as bytes, at most.
few_by_bytes : (room : ℕ) (xs : List (List ℕ)) → AllByRecursion (λ x. (1 ≤ length x) × (length x ≤ room)) xs → length xs ≤ length (joined xs)
few_by_bytes room [] h = omega arith
few_by_bytes room (x ∷ xs) h = omega (arith, h.0.0, few_by_bytes room xs h.1, length-append x (joined xs))

few_payloads : (seed : ℕ) → length (payloads trial_plan (known_of (generated_parts trial_shape seed))) ≤ 109202
few_payloads seed =
    let c = generated_parts trial_shape seed in
    let is = generated_has_parts trial_shape seed trial_shape_is in
    let whole = payloads_are_whole trial_plan c (omega arith) (as_many c.head c.places c.content c.packets is.are_packets) in
    omega (
      arith,
      few_by_bytes 1380 (payloads trial_plan (known_of c)) whole.1,
      ap length whole.0,
      length-append (joined c.packets) (255 ∷ 217 ∷ []),
      short_packets seed,
    )

-- The parts of the codestreams from one on.
abbrev nth_seed : ℕ → ℕ → ℕ
nth_seed seed i = (seed + i) % 2 ^ 64

abbrev parts_from : ℕ → ℕ → ℕ → List Parts
parts_from seed from n = map (λ i. generated_parts trial_shape (nth_seed seed i)) (range_with_len from n)

abbrev codestreams_from : ℕ → ℕ → ℕ → List (List ℕ)
codestreams_from seed from n = map (λ i. generated trial_shape (nth_seed seed i)) (range_with_len from n)

are_parts : (seed from n : ℕ) → AllZip (λ c codestream. ArePartsOf c codestream) (parts_from seed from n) (codestreams_from seed from n)
are_parts seed from zero = tt
are_parts seed from (suc n) = (generated_has_parts trial_shape (nth_seed seed from) trial_shape_is, are_parts seed (from + 1) n)

all_fit : (seed from n : ℕ) → AllByRecursion (λ c. length c.header ≤ 1380) (parts_from seed from n)
all_fit seed from zero = tt
all_fit seed from (suc n) = (omega (arith, header_size (psot_of (made_packets (nth_seed seed from)))), all_fit seed (from + 1) n)

few_datagrams : (seed from n i at : ℕ) → length (flat_map datagrams_of (placed (count_of trial_plan) (the_sent trial_plan) i at (parts_from seed from n))) ≤ n * 109203
few_datagrams seed from zero i at = omega arith
few_datagrams seed from (suc n) i at =
    let c = generated_parts trial_shape (nth_seed seed from) in
    let later = placed (count_of trial_plan) (the_sent trial_plan) (i + 1) (at + count_of trial_plan c) (parts_from seed (from + 1) n) in
    omega (
      arith,
      length-append (datagrams_of (the_sent trial_plan i at c)) (flat_map datagrams_of later),
      sent_length trial_plan i at c,
      few_payloads (nth_seed seed from),
      few_datagrams seed (from + 1) n (i + 1) (at + count_of trial_plan c),
    )

few_bytes : (seed from n : ℕ) → length (joined (codestreams_from seed from n)) ≤ n * 109328
few_bytes seed from zero = omega arith
few_bytes seed from (suc n) =
    let c = generated_parts trial_shape (nth_seed seed from) in
    omega (
      arith,
      length-append (generated trial_shape (nth_seed seed from)) (joined (codestreams_from seed (from + 1) n)),
      length-append c.header (bytes_after_sod c),
      length-append (joined c.packets) (255 ∷ 217 ∷ []),
      header_size (psot_of (made_packets (nth_seed seed from))),
      short_packets (nth_seed seed from),
      few_bytes seed (from + 1) n,
    )

precincts_from : (seed from n : ℕ) → sum_by (λ c. length c.places) (parts_from seed from n) ≡ n * 30
precincts_from seed from zero = refl
precincts_from seed from (suc n) =
    omega (arith, thirty_precincts, precincts_from seed (from + 1) n, sum_by-cons (λ (c : Parts). length c.places) (generated_parts trial_shape (nth_seed seed from)) (parts_from seed (from + 1) n))

are_bytes : (seed from n : ℕ) → AllByRecursion IsBytes (codestreams_from seed from n)
are_bytes seed from zero = tt
are_bytes seed from (suc n) = (codestream_bytes (nth_seed seed from), are_bytes seed (from + 1) n)

pub trials_can_be_sent : TrialsCanBeSent
trials_can_be_sent seed count few = record {
  can_be_sent = record {
    plan = trial_plan_is;
    are_parts = are_parts seed 0 count;
    bytes = are_bytes seed 0 count;
    fit = all_fit seed 0 count;
    few = omega (arith, few, length-map (range_with_len 0 count) (λ (i : ℕ). generated trial_shape (nth_seed seed i)), length-range_with_len 0 count);
    short = omega (
      arith,
      few,
      ap (λ l. length (flat_map datagrams_of l)) (sent_placed trial_plan (trial_parts seed count)),
      few_datagrams seed 0 count 0 0,
    );
  };
  short = omega (arith, few, few_bytes seed 0 count);
  precincts = precincts_from seed 0 count;
}
