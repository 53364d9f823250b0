-- An input that fixes more datagrams than a run may send: copies of a codestream of 129 datagrams.
use Rattle.std.proofs.Common.{◌≡◌, ◌≤◌, ◌<◌, ◌+◌, ◌-◌, ◌*◌, ℕ, zero, suc, true, false, List, [], ◌∷◌, ◌++◌, map, length, take, drop, replicate, get_or, Ok, subst, refl, sym, ◌∙◌, ap, inl, inr, arith}
use Rattle.std.specs.Prelude.{◌==◌, ◌&&◌}
use Rattle.std.specs.List.{AllByRecursion, AllZip, sum_by, enumerate_from}
use Rattle.std.proofs.lemmas.List.{append-nil, length-append, length-map, length-replicate, take-append-drop, take-append-le, take_all}
use Rattle.std.proofs.Math.Seq.{take-append-add}
use Rattle.std.proofs.lemmas.List.Sums.{sum_by-cons, sum_by-append}
use Rattle.std.proofs.lemmas.List.FromFn.{length-enumerate_from}
use Rattle.wire_model.specs.Datagram.{Datagram}
use Rattle.codestream_model.specs.Values.{Head, Place}
use Rattle.codestream_model.specs.Bytes.{IsBytes}
use Rattle.codestream_model.specs.StuffedBits.{number_bits, number_of, carried_after, sound_after, bytes_of_bits}
use Rattle.codestream_model.specs.MainHeader.{SpellsHead}
use Rattle.codestream_model.specs.MainHeaderReading.{read_tile, read_main, head_of}
use Rattle.codestream_model.specs.PacketHeaderReading.{read_label, read_passes, read_lblock, read_number, read_block, known_label, read_inclusion, read_planes, read_seats, read_grids, read_bits, header_of}
use Rattle.codestream_model.specs.PacketOrder.{sum_below, placed, sorted, packet_order, IsPacketOrder}
use Rattle.codestream_model.specs.SegmentTests.{siz_tests, cap_tests, cod_tests, tile_tests}
use Rattle.codestream_model.specs.TagTrees.{halvings, levels_from}
use Rattle.codestream_model.specs.RefusedHeader.{segment_tests, skipped_tests}
use Rattle.codestream_model.specs.Codestream.{IsPsotRight, joined}
use Rattle.codestream_model.proofs.BytesLemmas.{bytes_join}
use Rattle.codestream_model.proofs.SegmentBytes.{bytes-drop}
use Rattle.codestream_model.proofs.HeaderLimits.{header_has_components}
use Rattle.codestream_model.proofs.Orders.{packet_order_is_computed}
use Rattle.codestream_model.proofs.WorkedRelations.{bytes_if_tested, spells_if_read}
use Rattle.stream_model.specs.Decoder.{found_packet}
use Rattle.stream_model.specs.Commands.{counted, walk}
use Rattle.stream_model.specs.Stream.{Parts, ArePartsOf}
use Rattle.stream_model.specs.Cut.{Plan, Known, known_of, sendable, datagrams_by, payloads, payload_place, body_at, stamp_at}
use Rattle.stream_model.proofs.GrownDatagrams.{those_of, many_of, all_of, datagrams_placed}
use Rattle.stream_model.proofs.WorkedCuts.{plan_of}
use Rattle.sender_model.specs.Closing.{pieces_at, walk_of, known, due_by}
use Rattle.sender_model.specs.Refusals.{TooManyDatagrams, HasManyDatagrams, HasFewDatagrams, SenderRefuses}
use Rattle.sender_model.proofs.PiecesFound.{Ends, Opens, opens}
use Rattle.sender_model.proofs.ClosedComputed.{wholes_known, none_known}
use Rattle.sender_model.proofs.Refused.{Fits, parts_fit, all_sent, all_counted}

-- the main header of an image of one sample in 16 components with seven decomposition levels
unfoldable pub header_of_many : List ℕ
header_of_many =
    255 ∷ 79 ∷ 255 ∷ 81 ∷ 0 ∷ 86 ∷ 64 ∷ 0 ∷ 0 ∷ 0 ∷ 0 ∷ 1 ∷ 0 ∷ 0 ∷ 0 ∷ 1 ∷ 0 ∷ 0 ∷ 0 ∷ 0
    ∷ 0 ∷ 0 ∷ 0 ∷ 0 ∷ 0 ∷ 0 ∷ 0 ∷ 1 ∷ 0 ∷ 0 ∷ 0 ∷ 1 ∷ 0 ∷ 0 ∷ 0 ∷ 0 ∷ 0 ∷ 0 ∷ 0 ∷ 0
    ∷ 0 ∷ 16 ∷ 7 ∷ 1 ∷ 1 ∷ 7 ∷ 1 ∷ 1 ∷ 7 ∷ 1 ∷ 1 ∷ 7 ∷ 1 ∷ 1 ∷ 7 ∷ 1 ∷ 1 ∷ 7 ∷ 1 ∷ 1
    ∷ 7 ∷ 1 ∷ 1 ∷ 7 ∷ 1 ∷ 1 ∷ 7 ∷ 1 ∷ 1 ∷ 7 ∷ 1 ∷ 1 ∷ 7 ∷ 1 ∷ 1 ∷ 7 ∷ 1 ∷ 1 ∷ 7 ∷ 1
    ∷ 1 ∷ 7 ∷ 1 ∷ 1 ∷ 7 ∷ 1 ∷ 1 ∷ 7 ∷ 1 ∷ 1 ∷ 255 ∷ 80 ∷ 0 ∷ 8 ∷ 0 ∷ 2 ∷ 0 ∷ 0 ∷ 0 ∷ 0
    ∷ 255 ∷ 82 ∷ 0 ∷ 12 ∷ 0 ∷ 3 ∷ 0 ∷ 1 ∷ 0 ∷ 7 ∷ 4 ∷ 4 ∷ 64 ∷ 1 ∷ 255 ∷ 92 ∷ 0 ∷ 25 ∷ 64 ∷ 72
    ∷ 72 ∷ 72 ∷ 72 ∷ 72 ∷ 72 ∷ 72 ∷ 72 ∷ 72 ∷ 72 ∷ 72 ∷ 72 ∷ 72 ∷ 72 ∷ 72 ∷ 72 ∷ 72 ∷ 72 ∷ 72 ∷ 72 ∷ 72
    ∷ 72 ∷ 255 ∷ 144 ∷ 0 ∷ 10 ∷ 0 ∷ 0 ∷ 0 ∷ 0 ∷ 0 ∷ 0 ∷ 0 ∷ 1 ∷ 255 ∷ 147 ∷ []

-- its values
abbrev pub head_of_many : Head
head_of_many = record {
  x0 = 0;
  y0 = 0;
  x1 = 1;
  y1 = 1;
  steps = replicate 16 (record { x = 1; y = 1 });
  levels = 7;
  block = record { x = 6; y = 6 };
  precincts = replicate 8 (record { x = 15; y = 15 });
  order = 3;
  eph = false;
  psot = 0;
  sot = 141;
  length = 155;
}

-- a codestream of 128 empty packets, no two of one resolution in a row
abbrev pub codestream_of_many : List ℕ
codestream_of_many = header_of_many ++ (replicate 128 0 ++ 255 ∷ 217 ∷ [])

-- each packet has a datagram of its own in `split` mode
abbrev pub split_plan : Plan
split_plan = plan_of 1400 true

many_is_read : head_of codestream_of_many ≡ Ok head_of_many
unfolding header_of_many known pieces_at walk found_packet number_bits number_of carried_after sound_after bytes_of_bits read_tile read_main head_of read_label read_passes read_lblock read_number read_block known_label read_inclusion read_planes read_seats read_grids read_bits header_of sum_below placed sorted siz_tests cap_tests cod_tests tile_tests halvings levels_from segment_tests skipped_tests
many_is_read = refl

many_ends : ((walk_of head_of_many codestream_of_many).whole ≡ true) × ((walk_of head_of_many codestream_of_many).rest ≡ [])
unfolding header_of_many known pieces_at walk found_packet number_bits number_of carried_after sound_after bytes_of_bits read_tile read_main head_of read_label read_passes read_lblock read_number read_block known_label read_inclusion read_planes read_seats read_grids read_bits header_of sum_below placed sorted siz_tests cap_tests cod_tests tile_tests halvings levels_from segment_tests skipped_tests
many_ends = (refl, refl)

many_are_bytes : IsBytes codestream_of_many
unfolding header_of_many
many_are_bytes = bytes_if_tested codestream_of_many refl

size_of_many : length codestream_of_many ≡ 285
unfolding header_of_many
size_of_many = refl

-- of what is known of a codestream: the datagrams, the bytes of the main header and those of all datagrams and of the
-- first 124
abbrev figures : Known → List ℕ
figures c =
    many_of split_plan c
    ∷ length c.header
    ∷ sum_by (λ b. length b) (c.header ∷ payloads split_plan c)
    ∷ sum_by (λ b. length b) (take 124 (c.header ∷ payloads split_plan c))
    ∷ []

many_are_due : map figures (known 1 (codestream_of_many ++ [])) ≡ (129 ∷ 155 ∷ 285 ∷ 278 ∷ []) ∷ []
unfolding header_of_many known pieces_at walk found_packet number_bits number_of carried_after sound_after bytes_of_bits read_tile read_main head_of read_label read_passes read_lblock read_number read_block known_label read_inclusion read_planes read_seats read_grids read_bits header_of sum_below placed sorted siz_tests cap_tests cod_tests tile_tests halvings levels_from segment_tests skipped_tests
many_are_due = refl

-- a figure of the first list
abbrev figure : ℕ → List (List ℕ) → ℕ
figure i [] = 0
figure i (x ∷ more) = get_or x i 0

-- the parts of a codestream by the way the walk over it ends
parts_by_end : (b : List ℕ) (h : Head) → SpellsHead h (take h.length b) → (o : Opens h h.length (packet_order h) (drop h.length b)) → (walk_of h b).whole ≡ true → (walk_of h b).rest ≡ []
    → Ends h (h.length + length (joined o.packets)) o.later o.opened o.rest (walk_of h b) → (c : Parts) × ArePartsOf c b
parts_by_end b h s o ended left (inl (whole, later, opened, psot, tail)) =
    let header = take h.length b in
    let c : Parts = record { head = h; header = header; places = o.before; content = o.content; packets = o.packets } in
    let O : List Place → Type 0 = λ l. IsPacketOrder h l in
    let S : ℕ → Type 0 = λ i. IsPsotRight h (i + length (joined o.packets)) in
    let places : packet_order h ≡ o.before = o.order ∙ (ap (λ l. o.before ++ l) later ∙ append-nil o.before) in
    let size : h.length ≡ length header = ap (λ (x : Head). x.length) s.values in
    let end : o.rest ≡ 255 ∷ 217 ∷ [] = tail ∙ ap (λ (l : List ℕ). 255 ∷ 217 ∷ l) left in (
      c,
      record {
        is_head = s;
        order = subst O places (packet_order_is_computed h (header_has_components h header s).steps);
        are_packets = o.are;
        psot = subst S size psot;
        whole = sym (take-append-drop h.length b) ∙ ap (λ (l : List ℕ). header ++ l) (o.whole ∙ ap (λ (l : List ℕ). joined o.packets ++ l) end);
      },
    )
parts_by_end b h s o ended left (inr unended) = absurd (let e : true ≡ false = sym ended ∙ unended in cc)

parts_of_many : (c : Parts) × ArePartsOf c codestream_of_many
parts_of_many =
    let o = opens head_of_many 155 (packet_order head_of_many) (drop 155 codestream_of_many) (bytes-drop 155 codestream_of_many many_are_bytes) in
    parts_by_end codestream_of_many head_of_many (spells_if_read codestream_of_many head_of_many many_are_bytes many_is_read) o many_ends.0 many_ends.1 o.ends

-- the datagrams of one codestream
those_counted : (p : Plan) (i at : ℕ) (c : Known) → length (those_of p i at c) ≡ many_of p c
those_counted p i at c =
    let g = λ (x : ℕ × List ℕ). body_at p (stamp_at p i) (at + 1 + x.0) c (c.ended && (x.0 + 1 == length (payloads p c))) (payload_place (payloads p c) x.0) x.1 in
    omega (arith, length-map (enumerate_from 0 (payloads p c)) g, length-enumerate_from 0 (payloads p c))

-- and those of copies of it
copies_counted : (p : Plan) (i at n : ℕ) (c : Parts) → many_of p (known_of c) ≡ 129 → length (all_of p i at (map known_of (replicate n c))) ≡ n * 129
copies_counted p i at zero c e = refl
copies_counted p i at (suc n) c e =
    length-append (those_of p i at (known_of c)) (all_of p (i + 1) (at + many_of p (known_of c)) (map known_of (replicate n c)))
    ∙ omega (arith, those_counted p i at (known_of c), e, copies_counted p (i + 1) (at + many_of p (known_of c)) n c e)

-- copies have parts, bytes and a size, and fit
copies_have_parts : (n : ℕ) (c : Parts) (b : List ℕ) → ArePartsOf c b → AllZip (λ c b. ArePartsOf c b) (replicate n c) (replicate n b)
copies_have_parts zero c b a = tt
copies_have_parts (suc n) c b a = (a, copies_have_parts n c b a)

copies_are_bytes : (n : ℕ) (b : List ℕ) → IsBytes b → IsBytes (joined (replicate n b))
copies_are_bytes zero b fits = λ i. omega arith
copies_are_bytes (suc n) b fits = bytes_join b (joined (replicate n b)) fits (copies_are_bytes n b fits)

copies_size : (n : ℕ) (b : List ℕ) → length b ≡ 285 → length (joined (replicate n b)) ≡ n * 285
copies_size zero b e = refl
copies_size (suc n) b e = length-append b (joined (replicate n b)) ∙ omega (arith, e, copies_size n b e)

copies_fit : (p : Plan) (n : ℕ) (c : Parts) → Fits p c → AllByRecursion (Fits p) (replicate n c)
copies_fit p zero c f = tt
copies_fit p (suc n) c f = (f, copies_fit p n c f)

-- what is known of copies
copies_known : (n : ℕ) (c : Parts) (b : List ℕ) → n ≤ 65536 → ArePartsOf c b → IsBytes b → known 65536 (joined (replicate n b)) ≡ map known_of (replicate n c)
copies_known n c b few a fits =
    let left = 65536 - n in
    let all : 65536 ≡ length (replicate n b) + left = omega (arith, few, length-replicate n b) in
    ap (λ (k : ℕ). known k (joined (replicate n b))) all
    ∙ (wholes_known left (replicate n c) (replicate n b) (copies_have_parts n c b a) (copies_are_bytes n b fits)
    ∙ (ap (λ (l : List Known). map known_of (replicate n c) ++ l) (none_known left) ∙ append-nil (map known_of (replicate n c))))

-- the codestream bytes of the datagrams of one codestream
bodies_carry : (g : ℕ × List ℕ → Datagram) → ((y : ℕ × List ℕ) → (g y).codestream ≡ y.1) → (k : ℕ) (bs : List (List ℕ)) → map (λ x. x.codestream) (map g (enumerate_from k bs)) ≡ bs
bodies_carry g e k [] = refl
bodies_carry g e k (b ∷ bs) = ap (λ (l : List ℕ). l ∷ map (λ x. x.codestream) (map g (enumerate_from (k + 1) bs))) (e (k, b)) ∙ ap (λ (l : List (List ℕ)). b ∷ l) (bodies_carry g e (k + 1) bs)

those_carry : (p : Plan) (i at : ℕ) (c : Known) → map (λ x. x.codestream) (those_of p i at c) ≡ c.header ∷ payloads p c
those_carry p i at c =
    let g = λ (x : ℕ × List ℕ). body_at p (stamp_at p i) (at + 1 + x.0) c (c.ended && (x.0 + 1 == length (payloads p c))) (payload_place (payloads p c) x.0) x.1 in
    ap (λ (l : List (List ℕ)). c.header ∷ l) (bodies_carry g (λ y. refl) 0 (payloads p c))

-- and of the first of them
front_carries : (j : ℕ) (xs : List Datagram) → sum_by (λ x. length x.codestream) (take j xs) ≡ sum_by (λ b. length b) (take j (map (λ x. x.codestream) xs))
front_carries zero xs = refl
front_carries (suc j) [] = refl
front_carries (suc j) (x ∷ xs) =
    sum_by-cons (λ (y : Datagram). length y.codestream) x (take j xs)
    ∙ (omega (arith, front_carries j xs) ∙ sym (sum_by-cons (λ (b : List ℕ). length b) x.codestream (take j (map (λ y. y.codestream) xs))))

-- What a codestream of these parts sends: 129 datagrams of 285 bytes, 278 of them in the first 124.
record Sends (p : Plan) (c : Parts) : Type 0 where
  many : many_of p (known_of c) ≡ 129
  fit : Fits p c
  all : sum_by (λ b. length b) (c.header ∷ payloads p (known_of c)) ≡ 285
  front : sum_by (λ b. length b) (take 124 (c.header ∷ payloads p (known_of c))) ≡ 278

-- the bytes of the datagrams of m copies and of 124 more
copies_carry : (p : Plan) (i at m n : ℕ) (c : Parts) → Sends p c → m < n → sum_by (λ x. length x.codestream) (take (m * 129 + 124) (all_of p i at (map known_of (replicate n c)))) ≡ m * 285 + 278
copies_carry p i at m zero c s lt = absurd (omega (arith, lt))
copies_carry p i at zero (suc n) c s lt =
    let those = those_of p i at (known_of c) in
    let later = all_of p (i + 1) (at + many_of p (known_of c)) (map known_of (replicate n c)) in
    let long : 124 ≤ length those = omega (arith, those_counted p i at (known_of c), s.many) in
    ap (λ (l : List Datagram). sum_by (λ x. length x.codestream) l) (take-append-le 124 those later long)
    ∙ (front_carries 124 those ∙ (ap (λ (l : List (List ℕ)). sum_by (λ b. length b) (take 124 l)) (those_carry p i at (known_of c)) ∙ s.front))
copies_carry p i at (suc m) (suc n) c s lt =
    let those = those_of p i at (known_of c) in
    let place = at + many_of p (known_of c) in
    let later = all_of p (i + 1) place (map known_of (replicate n c)) in
    let long : length those ≡ 129 = those_counted p i at (known_of c) ∙ s.many in
    let count : suc m * 129 + 124 ≡ length those + (m * 129 + 124) = omega (arith, long) in
    let size : sum_by (λ x. length x.codestream) those ≡ 285 =
    sym (ap (λ (l : List Datagram). sum_by (λ x. length x.codestream) l) (take_all 129 those (omega (arith, long))))
    ∙ (front_carries 129 those
    ∙ (ap (λ (l : List (List ℕ)). sum_by (λ b. length b) (take 129 l)) (those_carry p i at (known_of c))
    ∙ (ap (λ (l : List (List ℕ)). sum_by (λ b. length b) l) (take_all 129 (c.header ∷ payloads p (known_of c)) (omega (arith, s.many))) ∙ s.all))) in
    ap (λ (k : ℕ). sum_by (λ x. length x.codestream) (take k (those ++ later))) count
    ∙ (ap (λ (l : List Datagram). sum_by (λ x. length x.codestream) l) (take-append-add those later (m * 129 + 124))
    ∙ (sum_by-append (λ (x : Datagram). length x.codestream) those (take (m * 129 + 124) later)
    ∙ omega (arith, size, copies_carry p (i + 1) place m n c s (omega (arith, lt)))))

-- the datagrams that copies fix
copies_fix : (p : Plan) (n : ℕ) (c : Parts) (b : List ℕ) → n ≤ 65536 → ArePartsOf c b → IsBytes b → Fits p c → due_by p (joined (replicate n b)) ≡ all_of p 0 0 (map known_of (replicate n c))
copies_fix p n c b few a fits fit =
    ap (λ (l : List Known). datagrams_by p (sendable p l)) (copies_known n c b few a fits)
    ∙ (ap (datagrams_by p) (all_sent p (map known_of (replicate n c)) (parts_fit p (replicate n c) (copies_fit p n c fit)))
    ∙ datagrams_placed p (map known_of (replicate n c)))

-- what each copy sends
many_sends : Sends split_plan parts_of_many.0
many_sends =
    let c = parts_of_many.0 in
    let one : known 1 (codestream_of_many ++ []) ≡ known_of c ∷ known 0 [] = wholes_known 0 (c ∷ []) (codestream_of_many ∷ []) (parts_of_many.1, tt) (copies_are_bytes 1 codestream_of_many many_are_bytes) in
    let due : map figures (known_of c ∷ []) ≡ (129 ∷ 155 ∷ 285 ∷ 278 ∷ []) ∷ [] = sym (ap (map figures) (one ∙ ap (λ (l : List Known). known_of c ∷ l) (none_known 0))) ∙ many_are_due in
    let long : length c.header ≡ 155 = ap (figure 1) due in
    record { many = ap (figure 0) due; fit = omega (arith, long); all = ap (figure 2) due; front = ap (figure 3) due }

-- 129 datagrams for each copy
due_of_copies : (n : ℕ) → n ≤ 65536 → length (due_by split_plan (joined (replicate n codestream_of_many))) ≡ n * 129
due_of_copies n few =
    ap length (copies_fix split_plan n parts_of_many.0 codestream_of_many few parts_of_many.1 many_are_bytes many_sends.fit)
    ∙ copies_counted split_plan 0 0 n parts_of_many.0 many_sends.many

-- the bytes of as many datagrams as may be sent
place_of_copies : (n : ℕ) → 65028 ≤ n → n ≤ 65536 → sum_by (λ x. length x.codestream) (take 8388607 (due_by split_plan (joined (replicate n codestream_of_many)))) ≡ 18532973
place_of_copies n many few =
    ap (λ (l : List Datagram). sum_by (λ x. length x.codestream) (take 8388607 l)) (copies_fix split_plan n parts_of_many.0 codestream_of_many few parts_of_many.1 many_are_bytes many_sends.fit)
    ∙ copies_carry split_plan 0 0 65027 n parts_of_many.0 many_sends (omega (arith, many))

-- all of the bytes count
all_of_copies : (n : ℕ) → n ≤ 65536 → counted (joined (replicate n codestream_of_many)) ≡ joined (replicate n codestream_of_many)
all_of_copies n few = all_counted (joined (replicate n codestream_of_many)) (omega (arith, few, copies_size n codestream_of_many size_of_many))

-- 65,027 copies are few enough,
pub few_copies : (n : ℕ) → n ≤ 65027 → HasFewDatagrams split_plan (counted (joined (replicate n codestream_of_many)))
few_copies n few =
    let D : List ℕ → Type 0 = λ l. HasFewDatagrams split_plan l in
    subst D (sym (all_of_copies n (omega (arith, few)))) (omega (arith, few, due_of_copies n (omega (arith, few))))

-- and where there are more, the datagram after 65,027 copies and 124 datagrams is refused
pub many_copies_are_refused : (n : ℕ) → 65028 ≤ n → n ≤ 65536 → SenderRefuses split_plan (joined (replicate n codestream_of_many)) 18532973 TooManyDatagrams
many_copies_are_refused n many few =
    let input = joined (replicate n codestream_of_many) in
    let D : List ℕ → Type 0 = λ l. HasManyDatagrams split_plan l 18532973 in
    subst D (sym (all_of_copies n few)) (record { many = omega (arith, many, due_of_copies n few); place = sym (place_of_copies n many few) })
