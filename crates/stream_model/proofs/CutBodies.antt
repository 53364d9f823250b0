-- The Bodies of a cut: what they carry, how they are numbered, and that their headers fit and their marks are right.
use Rattle.std.proofs.Common.{◌≡◌, ◌<◌, ◌≤◌, ◌+◌, ◌-◌, ◌*◌, ◌/◌, ◌%◌, ◌^◌, ℕ, zero, suc, min, Bool, true, false, cond, List, [], ◌∷◌, ◌++◌, map, length, take, refl, sym, subst, ap, ◌∙◌, arith, append_assoc}
use Rattle.std.specs.Prelude.{◌==◌, ◌&&◌, nat_le, nat_lt, slice_get, Some}
use Rattle.std.specs.List.{AllByRecursion, filter, flat_map, fold, sum_by, range_with_len, enumerate_from}
use Rattle.std.proofs.lemmas.Bool.{leb-true, ltb-true}
use Rattle.std.proofs.lemmas.List.{length-append}
use Rattle.std.proofs.lemmas.List.Sums.{sum_by-cons}
use Rattle.wire_model.specs.Rtp.{FitRtp}
use Rattle.wire_model.specs.Payload.{Body}
use Rattle.wire_model.specs.Datagram.{Datagram}
use Rattle.codestream_model.specs.Values.{Head, Place}
use Rattle.codestream_model.specs.Packet.{Content}
use Rattle.codestream_model.specs.Codestream.{joined}
use Rattle.codestream_model.specs.PacketOrder.{pid}
use Rattle.stream_model.specs.Stream.{Parts, ArePackets, IsBodyPayload, IsResync, extended_number, packet_start, mark_of}
use Rattle.stream_model.specs.Cut.{Plan, IsPlan, Piece, Known, room, pieces_of, known_of, payloads, piece_start, touched, started, res_of, body_header, number_at, rtp_at, body_at, bodies_at}
use Rattle.stream_model.specs.Laws.{FitBody, FitPayload}
use Rattle.stream_model.proofs.Sendable.{IsSendable}
use Rattle.stream_model.proofs.InTime.{both}
use Rattle.stream_model.proofs.Thinned.{all-filter}
use Rattle.stream_model.proofs.CutPayloads.{all-append}
use Rattle.stream_model.proofs.Positions.{placed, are_placed}

-- what holds of each item
pub all_imply : {A : Type 0} (P Q : A → Type 0) (xs : List A) → ((x : A) → P x → Q x) → AllByRecursion P xs → AllByRecursion Q xs
all_imply P Q [] h k = tt
all_imply P Q (x ∷ xs) h k = (h x k.0, all_imply P Q xs h k.1)

pub all_both : {A : Type 0} (P Q : A → Type 0) (xs : List A) → AllByRecursion P xs → AllByRecursion Q xs → AllByRecursion (λ x. P x × Q x) xs
all_both P Q [] h k = tt
all_both P Q (x ∷ xs) h k = ((h.0, k.0), all_both P Q xs h.1 k.1)

passed_by : {A : Type 0} (t : A → Bool) (x : A) (xs : List A) (b : Bool) → (b ≡ true → t x ≡ true) → AllByRecursion (λ x. t x ≡ true) xs → AllByRecursion (λ x. t x ≡ true) (cond b (x ∷ xs) xs)
passed_by t x xs true h k = (h refl, k)
passed_by t x xs false h k = k

pub all_passed : {A : Type 0} (t : A → Bool) (xs : List A) → AllByRecursion (λ x. t x ≡ true) (filter t xs)
all_passed t [] = tt
all_passed t (x ∷ xs) = passed_by t x (filter t xs) (t x) (λ e. e) (all_passed t xs)

-- as many precincts as packets
pub as_many : (h : Head) (places : List Place) (content : List Content) (packets : List (List ℕ)) → ArePackets h places content packets → length places ≡ length packets
as_many h [] [] [] r = refl
as_many h [] [] (b ∷ packets) r = absurd r
as_many h [] (x ∷ content) packets r = absurd r
as_many h (q ∷ places) [] packets r = absurd r
as_many h (q ∷ places) (x ∷ content) [] r = absurd r
as_many h (q ∷ places) (x ∷ content) (b ∷ packets) r = ap (λ n. suc n) (as_many h places content packets r.1)

-- the places of the pieces are those of the packets
pub starts_agree : (places : List Place) (packets : List (List ℕ)) (k : ℕ) → length places ≡ length packets → piece_start (pieces_of places packets) k ≡ sum_by (λ b. length b) (take k packets)
starts_agree places packets zero h = refl
starts_agree [] [] (suc k) h = refl
starts_agree [] (b ∷ packets) (suc k) h = absurd (omega arith)
starts_agree (q ∷ places) [] (suc k) h = absurd (omega arith)
starts_agree (q ∷ places) (b ∷ packets) (suc k) h =
    sum_by-cons (λ x. length x.bytes) (record { place = q; bytes = b }) (take k (pieces_of places packets))
    ∙ (ap (λ n. length b + n) (starts_agree places packets k (omega arith))
    ∙ sym (sum_by-cons (λ b. length b) b (take k packets)))

-- a piece by its number has the precinct of that number, and its RES and PID fit
abbrev pub IsGood : List Place → Head → ℕ × Piece → Type 0
IsGood places h x = (slice_get places x.0 ≡ Some x.1.place) × (x.1.place.r ≤ h.levels) × (pid h x.1.place < 2 ^ 20)

behind : (front : List Place) (q : Place) (rest : List Place) → slice_get (front ++ q ∷ rest) (length front) ≡ Some q
behind [] q rest = refl
behind (x ∷ front) q rest = behind front q rest

good_from : (h : Head) (front places : List Place) (packets : List (List ℕ)) → AllByRecursion (λ q. q.r ≤ h.levels) places → AllByRecursion (λ q. pid h q < 2 ^ 20) places → AllByRecursion (IsGood (front ++ places) h) (enumerate_from (length front) (pieces_of places packets))
good_from h front [] packets low small = tt
good_from h front (q ∷ places) [] low small = tt
good_from h front (q ∷ places) (b ∷ packets) low small =
    let P : List Place → Type 0 = λ ys. AllByRecursion (IsGood ys h) (enumerate_from (length front + 1) (pieces_of places packets)) in
    let Q : ℕ → Type 0 = λ n. AllByRecursion (IsGood ((front ++ q ∷ []) ++ places) h) (enumerate_from n (pieces_of places packets)) in (
      (behind front q places, low.0, small.0),
      subst P (append_assoc front (q ∷ []) places) (subst Q (length-append front (q ∷ [])) (good_from h (front ++ q ∷ []) places packets low.1 small.1)),
    )

pub are_good : (p : Plan) (c : Parts) → IsSendable p c → AllByRecursion (IsGood c.places c.head) (enumerate_from 0 (pieces_of c.places c.packets))
are_good p c s = good_from c.head [] c.places c.packets s.resolutions s.numbers

-- and a piece that starts in a payload
abbrev pub IsStart : Parts → ℕ → ℕ → ℕ × Piece → Type 0
IsStart c from n x = IsGood c.places c.head x × ((from ≤ piece_start (pieces_of c.places c.packets) x.0) × (piece_start (pieces_of c.places c.packets) x.0 < from + n))

pub are_starts : (p : Plan) (c : Parts) (from n : ℕ) → IsSendable p c → AllByRecursion (IsStart c from n) (started (pieces_of c.places c.packets) from (from + n))
are_starts p c from n s =
    let pieces : List Piece = pieces_of c.places c.packets in
    let t : (ℕ × Piece) → Bool = λ x. nat_le from (piece_start pieces x.0) && nat_lt (piece_start pieces x.0) (from + n) in
    all_both (IsGood c.places c.head) (λ x. (from ≤ piece_start pieces x.0) × (piece_start pieces x.0 < from + n)) (started pieces from (from + n))
    (all-filter (IsGood c.places c.head) t (enumerate_from 0 pieces) (are_good p c s))
    (all_imply (λ x. t x ≡ true) (λ x. (from ≤ piece_start pieces x.0) × (piece_start pieces x.0 < from + n)) (started pieces from (from + n))
    (λ x e. (let d = both (nat_le from (piece_start pieces x.0)) (nat_lt (piece_start pieces x.0) (from + n)) e in
    (leb-true from (piece_start pieces x.0) d.0, ltb-true (piece_start pieces x.0) (from + n) d.1)))
    (all_passed t (enumerate_from 0 pieces)))

-- RES fits
min-le : (a : ℕ) (xs : List ℕ) → fold min a xs ≤ a
min-le a [] = omega arith
min-le a (x ∷ xs) = let h : fold min (min a x) xs ≤ min a x = min-le (min a x) xs in omega arith

res_fits : (levels : ℕ) (xs : List (ℕ × Piece)) → AllByRecursion (λ x. x.1.place.r ≤ levels) xs → res_of levels xs < 2 ^ 3
res_fits levels [] h = omega arith
res_fits levels (x ∷ more) h = let m : fold min x.1.place.r (map (λ y. y.1.place.r) more) ≤ x.1.place.r = min-le x.1.place.r (map (λ y. y.1.place.r) more) in omega (arith, h.0)

pub touched_fits : (p : Plan) (c : Parts) (from to : ℕ) → IsSendable p c → res_of c.head.levels (touched (pieces_of c.places c.packets) from to) < 2 ^ 3
touched_fits p c from to s =
    let pieces : List Piece = pieces_of c.places c.packets in
    let t : (ℕ × Piece) → Bool = λ x. nat_lt (piece_start pieces x.0) to && nat_lt from (piece_start pieces (x.0 + 1)) in
    res_fits c.head.levels (touched pieces from to)
    (all_imply (IsGood c.places c.head) (λ x. x.1.place.r ≤ c.head.levels) (touched pieces from to) (λ x g. g.1)
    (all-filter (IsGood c.places c.head) t (enumerate_from 0 pieces) (are_good p c s)))

-- a Body header fits
pub header_fits : (c : Parts) (eseq res from : ℕ) (payload : List ℕ) (xs : List (ℕ × Piece)) → eseq < 2 ^ 8 → res < 2 ^ 3 → length payload ≤ 4096 → AllByRecursion (IsStart c from (length payload)) xs → FitBody (body_header (known_of c) eseq res from xs) payload
header_fits c eseq res from payload [] e r n h = record { res = r; eseq = e; pos = omega arith; pid = omega arith; marked = λ t. absurd (cc) }
header_fits c eseq res from payload (x ∷ more) e r n h =
    let low : from ≤ piece_start (pieces_of c.places c.packets) x.0 = h.0.1.0 in
    let high : piece_start (pieces_of c.places c.packets) x.0 < from + length payload = h.0.1.1 in
    record { res = r; eseq = e; pos = omega arith; pid = h.0.0.2; marked = λ t. omega arith }

-- and its mark is right
pub mark_is_right : (c : Parts) (body eseq res from n : ℕ) (xs : List (ℕ × Piece)) → length c.places ≡ length c.packets → AllByRecursion (IsStart c from n) xs → AllByRecursion (IsResync c) (mark_of body from (Body (body_header (known_of c) eseq res from xs)))
mark_is_right c body eseq res from n [] same h = tt
mark_is_right c body eseq res from n (x ∷ more) same h =
    let low : from ≤ piece_start (pieces_of c.places c.packets) x.0 = h.0.1.0 in
    let there : piece_start (pieces_of c.places c.packets) x.0 ≡ packet_start c x.0 = starts_agree c.places c.packets x.0 same in
    (record { precinct = x.0; place = x.1.place; has = h.0.0.0; starts = omega arith; names = refl }, tt)

-- the number of a datagram
pub number_in_parts : (n : ℕ) → n / 2 ^ 16 * 65536 + n % 2 ^ 16 ≡ n
number_in_parts n = omega arith

pub eseq_stays : (c : Known) (eseq res from : ℕ) (xs : List (ℕ × Piece)) → (body_header c eseq res from xs).eseq ≡ eseq
eseq_stays c eseq res from [] = refl
eseq_stays c eseq res from (x ∷ more) = refl

pub number_fits : (p : Plan) (n : ℕ) → number_at p n / 2 ^ 16 < 2 ^ 8
number_fits p n = omega arith

pub rtp_fits : (p : Plan) (stamp n : ℕ) (marker : Bool) → IsPlan p → stamp < 2 ^ 32 → FitRtp (rtp_at p stamp n marker)
rtp_fits p stamp n marker r s = record { kind = r.kind; number = omega arith; stamp = s; source = r.source }

-- a Body of a cut by its number and its place
abbrev pub the_body : Plan → ℕ → ℕ → Known → ℕ → ℕ → List ℕ → Datagram
the_body p stamp position c j from payload = body_at p stamp (position + 1 + j) c (c.ended && (j + 1 == length (payloads p c))) from payload

pub bodies_placed : (p : Plan) (stamp position : ℕ) (c : Known) → bodies_at p stamp position c ≡ placed (λ b. length b) (the_body p stamp position c) 0 0 (payloads p c)
bodies_placed p stamp position c = are_placed (λ b. length b) (the_body p stamp position c) (payloads p c)

-- the Bodies have the payloads,
pub bodies_have : (p : Plan) (stamp position : ℕ) (c : Known) (j from : ℕ) (bs : List (List ℕ)) → flat_map (λ x. x.codestream) (placed (λ b. length b) (the_body p stamp position c) j from bs) ≡ joined bs
bodies_have p stamp position c j from [] = refl
bodies_have p stamp position c j from (b ∷ bs) = ap (λ ys. b ++ ys) (bodies_have p stamp position c (j + 1) (from + length b) bs)

-- are Bodies, with one stamp, one source and one payload type,
abbrev pub IsOf : Plan → ℕ → Datagram → Type 0
IsOf p stamp x = IsBodyPayload x.payload × (x.rtp.stamp ≡ stamp) × ((x.rtp.source ≡ p.source) × (x.rtp.kind ≡ p.kind))

pub bodies_are : (p : Plan) (stamp position : ℕ) (c : Known) (j from : ℕ) (bs : List (List ℕ)) → AllByRecursion (IsOf p stamp) (placed (λ b. length b) (the_body p stamp position c) j from bs)
bodies_are p stamp position c j from [] = tt
bodies_are p stamp position c j from (b ∷ bs) = ((tt, refl, (refl, refl)), bodies_are p stamp position c (j + 1) (from + length b) bs)

-- are numbered one after another,
pub bodies_numbered : (p : Plan) (stamp position : ℕ) (c : Known) (j from : ℕ) (bs : List (List ℕ)) → map extended_number (placed (λ b. length b) (the_body p stamp position c) j from bs) ≡ map (number_at p) (range_with_len (position + 1 + j) (length bs))
bodies_numbered p stamp position c j from [] = refl
bodies_numbered p stamp position c j from (b ∷ bs) =
    let n : ℕ = number_at p (position + 1 + j) in
    let here : extended_number (the_body p stamp position c j from b) ≡ n =
    ap (λ e. e * 65536 + n % 2 ^ 16) (eseq_stays c (n / 2 ^ 16) (res_of c.head.levels (touched c.pieces from (from + length b))) from (started c.pieces from (from + length b)))
    ∙ number_in_parts n in
    let next : position + 1 + (j + 1) ≡ position + 1 + j + 1 = omega arith in
    ap (λ y. y ∷ map extended_number (placed (λ b. length b) (the_body p stamp position c) (j + 1) (from + length b) bs)) here
    ∙ ap (λ ys. n ∷ ys) (bodies_numbered p stamp position c (j + 1) (from + length b) bs ∙ ap (λ k. map (number_at p) (range_with_len k (length bs))) next)

-- fit their fields,
abbrev pub FitDatagram : Datagram → Type 0
FitDatagram x = FitRtp x.rtp × FitPayload x.payload x.codestream × (length x.codestream ≤ 8980)

pub bodies_fit : (p : Plan) (stamp position : ℕ) (c : Parts) (j from : ℕ) (bs : List (List ℕ)) → IsPlan p → IsSendable p c → stamp < 2 ^ 32 → AllByRecursion (λ b. (1 ≤ length b) × (length b ≤ room p)) bs → AllByRecursion FitDatagram (placed (λ b. length b) (the_body p stamp position (known_of c)) j from bs)
bodies_fit p stamp position c j from [] r s small h = tt
bodies_fit p stamp position c j from (b ∷ bs) r s small h =
    let most : length b ≤ p.mtu - 20 = h.0.1 in
    let mtu : p.mtu ≤ 4116 = r.greatest_mtu in
    let n : ℕ = number_at p (position + 1 + j) in (
      (
        rtp_fits p stamp (position + 1 + j) ((known_of c).ended && (j + 1 == length (payloads p (known_of c)))) r small,
        header_fits c (n / 2 ^ 16) (res_of c.head.levels (touched (pieces_of c.places c.packets) from (from + length b))) from b (started (pieces_of c.places c.packets) from (from + length b))
            (number_fits p (position + 1 + j)) (touched_fits p c from (from + length b) s) (omega arith) (are_starts p c from (length b) s),
        omega arith,
      ),
      bodies_fit p stamp position c (j + 1) (from + length b) bs r s small h.1,
    )

-- and their marks are right
pub bodies_marked : (p : Plan) (stamp position : ℕ) (c : Parts) (j from : ℕ) (bs : List (List ℕ)) → IsSendable p c → length c.places ≡ length c.packets → AllByRecursion (IsResync c) (flat_map (λ ms. ms) (placed (λ x. length x.codestream) (λ j at x. mark_of j at x.payload) j from (placed (λ b. length b) (the_body p stamp position (known_of c)) j from bs)))
bodies_marked p stamp position c j from [] s same = tt
bodies_marked p stamp position c j from (b ∷ bs) s same =
    let n : ℕ = number_at p (position + 1 + j) in
    all-append (IsResync c)
    (mark_of j from (the_body p stamp position (known_of c) j from b).payload)
    (flat_map (λ ms. ms) (placed (λ x. length x.codestream) (λ j at x. mark_of j at x.payload) (j + 1) (from + length b) (placed (λ b. length b) (the_body p stamp position (known_of c)) (j + 1) (from + length b) bs)))
    (mark_is_right c j (n / 2 ^ 16) (res_of c.head.levels (touched (pieces_of c.places c.packets) from (from + length b))) from (length b) (started (pieces_of c.places c.packets) from (from + length b)) same (are_starts p c from (length b) s))
    (bodies_marked p stamp position c (j + 1) (from + length b) bs s same)
