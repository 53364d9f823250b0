-- The cut of codestreams is a stream that carries them.
use Rattle.std.proofs.Common.{inl, inr, ◌≡◌, ◌<◌, ◌≤◌, ◌+◌, ◌-◌, ◌*◌, ◌%◌, ◌^◌, ℕ, zero, suc, false, List, [], ◌∷◌, ◌++◌, map, length, take, refl, sym, subst, ap, ◌∙◌, arith}
use Rattle.std.specs.Prelude.{◌==◌}
use Rattle.std.specs.List.{AllByRecursion, AllZip, IsDistinct, flat_map, sum_by, range_with_len, enumerate_from}
use Rattle.std.proofs.Math.Nat.{mul-le-mul}
use Rattle.std.proofs.lemmas.Bool.{eqb-true}
use Rattle.std.proofs.lemmas.List.{length-append, length-map, map-append}
use Rattle.std.proofs.lemmas.List.Folds.{flat_map-map}
use Rattle.std.proofs.lemmas.List.Sums.{sum_by-cons}
use Rattle.codestream_model.proofs.TreeLemmas.{either}
use Rattle.codestream_model.specs.Values.{Head}
use Rattle.wire_model.specs.Datagram.{Datagram, IsDatagram}
use Rattle.stream_model.specs.Stream.{Parts, ArePartsOf, Sent, datagrams_of, IsBodyPayload, Mark, IsResync, extended_number, mark_of, marks, payload_start, bytes_after_sod, Carries, Carry}
use Rattle.stream_model.specs.Cut.{Plan, IsPlan, known_of, payloads, number_at, main_at, bodies_at, stamp_at, position_of, sent_by, datagram_bytes, ordh_of}
use Rattle.stream_model.specs.Laws.{CutIsStream}
use Rattle.stream_model.proofs.Sendable.{IsSendable, all_sendable}
use Rattle.stream_model.proofs.Bases.{not_true}
use Rattle.stream_model.proofs.Positions.{placed, are_placed}
use Rattle.stream_model.proofs.WrittenDatagrams.{written_is_datagram}
use Rattle.stream_model.proofs.CutPayloads.{all-append, payloads_are_whole, payloads_join}
use Rattle.stream_model.proofs.CutBodies.{all_imply, as_many, number_in_parts, number_fits, rtp_fits, the_body, bodies_placed, bodies_have, IsOf, bodies_are, bodies_numbered, FitDatagram, bodies_fit, bodies_marked}

-- what is sent of a codestream by its number and by the position of its Main
abbrev pub the_sent : Plan → ℕ → ℕ → Parts → Sent
the_sent p i at c = record {
  parts = c;
  stamp = stamp_at p i;
  main = main_at p (stamp_at p i) at (known_of c);
  bodies = bodies_at p (stamp_at p i) at (known_of c);
}

-- how many datagrams that are
abbrev pub count_of : Plan → Parts → ℕ
count_of p c = 1 + length (payloads p (known_of c))

-- the same function gives the same list
map_same : {A B : Type 0} (f g : A → B) (xs : List A) → ((x : A) → f x ≡ g x) → map f xs ≡ map g xs
map_same f g [] h = refl
map_same f g (x ∷ xs) h = ap (λ y. y ∷ map f xs) (h x) ∙ ap (λ ys. g x ∷ ys) (map_same f g xs h)

sums_of_map : {A B : Type 0} (f : B → ℕ) (g : A → B) (xs : List A) (k : ℕ) → sum_by f (take k (map g xs)) ≡ sum_by (λ x. f (g x)) (take k xs)
sums_of_map f g xs zero = refl
sums_of_map f g [] (suc k) = refl
sums_of_map f g (x ∷ xs) (suc k) =
    sum_by-cons f (g x) (take k (map g xs))
    ∙ (ap (λ n. f (g x) + n) (sums_of_map f g xs k) ∙ sym (sum_by-cons (λ x. f (g x)) x (take k xs)))

pub sent_placed : (p : Plan) (parts : List Parts) → sent_by p parts ≡ placed (count_of p) (the_sent p) 0 0 parts
sent_placed p parts =
    map_same (λ x. the_sent p x.0 (position_of p (map known_of parts) x.0) x.1) (λ x. the_sent p x.0 (sum_by (count_of p) (take x.0 parts)) x.1) (enumerate_from 0 parts)
    (λ x. ap (λ at. the_sent p x.0 at x.1) (sums_of_map (λ c. 1 + length (payloads p c)) known_of parts x.0))
    ∙ are_placed (count_of p) (the_sent p) parts

-- it has the payloads in its Bodies
placed_length : {A B : Type 0} (f : A → ℕ) (g : ℕ → ℕ → A → B) (i at : ℕ) (xs : List A) → length (placed f g i at xs) ≡ length xs
placed_length f g i at [] = refl
placed_length f g i at (x ∷ xs) = ap (λ n. suc n) (placed_length f g (i + 1) (at + f x) xs)

pub sent_length : (p : Plan) (i at : ℕ) (c : Parts) → length (datagrams_of (the_sent p i at c)) ≡ count_of p c
sent_length p i at c =
    let e : length (bodies_at p (stamp_at p i) at (known_of c)) ≡ length (payloads p (known_of c)) =
    ap (λ xs. length xs) (bodies_placed p (stamp_at p i) at (known_of c)) ∙ placed_length (λ b. length b) (the_body p (stamp_at p i) at (known_of c)) 0 0 (payloads p (known_of c)) in
    omega arith

stamp_fits : (p : Plan) (i : ℕ) → stamp_at p i < 2 ^ 32
stamp_fits p i = omega arith

-- and each codestream is carried
pub marks_placed : (bodies : List Datagram) → marks bodies ≡ flat_map (λ ms. ms) (placed (λ x. length x.codestream) (λ j at x. mark_of j at x.payload) 0 0 bodies)
marks_placed bodies =
    sym (flat_map-map (λ ms. ms) (λ x. mark_of x.0 (payload_start bodies x.0) x.1.payload) (enumerate_from 0 bodies))
    ∙ ap (λ ys. flat_map (λ ms. ms) ys) (are_placed (λ x. length x.codestream) (λ j at x. mark_of j at x.payload) bodies)

pub is_carried : (p : Plan) (i at : ℕ) (c : Parts) (codestream : List ℕ) → IsPlan p → ArePartsOf c codestream → IsSendable p c → Carries (the_sent p i at c)
is_carried p i at c codestream r a s =
    let least : 64 ≤ p.mtu = r.least_mtu in
    let same : length c.places ≡ length c.packets = as_many c.head c.places c.content c.packets a.are_packets in
    let stamp : ℕ = stamp_at p i in
    let bs : List (List ℕ) = payloads p (known_of c) in
    let here : bodies_at p stamp at (known_of c) ≡ placed (λ b. length b) (the_body p stamp at (known_of c)) 0 0 bs = bodies_placed p stamp at (known_of c) in
    let are : AllByRecursion (IsOf p stamp) (bodies_at p stamp at (known_of c)) =
    (let P : List Datagram → Type 0 = AllByRecursion (IsOf p stamp) in subst P (sym here) (bodies_are p stamp at (known_of c) 0 0 bs)) in
    let have : flat_map (λ x. x.codestream) (bodies_at p stamp at (known_of c)) ≡ bytes_after_sod c =
    ap (λ xs. flat_map (λ x. x.codestream) xs) here ∙ (bodies_have p stamp at (known_of c) 0 0 bs ∙ payloads_join p c (omega arith) same) in
    let marked : AllByRecursion (IsResync c) (marks (bodies_at p stamp at (known_of c))) =
    (let P : List Mark → Type 0 = AllByRecursion (IsResync c) in
    subst P (sym (ap (λ xs. marks xs) here ∙ marks_placed (placed (λ b. length b) (the_body p stamp at (known_of c)) 0 0 bs)))
    (bodies_marked p stamp at c 0 0 bs s same)) in
    record {
      main = tt;
      header = refl;
      bodies = all_imply (IsOf p stamp) (λ x. IsBodyPayload x.payload) (bodies_at p stamp at (known_of c)) (λ x h. h.0) are;
      bytes = have;
      stamps = (refl, all_imply (IsOf p stamp) (λ x. x.rtp.stamp ≡ stamp) (bodies_at p stamp at (known_of c)) (λ x h. h.1) are);
      marks = marked;
    }

all_carried : (p : Plan) (i at : ℕ) (parts : List Parts) (codestreams : List (List ℕ)) → IsPlan p → AllZip (λ c codestream. ArePartsOf c codestream) parts codestreams → AllByRecursion (IsSendable p) parts → AllByRecursion Carries (placed (count_of p) (the_sent p) i at parts)
all_carried p i at [] codestreams r a s = tt
all_carried p i at (c ∷ parts) [] r a s = absurd a
all_carried p i at (c ∷ parts) (b ∷ codestreams) r a s = (is_carried p i at c b r a.0 s.0, all_carried p (i + 1) (at + count_of p c) parts codestreams r a.1 s.1)

all_parts : (p : Plan) (i at : ℕ) (parts : List Parts) (codestreams : List (List ℕ)) → AllZip (λ c codestream. ArePartsOf c codestream) parts codestreams → AllZip (λ s codestream. ArePartsOf s.parts codestream) (placed (count_of p) (the_sent p) i at parts) codestreams
all_parts p i at [] [] a = tt
all_parts p i at [] (b ∷ codestreams) a = absurd a
all_parts p i at (c ∷ parts) [] a = absurd a
all_parts p i at (c ∷ parts) (b ∷ codestreams) a = (a.0, all_parts p (i + 1) (at + count_of p c) parts codestreams a.1)

-- ORDH fits its field
ordh_fits : (h : Head) → ordh_of h < 2 ^ 3
ordh_fits h = elim (either (h.order == 2)) [ inl t ↦ rw t (omega arith) | inr t ↦ rw t (omega arith) ]

-- its datagrams fit,
sent_fits : (p : Plan) (i at : ℕ) (c : Parts) (codestream : List ℕ) → IsPlan p → ArePartsOf c codestream → IsSendable p c → AllByRecursion FitDatagram (datagrams_of (the_sent p i at c))
sent_fits p i at c codestream r a s =
    let least : 64 ≤ p.mtu = r.least_mtu in
    let mtu : p.mtu ≤ 4116 = r.greatest_mtu in
    let header : length c.header ≤ p.mtu - 20 = s.fits in
    let same : length c.places ≡ length c.packets = as_many c.head c.places c.content c.packets a.are_packets in
    let stamp : ℕ = stamp_at p i in
    let bs : List (List ℕ) = payloads p (known_of c) in
    let P : List Datagram → Type 0 = AllByRecursion FitDatagram in (
      (rtp_fits p stamp at false r (stamp_fits p i), (refl, number_fits p at, ordh_fits c.head), omega arith),
      subst P (sym (bodies_placed p stamp at (known_of c))) (bodies_fit p stamp at c 0 0 bs r s (stamp_fits p i) (payloads_are_whole p c (omega arith) same).1),
    )

all_fit : (p : Plan) (i at : ℕ) (parts : List Parts) (codestreams : List (List ℕ)) → IsPlan p → AllZip (λ c codestream. ArePartsOf c codestream) parts codestreams → AllByRecursion (IsSendable p) parts → AllByRecursion FitDatagram (flat_map datagrams_of (placed (count_of p) (the_sent p) i at parts))
all_fit p i at [] codestreams r a s = tt
all_fit p i at (c ∷ parts) [] r a s = absurd a
all_fit p i at (c ∷ parts) (b ∷ codestreams) r a s =
    all-append FitDatagram (datagrams_of (the_sent p i at c)) (flat_map datagrams_of (placed (count_of p) (the_sent p) (i + 1) (at + count_of p c) parts))
    (sent_fits p i at c b r a.0 s.0) (all_fit p (i + 1) (at + count_of p c) parts codestreams r a.1 s.1)

written : (xs : List Datagram) → AllByRecursion FitDatagram xs → AllZip IsDatagram xs (map datagram_bytes xs)
written [] h = tt
written (x ∷ xs) h = (written_is_datagram x h.0.0 h.0.1 h.0.2, written xs h.1)

-- have one source and one payload type,
pub all_one : (p : Plan) (i at : ℕ) (parts : List Parts) → AllByRecursion (λ x. (x.rtp.source ≡ p.source) × (x.rtp.kind ≡ p.kind)) (flat_map datagrams_of (placed (count_of p) (the_sent p) i at parts))
all_one p i at [] = tt
all_one p i at (c ∷ parts) =
    let stamp : ℕ = stamp_at p i in
    let Q : Datagram → Type 0 = λ x. (x.rtp.source ≡ p.source) × (x.rtp.kind ≡ p.kind) in
    let P : List Datagram → Type 0 = AllByRecursion (IsOf p stamp) in
    let are : AllByRecursion (IsOf p stamp) (bodies_at p stamp at (known_of c)) = subst P (sym (bodies_placed p stamp at (known_of c))) (bodies_are p stamp at (known_of c) 0 0 (payloads p (known_of c))) in
    all-append Q (datagrams_of (the_sent p i at c)) (flat_map datagrams_of (placed (count_of p) (the_sent p) (i + 1) (at + count_of p c) parts))
    ((refl, refl), all_imply (IsOf p stamp) Q (bodies_at p stamp at (known_of c)) (λ x h. h.2) are)
    (all_one p (i + 1) (at + count_of p c) parts)

-- and are numbered one after another
pub range_append : (a m n : ℕ) → range_with_len a (m + n) ≡ range_with_len a m ++ range_with_len (a + m) n
range_append a zero n = let e : zero + n ≡ n = omega arith in let f : a + zero ≡ a = omega arith in rw (e, f) refl
range_append a (suc m) n =
    let e : suc m + n ≡ suc (m + n) = omega arith in
    let f : a + 1 + m ≡ a + suc m = omega arith in
    ap (λ k. range_with_len a k) e ∙ ap (λ ys. a ∷ ys) (range_append (a + 1) m n ∙ ap (λ k. range_with_len (a + 1) m ++ range_with_len k n) f)

sent_numbered : (p : Plan) (i at : ℕ) (c : Parts) → map extended_number (datagrams_of (the_sent p i at c)) ≡ map (number_at p) (range_with_len at (count_of p c))
sent_numbered p i at c =
    let bs : List (List ℕ) = payloads p (known_of c) in
    let e : 1 + length bs ≡ suc (length bs) = omega arith in
    let z : at + 1 + 0 ≡ at + 1 = omega arith in
    ap (λ y. y ∷ map extended_number (bodies_at p (stamp_at p i) at (known_of c))) (number_in_parts (number_at p at))
    ∙ (ap (λ xs. number_at p at ∷ map extended_number xs) (bodies_placed p (stamp_at p i) at (known_of c))
    ∙ (ap (λ ys. number_at p at ∷ ys) (bodies_numbered p (stamp_at p i) at (known_of c) 0 0 bs ∙ ap (λ k. map (number_at p) (range_with_len k (length bs))) z)
    ∙ ap (λ k. map (number_at p) (range_with_len at k)) (sym e)))

all_numbered : (p : Plan) (i at : ℕ) (parts : List Parts) → map extended_number (flat_map datagrams_of (placed (count_of p) (the_sent p) i at parts)) ≡ map (number_at p) (range_with_len at (length (flat_map datagrams_of (placed (count_of p) (the_sent p) i at parts))))
all_numbered p i at [] = refl
all_numbered p i at (c ∷ parts) =
    let xs : List Datagram = datagrams_of (the_sent p i at c) in
    let ys : List Datagram = flat_map datagrams_of (placed (count_of p) (the_sent p) (i + 1) (at + count_of p c) parts) in
    let n : length (xs ++ ys) ≡ count_of p c + length ys = length-append xs ys ∙ ap (λ k. k + length ys) (sent_length p i at c) in
    map-append extended_number xs ys
    ∙ (ap (λ zs. zs ++ map extended_number ys) (sent_numbered p i at c)
    ∙ (ap (λ zs. map (number_at p) (range_with_len at (count_of p c)) ++ zs) (all_numbered p (i + 1) (at + count_of p c) parts)
    ∙ (sym (map-append (number_at p) (range_with_len at (count_of p c)) (range_with_len (at + count_of p c) (length ys)))
    ∙ (ap (λ zs. map (number_at p) zs) (sym (range_append at (count_of p c) (length ys)))
    ∙ ap (λ k. map (number_at p) (range_with_len at k)) (sym n)))))

-- stamps differ
wraps : (a b d : ℕ) → b ≡ a + d → 1 ≤ d → d < 4294967296 → a % 4294967296 ≡ b % 4294967296 → ⊥
wraps a b d e some few same = omega arith

stamps_differ : (p : Plan) (i j : ℕ) → IsPlan p → i < j → j < i + 65536 → stamp_at p i ≡ stamp_at p j → ⊥
stamps_differ p i j r less near same =
    let step : p.step < 65536 = r.step in
    let some : 1 ≤ p.step = r.some_step in
    let d : ℕ = j - i in
    let first : 1 * 1 ≤ d * p.step = mul-le-mul (let k : 1 ≤ d = omega arith in k) some in
    let last : d * p.step ≤ 65535 * 65535 = mul-le-mul (let k : d ≤ 65535 = omega arith in k) (let k : p.step ≤ 65535 = omega arith in k) in
    let sum : j * p.step ≡ i * p.step + d * p.step = ap (λ n. n * p.step) (let k : j ≡ i + d = omega arith in k) ∙ (let k : (i + d) * p.step ≡ i * p.step + d * p.step = omega arith in k) in
    wraps (p.stamp + i * p.step) (p.stamp + j * p.step) (d * p.step) (omega arith) (omega arith) (omega arith) same

stamps_placed : (p : Plan) (i at : ℕ) (parts : List Parts) → map (λ s. s.stamp) (placed (count_of p) (the_sent p) i at parts) ≡ map (stamp_at p) (range_with_len i (length parts))
stamps_placed p i at [] = refl
stamps_placed p i at (c ∷ parts) = ap (λ ys. stamp_at p i ∷ ys) (stamps_placed p (i + 1) (at + count_of p c) parts)

other_stamps : (p : Plan) (i a n : ℕ) → IsPlan p → i < a → a + n ≤ i + 65536 → AllByRecursion (λ y. (stamp_at p i == y) ≡ false) (map (stamp_at p) (range_with_len a n))
other_stamps p i a zero r less near = tt
other_stamps p i a (suc n) r less near =
    (not_true (stamp_at p i == stamp_at p a) (λ t. stamps_differ p i a r less (omega arith) (eqb-true (stamp_at p i) (stamp_at p a) t)), other_stamps p i (a + 1) n r (omega arith) (omega arith))

all_stamps : (p : Plan) (a n : ℕ) → IsPlan p → n ≤ 65536 → IsDistinct (λ a b. a == b) (map (stamp_at p) (range_with_len a n))
unfolding IsDistinct
all_stamps p a zero r few = tt
all_stamps p a (suc n) r few = (other_stamps p a (a + 1) n r (omega arith) (omega arith), all_stamps p (a + 1) n r (omega arith))

-- so the cut is a stream
zip_length : (parts : List Parts) (codestreams : List (List ℕ)) → AllZip (λ c codestream. ArePartsOf c codestream) parts codestreams → length parts ≡ length codestreams
zip_length [] [] a = refl
zip_length [] (b ∷ codestreams) a = absurd a
zip_length (c ∷ parts) [] a = absurd a
zip_length (c ∷ parts) (b ∷ codestreams) a = ap (λ n. suc n) (zip_length parts codestreams a.1)

pub cut_is_stream : CutIsStream
cut_is_stream p parts codestreams r a bytes room_for few small =
    let s : AllByRecursion (IsSendable p) parts = all_sendable p parts codestreams a bytes room_for in
    let sent : List Sent = placed (count_of p) (the_sent p) 0 0 parts in
    let xs : List Datagram = flat_map datagrams_of sent in
    let is : sent_by p parts ≡ sent = sent_placed p parts in
    let n : length (map datagram_bytes xs) ≡ length xs = length-map xs datagram_bytes in
    let m : length (flat_map datagrams_of (sent_by p parts)) ≡ length xs = ap (λ ys. length (flat_map datagrams_of ys)) is in
    let many : length parts ≡ length codestreams = zip_length parts codestreams a in
    let P : List Sent → Type 0 = λ ys. Carry ys codestreams (map datagram_bytes (flat_map datagrams_of ys)) in
    let D : List ℕ → Type 0 = IsDistinct (λ a b. a == b) in
    subst P (sym is) (record {
      source = p.source;
      kind = p.kind;
      number = p.number;
      are_parts = all_parts p 0 0 parts codestreams a;
      each = all_carried p 0 0 parts codestreams r a s;
      apart = subst D (sym (stamps_placed p 0 0 parts)) (all_stamps p 0 (length parts) r (omega arith));
      are_datagrams = written xs (all_fit p 0 0 parts codestreams r a s);
      few = omega arith;
      one_source = all_one p 0 0 parts;
      numbers = all_numbered p 0 0 parts ∙ ap (λ k. map (number_at p) (range_with_len 0 k)) (sym n);
    })
