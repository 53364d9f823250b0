-- What the Bodies of a cut say of a packet that has a byte in them: RES isn't above its code, and where it starts there is a mark at or before it.
use Rattle.std.proofs.Common.{◌≡◌, ◌<◌, ◌≤◌, ◌+◌, ◌-◌, ◌/◌, ◌^◌, ℕ, zero, suc, min, Bool, true, false, cond, List, [], ◌∷◌, ◌++◌, map, length, refl, sym, subst, ap, ◌∙◌, inl, inr, arith}
use Rattle.std.specs.Prelude.{◌&&◌, nat_le, nat_lt, slice_get, Some}
use Rattle.std.specs.List.{filter, fold, sum_by, enumerate_from}
use Rattle.std.proofs.lemmas.Bool.{lt-ltb, le-leb}
use Rattle.std.proofs.lemmas.List.Sums.{sum_by-cons}
use Rattle.wire_model.specs.Thinning.{is_within}
use Rattle.wire_model.specs.Payload.{Body}
use Rattle.wire_model.specs.Datagram.{Datagram}
use Rattle.codestream_model.specs.Values.{Place}
use Rattle.codestream_model.specs.PacketOrder.{pid}
use Rattle.codestream_model.proofs.Members.{Has, has_flat_map}
use Rattle.stream_model.specs.Stream.{Parts, Mark, mark_of, marks, packet_start, payload_start}
use Rattle.stream_model.specs.Cut.{Plan, Piece, Known, pieces_of, known_of, payloads, piece_start, touched, started, resolution_code, res_of, body_header, number_at, bodies_at}
use Rattle.stream_model.proofs.Positions.{placed}
use Rattle.stream_model.proofs.RunPlaces.{starts_up}
use Rattle.stream_model.proofs.DueSaid.{starts_here}
use Rattle.stream_model.proofs.CutBodies.{starts_agree, the_body, bodies_placed}

-- the least of numbers
least_front : (a : ℕ) (xs : List ℕ) → fold min a xs ≤ a
least_front a [] = omega arith
least_front a (x ∷ xs) = let h : fold min (min a x) xs ≤ min a x = least_front (min a x) xs in omega arith

least_member : (a : ℕ) (xs : List ℕ) (z : ℕ) → Has xs z → fold min a xs ≤ z
least_member a [] z h = absurd h
least_member a (x ∷ xs) z (inl e) = let h : fold min (min a x) xs ≤ min a x = least_front (min a x) xs in omega arith
least_member a (x ∷ xs) z (inr h) = least_member (min a x) xs z h

has_resolution : (xs : List (ℕ × Piece)) (x : ℕ × Piece) → Has xs x → Has (map (λ y. y.1.place.r) xs) x.1.place.r
has_resolution [] x h = absurd h
has_resolution (y ∷ xs) x (inl e) = inl (ap (λ (z : ℕ × Piece). z.1.place.r) e)
has_resolution (y ∷ xs) x (inr h) = inr (has_resolution xs x h)

-- RES of packets isn't above the code of each
res_low : (levels : ℕ) (xs : List (ℕ × Piece)) (x : ℕ × Piece) → Has xs x → res_of levels xs ≤ resolution_code x.1.place.r levels
res_low levels [] x h = absurd h
res_low levels (y ∷ more) x (inl e) =
    let m : fold min y.1.place.r (map (λ y. y.1.place.r) more) ≤ y.1.place.r = least_front y.1.place.r (map (λ y. y.1.place.r) more) in
    let s : y.1.place.r ≡ x.1.place.r = ap (λ (z : ℕ × Piece). z.1.place.r) e in
    omega arith
res_low levels (y ∷ more) x (inr h) =
    let m : fold min y.1.place.r (map (λ y. y.1.place.r) more) ≤ x.1.place.r = least_member y.1.place.r (map (λ y. y.1.place.r) more) x.1.place.r (has_resolution more x h) in
    omega arith

-- what is a member and passes is left
pub has_cond : {A : Type 0} (y : A) (ys : List A) (x : A) (b : Bool) → Has ys x → Has (cond b (y ∷ ys) ys) x
has_cond y ys x true h = inr h
has_cond y ys x false h = h

has_first : {A : Type 0} (y : A) (ys : List A) (x : A) (b : Bool) → b ≡ true → y ≡ x → Has (cond b (y ∷ ys) ys) x
has_first y ys x true h e = inl e
has_first y ys x false h e = absurd (cc)

pub has_filter : {A : Type 0} (t : A → Bool) (xs : List A) (x : A) → Has xs x → t x ≡ true → Has (filter t xs) x
has_filter t [] x h e = absurd h
has_filter t (y ∷ xs) x (inl s) e = has_first y (filter t xs) x (t y) (ap t s ∙ e) s
has_filter t (y ∷ xs) x (inr h) e = has_cond y (filter t xs) x (t y) (has_filter t xs x h e)

-- what is left of numbered items isn't numbered below the first number,
low_step : {A : Type 0} (n : ℕ) (a : A) (ys : List (ℕ × A)) (z : ℕ × A) (b : Bool) → (Has ys z → n ≤ z.0) → Has (cond b ((n, a) ∷ ys) ys) z → n ≤ z.0
low_step n a ys z true h (inl e) = let s : n ≡ z.0 = ap (λ y. y.0) e in omega arith
low_step n a ys z true h (inr k) = h k
low_step n a ys z false h k = h k

filter_low : {A : Type 0} (t : (ℕ × A) → Bool) (n : ℕ) (xs : List A) (z : ℕ × A) → Has (filter t (enumerate_from n xs)) z → n ≤ z.0
filter_low t n [] z h = absurd h
filter_low {A} t n (a ∷ xs) z h =
    low_step n a (filter t (enumerate_from (n + 1) xs)) z (t (n, a)) (λ k. (let s : n + 1 ≤ z.0 = filter_low t (n + 1) xs z k in omega arith)) h

-- so the first of it has the least number
abbrev FirstLow : {A : Type 0} → List (ℕ × A) → ℕ → Type 0
FirstLow [] k = ⊥
FirstLow (x ∷ more) k = x.0 ≤ k

first_step : {A : Type 0} (n : ℕ) (a : A) (ys : List (ℕ × A)) (z : ℕ × A) (b : Bool) → n ≤ z.0 → (Has ys z → FirstLow ys z.0) → Has (cond b ((n, a) ∷ ys) ys) z → FirstLow (cond b ((n, a) ∷ ys) ys) z.0
first_step n a ys z true low h k = low
first_step n a ys z false low h k = h k

first_low : {A : Type 0} (t : (ℕ × A) → Bool) (n : ℕ) (xs : List A) (z : ℕ × A) → Has (filter t (enumerate_from n xs)) z → FirstLow (filter t (enumerate_from n xs)) z.0
first_low t n [] z h = absurd h
first_low t n (a ∷ xs) z h =
    first_step n a (filter t (enumerate_from (n + 1) xs)) z (t (n, a)) (filter_low t n (a ∷ xs) z h) (first_low t (n + 1) xs z) h

-- the piece of a precinct by its number
piece_has : (n : ℕ) (places : List Place) (packets : List (List ℕ)) (k m : ℕ) (q : Place) → slice_get places k ≡ Some q → k < length packets → m ≡ n + k → (b : List ℕ) × Has (enumerate_from n (pieces_of places packets)) (m, record { place = q; bytes = b })
piece_has n [] packets k m q e less s = absurd (cc)
piece_has n (p ∷ places) [] k m q e less s = absurd (omega arith)
piece_has n (p ∷ places) (b ∷ packets) zero m q e less s =
    let same : p ≡ q = cc in
    let number : n ≡ m = omega arith in
    (b, inl (ap (λ l. (l, record { place = p; bytes = b })) number ∙ ap (λ l. (m, record { place = l; bytes = b })) same))
piece_has n (p ∷ places) (b ∷ packets) (suc k) m q e less s =
    let h = piece_has (n + 1) places packets k m q e (omega arith) (omega arith) in
    (h.0, inr h.1)

-- a packet that has a byte between two places is one of those that do,
is_touched : (c : Parts) (k from to : ℕ) (q : Place) → slice_get c.places k ≡ Some q → length c.places ≡ length c.packets → k < length c.packets → packet_start c k < to → from < packet_start c (k + 1)
    → (b : List ℕ) × Has (touched (pieces_of c.places c.packets) from to) (k, record { place = q; bytes = b })
is_touched c k from to q e same less low high =
    let pieces : List Piece = pieces_of c.places c.packets in
    let h = piece_has 0 c.places c.packets k k q e less (omega arith) in
    let one : piece_start pieces k ≡ packet_start c k = starts_agree c.places c.packets k same in
    let two : piece_start pieces (k + 1) ≡ packet_start c (k + 1) = starts_agree c.places c.packets (k + 1) same in
    let a : nat_lt (piece_start pieces k) to ≡ true = lt-ltb (piece_start pieces k) to (omega arith) in
    let b : nat_lt from (piece_start pieces (k + 1)) ≡ true = lt-ltb from (piece_start pieces (k + 1)) (omega arith) in
    (h.0, has_filter (λ x. nat_lt (piece_start pieces x.0) to && nat_lt from (piece_start pieces (x.0 + 1))) (enumerate_from 0 pieces) (k, record { place = q; bytes = h.0 }) h.1 (rw (a, b) refl))

-- and one that starts there is one of those that do
is_started : (c : Parts) (k from to : ℕ) (q : Place) → slice_get c.places k ≡ Some q → length c.places ≡ length c.packets → k < length c.packets → from ≤ packet_start c k → packet_start c k < to
    → (b : List ℕ) × Has (started (pieces_of c.places c.packets) from to) (k, record { place = q; bytes = b })
is_started c k from to q e same less low high =
    let pieces : List Piece = pieces_of c.places c.packets in
    let h = piece_has 0 c.places c.packets k k q e less (omega arith) in
    let one : piece_start pieces k ≡ packet_start c k = starts_agree c.places c.packets k same in
    let a : nat_le from (piece_start pieces k) ≡ true = le-leb from (piece_start pieces k) (omega arith) in
    let b : nat_lt (piece_start pieces k) to ≡ true = lt-ltb (piece_start pieces k) to (omega arith) in
    (h.0, has_filter (λ x. nat_le from (piece_start pieces x.0) && nat_lt (piece_start pieces x.0) to) (enumerate_from 0 pieces) (k, record { place = q; bytes = h.0 }) h.1 (rw (a, b) refl))

-- so a Body that has a byte of a packet is kept where the code of its resolution is within the limit
res_stays : (c : Known) (eseq res from : ℕ) (xs : List (ℕ × Piece)) → (body_header c eseq res from xs).res ≡ res
res_stays c eseq res from [] = refl
res_stays c eseq res from (x ∷ more) = refl

pub is_left : (p : Plan) (stamp at : ℕ) (c : Parts) (limit j from k : ℕ) (bytes : List ℕ) (q : Place) → slice_get c.places k ≡ Some q → length c.places ≡ length c.packets → k < length c.packets → q.r + 7 ≤ c.head.levels + limit
    → packet_start c k < from + length bytes → from < packet_start c (k + 1) → is_within limit (the_body p stamp at (known_of c) j from bytes).payload ≡ true
is_left p stamp at c limit j from k bytes q e same less within low high =
    let pieces : List Piece = pieces_of c.places c.packets in
    let t = is_touched c k from (from + length bytes) q e same less low high in
    let xs : List (ℕ × Piece) = touched pieces from (from + length bytes) in
    let res : res_of c.head.levels xs ≤ resolution_code q.r c.head.levels = res_low c.head.levels xs (k, record { place = q; bytes = t.0 }) t.1 in
    let is : (body_header (known_of c) (number_at p (at + 1 + j) / 2 ^ 16) (res_of c.head.levels xs) from (started pieces from (from + length bytes))).res ≡ res_of c.head.levels xs =
    res_stays (known_of c) (number_at p (at + 1 + j) / 2 ^ 16) (res_of c.head.levels xs) from (started pieces from (from + length bytes)) in
    let small : res_of c.head.levels xs ≤ limit = omega arith in
    ap (λ n. nat_le n limit) is ∙ le-leb (res_of c.head.levels xs) limit small

-- and where a packet starts there is a mark at or before it
mark_low : (c : Parts) (body eseq res from k : ℕ) (xs : List (ℕ × Piece)) → FirstLow xs k → length c.places ≡ length c.packets → from ≤ packet_start c k → (m : Mark) × Has (mark_of body from (Body (body_header (known_of c) eseq res from xs))) m × (m.body ≡ body) × (m.place ≤ packet_start c k)
mark_low c body eseq res from k [] low same there = absurd low
mark_low c body eseq res from k (x ∷ more) low same there =
    let pieces : List Piece = pieces_of c.places c.packets in
    let start : piece_start pieces x.0 ≡ packet_start c x.0 = starts_agree c.places c.packets x.0 same in
    let up : packet_start c x.0 ≤ packet_start c k = starts_up (λ (b : List ℕ). length b) c.packets x.0 k low in
    (record { body = body; place = from + (piece_start pieces x.0 - from); pid = pid c.head x.1.place }, inl refl, refl, omega arith)

pub is_marked : (p : Plan) (stamp at : ℕ) (c : Parts) (j from k : ℕ) (bytes : List ℕ) (q : Place) → slice_get c.places k ≡ Some q → length c.places ≡ length c.packets → k < length c.packets
    → from ≤ packet_start c k → packet_start c k < from + length bytes → (m : Mark) × Has (mark_of j from (the_body p stamp at (known_of c) j from bytes).payload) m × (m.body ≡ j) × (m.place ≤ packet_start c k)
is_marked p stamp at c j from k bytes q e same less low high =
    let pieces : List Piece = pieces_of c.places c.packets in
    let t = is_started c k from (from + length bytes) q e same less low high in
    let test : (ℕ × Piece) → Bool = λ x. nat_le from (piece_start pieces x.0) && nat_lt (piece_start pieces x.0) (from + length bytes) in
    mark_low c j (number_at p (at + 1 + j) / 2 ^ 16) (res_of c.head.levels (touched pieces from (from + length bytes))) from k (started pieces from (from + length bytes))
    (first_low test 0 pieces (k, record { place = q; bytes = t.0 }) t.1) same low

-- an item of a placed list by its number
placed_at : {A : Type 0} (f : A → ℕ) (g : ℕ → ℕ → A → Datagram) (i at : ℕ) (xs : List A) (j m : ℕ) → ((i at : ℕ) (x : A) → length (g i at x).codestream ≡ f x) → j < length (placed f g i at xs) → m ≡ i + j
    → (front : List Datagram) × (from : ℕ) × (x : A) × (rest : List Datagram) × (placed f g i at xs ≡ front ++ g m from x ∷ rest) × (length front ≡ j) × (from ≡ at + sum_by (λ y. length y.codestream) front)
placed_at f g i at [] j m same less e = absurd (omega arith)
placed_at f g i at (x ∷ xs) zero m same less e = ([], at, x, placed f g (i + 1) (at + f x) xs, ap (λ n. g n at x ∷ placed f g (i + 1) (at + f x) xs) (let s : i ≡ m = omega arith in s), refl, omega arith)
placed_at f g i at (x ∷ xs) (suc j) m same less e =
    let h = placed_at f g (i + 1) (at + f x) xs j m same (omega arith) (omega arith) in
    let sum = sum_by-cons (λ y. length y.codestream) (g i at x) h.0 in
    let one = same i at x in
    (g i at x ∷ h.0, h.1, h.2, h.3, ap (λ l. g i at x ∷ l) h.4, ap (λ n. suc n) h.5, omega (arith, h.6, sum, one))

-- a Body of a cut by its number
pub record TheBody (p : Plan) (stamp at : ℕ) (c : Known) (j : ℕ) : Type 0 where
  pub front : List Datagram
  pub rest : List Datagram
  pub bytes : List ℕ
  pub from : ℕ
  pub splits : bodies_at p stamp at c ≡ front ++ the_body p stamp at c j from bytes ∷ rest
  pub number : length front ≡ j
  pub begins : payload_start (bodies_at p stamp at c) j ≡ from
  pub ends : payload_start (bodies_at p stamp at c) (j + 1) ≡ from + length bytes

pub the_body_is : (p : Plan) (stamp at : ℕ) (c : Known) (j : ℕ) → j < length (bodies_at p stamp at c) → TheBody p stamp at c j
the_body_is p stamp at c j less =
    let here = bodies_placed p stamp at c in
    let long = ap (λ (l : List Datagram). length l) here in
    let h = placed_at (λ b. length b) (the_body p stamp at c) 0 0 (payloads p c) j j (λ i at x. refl) (omega (arith, long, less)) (omega arith) in
    let splits = here ∙ h.4 in
    let w = starts_here (bodies_at p stamp at c) h.0 (the_body p stamp at c j h.1 h.2) h.3 j h.1 splits h.5 (let e : h.1 ≡ 0 + sum_by (λ y. length y.codestream) h.0 = h.6 in omega arith) in
    record { front = h.0; rest = h.3; bytes = h.2; from = h.1; splits = splits; number = h.5; begins = w.0; ends = w.1 }

-- and its marks are marks of the Bodies
numbered : (n m : ℕ) (front : List Datagram) (x : Datagram) (rest : List Datagram) → m ≡ n + length front → Has (enumerate_from n (front ++ x ∷ rest)) (m, x)
numbered n m [] x rest e = inl (ap (λ l. (l, x)) (let s : n ≡ m = omega arith in s))
numbered n m (y ∷ front) x rest e = inr (numbered (n + 1) m front x rest (omega arith))

pub mark_among : (bodies front : List Datagram) (x : Datagram) (rest : List Datagram) (j : ℕ) (m : Mark) → bodies ≡ front ++ x ∷ rest → length front ≡ j → Has (mark_of j (payload_start bodies j) x.payload) m → Has (marks bodies) m
mark_among bodies front x rest j m e n h =
    let P : List Datagram → Type 0 = λ l. Has (enumerate_from 0 l) (j, x) in
    let i = subst P (sym e) (numbered 0 j front x rest (omega (arith, n))) in
    has_flat_map (λ x. mark_of x.0 (payload_start bodies x.0) x.1.payload) (enumerate_from 0 bodies) (j, x) m i h
