-- The mark and the resolution of a payload that is being filled are those of the packets that start in it and have a byte in it.
use Rattle.std.proofs.Common.{◌≡◌, ◌⊎◌, ◌<◌, ◌≤◌, ◌+◌, ◌-◌, ℕ, min, Bool, true, false, List, [], ◌∷◌, ◌++◌, map, length, refl, sym, subst, ap, ◌∙◌, inl, inr, arith, append_assoc, Option, Some, None}
use Rattle.std.specs.Prelude.{◌&&◌, nat_le, nat_lt, if◌then◌else◌}
use Rattle.std.specs.List.{filter, fold, enumerate_from}
use Rattle.std.proofs.lemmas.Bool.Decides.{nat_tests}
use Rattle.std.proofs.lemmas.List.{append-nil, length-append}
use Rattle.std.proofs.lemmas.List.Sums.{sum_by-cons, sum_by_push}
use Rattle.std.proofs.Math.Seq.{take-append_seam}
use Rattle.codestream_model.specs.Values.{Head, Place}
use Rattle.codestream_model.specs.PacketOrder.{pid}
use Rattle.stream_model.specs.Cut.{Piece, piece_start, touched, started}
use Rattle.stream_model.proofs.GrownBodies.{total, seen}
use Rattle.packetiser.specs.Filled.{marks, reaching, first_mark, lowest_of}
use Rattle.packetiser.specs.Filling.{marked, lowered}

-- the tests of a packet that has a byte between two places, and of one that starts there
abbrev pub touches : List Piece → ℕ → ℕ → ℕ × Piece → Bool
touches pieces from to x = nat_lt (piece_start pieces x.0) to && nat_lt from (piece_start pieces (x.0 + 1))

abbrev pub starts : List Piece → ℕ → ℕ → ℕ × Piece → Bool
starts pieces from to x = nat_le from (piece_start pieces x.0) && nat_lt (piece_start pieces x.0) to

-- the pieces end at or before a place, and each has a byte, but for one at that place
abbrev pub Covers : ℕ → ℕ → List Piece → Type 0
Covers at to [] = at ≤ to
Covers at to (x ∷ xs) = ((1 ≤ length x.bytes) ⊎ (to ≡ at)) × Covers (at + length x.bytes) to xs

covers_all : (at to : ℕ) (xs : List Piece) → Covers at to xs → at + total xs ≤ to
covers_all at to [] c = omega (arith, c)
covers_all at to (x ∷ xs) c = omega (arith, covers_all (at + length x.bytes) to xs c.1, sum_by-cons (λ (y : Piece). length y.bytes) x xs)

-- the test of a start
start_test : (at to n : ℕ) → ((1 ≤ n) ⊎ (to ≡ at)) → at + n ≤ to → nat_lt at to ≡ nat_le 1 n
start_test at to n (inl s) h = grind (arith, nat_tests)
start_test at to n (inr s) h = grind (arith, nat_tests)

start_is : (pre : List Piece) (x : Piece) (xs : List Piece) → piece_start (pre ++ x ∷ xs) (length pre) ≡ total pre
start_is pre x xs = ap total (take-append_seam pre (x ∷ xs))

next_is : (pre : List Piece) (x : Piece) (xs : List Piece) → piece_start (pre ++ x ∷ xs) (length pre + 1) ≡ total pre + length x.bytes
next_is pre x xs =
    ap (λ n. piece_start (pre ++ x ∷ xs) n) (sym (length-append pre (x ∷ [])))
    ∙ (ap (λ l. piece_start l (length (pre ++ x ∷ []))) (sym (append_assoc pre (x ∷ []) xs))
    ∙ (ap total (take-append_seam (pre ++ x ∷ []) xs) ∙ sum_by_push (λ (y : Piece). length y.bytes) pre x))

-- a choice of items that look alike
chosen : {A B : Type 0} (f : A → B) (x : A) (y : B) (xs : List A) (ys : List B) (b c : Bool) → b ≡ c → f x ≡ y → map f xs ≡ ys → map f (if b then x ∷ xs else xs) ≡ (if c then y ∷ ys else ys)
chosen f x y xs ys true true e h k = rw (h, k) refl
chosen f x y xs ys false false e h k = k
chosen f x y xs ys true false e h k = absurd (cc)
chosen f x y xs ys false true e h k = absurd (cc)

both_same : (a b c d : Bool) → a ≡ b → c ≡ d → (a && c) ≡ (b && d)
both_same a b c d e f = rw (e, f) refl

swapped : (a b : Bool) → (a && b) ≡ (b && a)
swapped true true = refl
swapped true false = refl
swapped false true = refl
swapped false false = refl

marks_from : (pre xs : List Piece) (from to : ℕ) → Covers (total pre) to xs → map (seen (pre ++ xs)) (filter (starts (pre ++ xs) from to) (enumerate_from (length pre) xs)) ≡ marks (total pre) from xs
marks_from pre [] from to c = refl
marks_from pre (x ∷ xs) from to c =
    let next : List Piece = pre ++ x ∷ [] in
    let whole : pre ++ x ∷ xs ≡ next ++ xs = sym (append_assoc pre (x ∷ []) xs) in
    let more : length pre + 1 ≡ length next = sym (length-append pre (x ∷ [])) in
    let sums : total next ≡ total pre + length x.bytes = sum_by_push (λ (y : Piece). length y.bytes) pre x in
    let C : ℕ → Type 0 = λ n. Covers n to xs in
    let ih : map (seen (next ++ xs)) (filter (starts (next ++ xs) from to) (enumerate_from (length next) xs)) ≡ marks (total next) from xs = marks_from next xs from to (subst C (sym sums) c.1) in
    let rest : map (seen (pre ++ x ∷ xs)) (filter (starts (pre ++ x ∷ xs) from to) (enumerate_from (length pre + 1) xs)) ≡ marks (total pre + length x.bytes) from xs =
    ap (λ l. map (seen l) (filter (starts l from to) (enumerate_from (length pre + 1) xs))) whole
    ∙ (ap (λ n. map (seen (next ++ xs)) (filter (starts (next ++ xs) from to) (enumerate_from n xs))) more ∙ (ih ∙ ap (λ n. marks n from xs) sums)) in
    let s : piece_start (pre ++ x ∷ xs) (length pre) ≡ total pre = start_is pre x xs in
    let end : total pre + length x.bytes ≤ to = omega (arith, covers_all (total pre + length x.bytes) to xs c.1) in
    let test : starts (pre ++ x ∷ xs) from to (length pre, x) ≡ (nat_le from (total pre) && nat_le 1 (length x.bytes)) =
    both_same (nat_le from (piece_start (pre ++ x ∷ xs) (length pre))) (nat_le from (total pre)) (nat_lt (piece_start (pre ++ x ∷ xs) (length pre)) to) (nat_le 1 (length x.bytes))
    (ap (λ n. nat_le from n) s) (ap (λ n. nat_lt n to) s ∙ start_test (total pre) to (length x.bytes) c.0 end) in
    chosen (seen (pre ++ x ∷ xs)) (length pre, x) (total pre, x.place) (filter (starts (pre ++ x ∷ xs) from to) (enumerate_from (length pre + 1) xs)) (marks (total pre + length x.bytes) from xs)
    (starts (pre ++ x ∷ xs) from to (length pre, x)) (nat_le from (total pre) && nat_le 1 (length x.bytes)) test (ap (λ n. (n, x.place)) s) rest

reaching_from : (pre xs : List Piece) (from to : ℕ) → Covers (total pre) to xs → map (λ (y : ℕ × Piece). y.1.place) (filter (touches (pre ++ xs) from to) (enumerate_from (length pre) xs)) ≡ reaching (total pre) from xs
reaching_from pre [] from to c = refl
reaching_from pre (x ∷ xs) from to c =
    let next : List Piece = pre ++ x ∷ [] in
    let whole : pre ++ x ∷ xs ≡ next ++ xs = sym (append_assoc pre (x ∷ []) xs) in
    let more : length pre + 1 ≡ length next = sym (length-append pre (x ∷ [])) in
    let sums : total next ≡ total pre + length x.bytes = sum_by_push (λ (y : Piece). length y.bytes) pre x in
    let C : ℕ → Type 0 = λ n. Covers n to xs in
    let ih : map (λ (y : ℕ × Piece). y.1.place) (filter (touches (next ++ xs) from to) (enumerate_from (length next) xs)) ≡ reaching (total next) from xs = reaching_from next xs from to (subst C (sym sums) c.1) in
    let rest : map (λ (y : ℕ × Piece). y.1.place) (filter (touches (pre ++ x ∷ xs) from to) (enumerate_from (length pre + 1) xs)) ≡ reaching (total pre + length x.bytes) from xs =
    ap (λ l. map (λ (y : ℕ × Piece). y.1.place) (filter (touches l from to) (enumerate_from (length pre + 1) xs))) whole
    ∙ (ap (λ n. map (λ (y : ℕ × Piece). y.1.place) (filter (touches (next ++ xs) from to) (enumerate_from n xs))) more ∙ (ih ∙ ap (λ n. reaching n from xs) sums)) in
    let s : piece_start (pre ++ x ∷ xs) (length pre) ≡ total pre = start_is pre x xs in
    let end : total pre + length x.bytes ≤ to = omega (arith, covers_all (total pre + length x.bytes) to xs c.1) in
    let test : touches (pre ++ x ∷ xs) from to (length pre, x) ≡ (nat_le 1 (length x.bytes) && nat_lt from (total pre + length x.bytes)) =
    both_same (nat_lt (piece_start (pre ++ x ∷ xs) (length pre)) to) (nat_le 1 (length x.bytes)) (nat_lt from (piece_start (pre ++ x ∷ xs) (length pre + 1))) (nat_lt from (total pre + length x.bytes))
    (ap (λ n. nat_lt n to) s ∙ start_test (total pre) to (length x.bytes) c.0 end) (ap (λ n. nat_lt from n) (next_is pre x xs)) in
    chosen (λ (y : ℕ × Piece). y.1.place) (length pre, x) x.place (filter (touches (pre ++ x ∷ xs) from to) (enumerate_from (length pre + 1) xs)) (reaching (total pre + length x.bytes) from xs)
    (touches (pre ++ x ∷ xs) from to (length pre, x)) (nat_le 1 (length x.bytes) && nat_lt from (total pre + length x.bytes)) test refl rest

-- the packets that start in a payload, and those that have a byte in it
pub started_are : (pieces : List Piece) (from to : ℕ) → Covers 0 to pieces → map (seen pieces) (started pieces from to) ≡ marks 0 from pieces
started_are pieces from to c = marks_from [] pieces from to c

pub touched_are : (pieces : List Piece) (from to : ℕ) → Covers 0 to pieces → map (λ (y : ℕ × Piece). y.1.place) (touched pieces from to) ≡ reaching 0 from pieces
touched_are pieces from to c = reaching_from [] pieces from to c

-- after the last byte there are none
pub no_marks : (at from : ℕ) (xs : List Piece) → at + total xs ≤ from → marks at from xs ≡ []
no_marks at from [] h = refl
no_marks at from (x ∷ xs) h =
    let s : total (x ∷ xs) ≡ length x.bytes + total xs = sum_by-cons (λ (y : Piece). length y.bytes) x xs in
    let t : (nat_le from at && nat_le 1 (length x.bytes)) ≡ false = no_test at from (length x.bytes) (omega (arith, s)) in
    rw t (no_marks (at + length x.bytes) from xs (omega (arith, s)))
  where
    no_test : (at from n : ℕ) → at + n ≤ from → (nat_le from at && nat_le 1 n) ≡ false
    no_test at from n h = grind (arith, nat_tests)

pub no_touch : (at from : ℕ) (xs : List Piece) → at + total xs ≤ from → reaching at from xs ≡ []
no_touch at from [] h = refl
no_touch at from (x ∷ xs) h =
    let s : total (x ∷ xs) ≡ length x.bytes + total xs = sum_by-cons (λ (y : Piece). length y.bytes) x xs in
    let t : (nat_le 1 (length x.bytes) && nat_lt from (at + length x.bytes)) ≡ false = no_test at from (length x.bytes) (omega (arith, s)) in
    rw t (no_touch (at + length x.bytes) from xs (omega (arith, s)))
  where
    no_test : (at from n : ℕ) → at + n ≤ from → (nat_le 1 n && nat_lt from (at + n)) ≡ false
    no_test at from n h = grind (arith, nat_tests)

-- one piece more
abbrev pub one : {A : Type 0} → Bool → A → List A
one b x = if b then x ∷ [] else []

under : {A : Type 0} (b : Bool) (x : A) (xs ys : List A) → (if b then x ∷ (xs ++ ys) else xs ++ ys) ≡ (if b then x ∷ xs else xs) ++ ys
under true x xs ys = refl
under false x xs ys = refl

same_one : {A : Type 0} (b : Bool) (x : A) → (if b then x ∷ [] else []) ≡ one b x
same_one b x = refl

pub marks_push : (at from : ℕ) (xs : List Piece) (y : Piece) → marks at from (xs ++ y ∷ []) ≡ marks at from xs ++ one (nat_le from (at + total xs) && nat_le 1 (length y.bytes)) (at + total xs, y.place)
marks_push at from [] y = let e : at ≡ at + 0 = omega arith in ap (λ n. one (nat_le from n && nat_le 1 (length y.bytes)) (n, y.place)) e
marks_push at from (x ∷ xs) y =
    let s : at + length x.bytes + total xs ≡ at + total (x ∷ xs) = omega (arith, sum_by-cons (λ (z : Piece). length z.bytes) x xs) in
    let last : List (ℕ × Place) = one (nat_le from (at + total (x ∷ xs)) && nat_le 1 (length y.bytes)) (at + total (x ∷ xs), y.place) in
    let ih : marks (at + length x.bytes) from (xs ++ y ∷ []) ≡ marks (at + length x.bytes) from xs ++ last =
    marks_push (at + length x.bytes) from xs y ∙ ap (λ n. marks (at + length x.bytes) from xs ++ one (nat_le from n && nat_le 1 (length y.bytes)) (n, y.place)) s in
    rw ih (under (nat_le from at && nat_le 1 (length x.bytes)) (at, x.place) (marks (at + length x.bytes) from xs) last)

pub reaching_push : (at from : ℕ) (xs : List Piece) (y : Piece) → reaching at from (xs ++ y ∷ []) ≡ reaching at from xs ++ one (nat_le 1 (length y.bytes) && nat_lt from (at + total xs + length y.bytes)) y.place
reaching_push at from [] y = let e : at + length y.bytes ≡ at + 0 + length y.bytes = omega arith in ap (λ n. one (nat_le 1 (length y.bytes) && nat_lt from n) y.place) e
reaching_push at from (x ∷ xs) y =
    let s : at + length x.bytes + total xs + length y.bytes ≡ at + total (x ∷ xs) + length y.bytes = omega (arith, sum_by-cons (λ (z : Piece). length z.bytes) x xs) in
    let last : List Place = one (nat_le 1 (length y.bytes) && nat_lt from (at + total (x ∷ xs) + length y.bytes)) y.place in
    let ih : reaching (at + length x.bytes) from (xs ++ y ∷ []) ≡ reaching (at + length x.bytes) from xs ++ last =
    reaching_push (at + length x.bytes) from xs y ∙ ap (λ n. reaching (at + length x.bytes) from xs ++ one (nat_le 1 (length y.bytes) && nat_lt from n) y.place) s in
    rw ih (under (nat_le 1 (length x.bytes) && nat_lt from (at + length x.bytes)) x.place (reaching (at + length x.bytes) from xs) last)

-- the mark and the resolution with one more
fold_push : (a r : ℕ) (rs : List ℕ) → fold min a (rs ++ r ∷ []) ≡ min (fold min a rs) r
fold_push a r [] = refl
fold_push a r (s ∷ rs) = fold_push (min a s) r rs

map_push : (q : Place) (qs : List Place) → map (λ (x : Place). x.r) (qs ++ q ∷ []) ≡ map (λ (x : Place). x.r) qs ++ q.r ∷ []
map_push q [] = refl
map_push q (x ∷ qs) = ap (λ l. x.r ∷ l) (map_push q qs)

pub lowest_push : (qs : List Place) (q : Place) → lowest_of (qs ++ q ∷ []) ≡ lowered (lowest_of qs) q.r
lowest_push [] q = refl
lowest_push (x ∷ qs) q = ap (λ n. Some n) (ap (fold min x.r) (map_push q qs) ∙ fold_push x.r q.r (map (λ (y : Place). y.r) qs))

lowered_twice : (o : Option ℕ) (r : ℕ) → lowered (lowered o r) r ≡ lowered o r
lowered_twice None r = ap (λ n. Some n) (let e : min r r ≡ r = omega arith in e)
lowered_twice (Some s) r = ap (λ n. Some n) (let e : min (min s r) r ≡ min s r = omega arith in e)

mark_push : (h : Head) (from at : ℕ) (q : Place) (ms : List (ℕ × Place)) → first_mark h from (ms ++ (at, q) ∷ []) ≡ marked (first_mark h from ms) (Some (pid h q)) (at - from)
mark_push h from at q [] = refl
mark_push h from at q (m ∷ ms) = refl

marked_not : (o : Option (ℕ × ℕ)) (at : ℕ) → marked o None at ≡ o
marked_not None at = refl
marked_not (Some m) at = refl

-- more of the last packet: its resolution
lowest_by : (b : Bool) (qs : List Place) (q : Place) → lowest_of (qs ++ q ∷ []) ≡ lowered (lowest_of (qs ++ one b q)) q.r
lowest_by true qs q = lowest_push qs q ∙ (sym (lowered_twice (lowest_of qs) q.r) ∙ ap (λ o. lowered o q.r) (sym (lowest_push qs q)))
lowest_by false qs q = lowest_push qs q ∙ ap (λ l. lowered (lowest_of l) q.r) (sym (append-nil qs))

pub lowest_grown : (from : ℕ) (front : List Piece) (x : Piece) (bytes : List ℕ) → 1 ≤ length bytes → from ≤ total front + length x.bytes
    → lowest_of (reaching 0 from (front ++ record { place = x.place; bytes = x.bytes ++ bytes } ∷ [])) ≡ lowered (lowest_of (reaching 0 from (front ++ x ∷ []))) x.place.r
lowest_grown from front x bytes some within =
    let y : Piece = record { place = x.place; bytes = x.bytes ++ bytes } in
    let l : length y.bytes ≡ length x.bytes + length bytes = length-append x.bytes bytes in
    let t : (nat_le 1 (length y.bytes) && nat_lt from (0 + total front + length y.bytes)) ≡ true = in_test (length y.bytes) from (0 + total front + length y.bytes) (omega (arith, l)) (omega (arith, l)) in
    ap lowest_of (reaching_push 0 from front y ∙ ap (λ b. reaching 0 from front ++ one b x.place) t)
    ∙ (lowest_by (nat_le 1 (length x.bytes) && nat_lt from (0 + total front + length x.bytes)) (reaching 0 from front) x.place ∙ ap (λ l. lowered (lowest_of l) x.place.r) (sym (reaching_push 0 from front x)))
  where
    in_test : (n from to : ℕ) → 1 ≤ n → from < to → (nat_le 1 n && nat_lt from to) ≡ true
    in_test n from to h k = grind (arith, nat_tests)

-- and its mark, where these are its first bytes,
pub mark_begun : (h : Head) (from : ℕ) (front : List Piece) (x : Piece) (bytes : List ℕ) → 1 ≤ length bytes → x.bytes ≡ [] → from ≤ total front
    → first_mark h from (marks 0 from (front ++ record { place = x.place; bytes = x.bytes ++ bytes } ∷ [])) ≡ marked (first_mark h from (marks 0 from (front ++ x ∷ []))) (Some (pid h x.place)) (total front - from)
mark_begun h from front x bytes some none within =
    let y : Piece = record { place = x.place; bytes = x.bytes ++ bytes } in
    let l : length y.bytes ≡ length x.bytes + length bytes = length-append x.bytes bytes in
    let t : (nat_le from (0 + total front) && nat_le 1 (length y.bytes)) ≡ true = in_test from (0 + total front) (length y.bytes) (omega arith) (omega (arith, l)) in
    let z : 0 + total front - from ≡ total front - from = omega arith in
    let u : (nat_le from (0 + total front) && nat_le 1 (length x.bytes)) ≡ false = out_test from (0 + total front) (length x.bytes) (ap length none) in
    ap (first_mark h from) (marks_push 0 from front y ∙ ap (λ b. marks 0 from front ++ one b (0 + total front, x.place)) t)
    ∙ (mark_push h from (0 + total front) x.place (marks 0 from front) ∙ (ap (λ n. marked (first_mark h from (marks 0 from front)) (Some (pid h x.place)) n) z
    ∙ ap (λ l. marked (first_mark h from l) (Some (pid h x.place)) (total front - from)) (sym (marks_push 0 from front x ∙ (ap (λ b. marks 0 from front ++ one b (0 + total front, x.place)) u ∙ append-nil (marks 0 from front))))))
  where
    in_test : (from at n : ℕ) → from ≤ at → 1 ≤ n → (nat_le from at && nat_le 1 n) ≡ true
    in_test from at n h k = grind (arith, nat_tests)

    out_test : (from at n : ℕ) → n ≡ 0 → (nat_le from at && nat_le 1 n) ≡ false
    out_test from at n h = grind (arith, nat_tests)

-- or not
pub mark_grown : (h : Head) (from : ℕ) (front : List Piece) (x : Piece) (bytes : List ℕ) (at : ℕ) → 1 ≤ length x.bytes
    → first_mark h from (marks 0 from (front ++ record { place = x.place; bytes = x.bytes ++ bytes } ∷ [])) ≡ marked (first_mark h from (marks 0 from (front ++ x ∷ []))) None at
mark_grown h from front x bytes at some =
    let y : Piece = record { place = x.place; bytes = x.bytes ++ bytes } in
    let l : length y.bytes ≡ length x.bytes + length bytes = length-append x.bytes bytes in
    let t : nat_le 1 (length y.bytes) ≡ nat_le 1 (length x.bytes) = same_test (length y.bytes) (length x.bytes) (omega (arith, l)) some in
    ap (first_mark h from) (marks_push 0 from front y ∙ (ap (λ b. marks 0 from front ++ one (nat_le from (0 + total front) && b) (0 + total front, x.place)) t ∙ sym (marks_push 0 from front x)))
    ∙ sym (marked_not (first_mark h from (marks 0 from (front ++ x ∷ []))) at)
  where
    same_test : (n m : ℕ) → 1 ≤ n → 1 ≤ m → nat_le 1 n ≡ nat_le 1 m
    same_test n m h k = grind (arith, nat_tests)

-- a packet of which nothing is there yet changes neither
pub marks_opened : (from : ℕ) (xs : List Piece) (y : Piece) → y.bytes ≡ [] → marks 0 from (xs ++ y ∷ []) ≡ marks 0 from xs
marks_opened from xs y none = marks_push 0 from xs y ∙ (ap (λ (n : ℕ). marks 0 from xs ++ one (nat_le from (0 + total xs) && nat_le 1 n) (0 + total xs, y.place)) (ap length none) ∙ (ap (λ b. marks 0 from xs ++ one b (0 + total xs, y.place)) (never (nat_le from (0 + total xs))) ∙ append-nil (marks 0 from xs)))
  where
    never : (b : Bool) → (b && nat_le 1 0) ≡ false
    never true = refl
    never false = refl

pub reaching_opened : (from : ℕ) (xs : List Piece) (y : Piece) → y.bytes ≡ [] → reaching 0 from (xs ++ y ∷ []) ≡ reaching 0 from xs
reaching_opened from xs y none = reaching_push 0 from xs y ∙ (ap (λ (n : ℕ). reaching 0 from xs ++ one (nat_le 1 n && nat_lt from (0 + total xs + n)) y.place) (ap length none) ∙ append-nil (reaching 0 from xs))
