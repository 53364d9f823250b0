-- The Bodies of what is there of a codestream are the first of those when more of it is there.
use Rattle.std.proofs.Common.{◌≡◌, ◌<◌, ◌≤◌, ◌+◌, ◌-◌, ℕ, suc, Bool, true, false, cond, List, [], ◌∷◌, ◌++◌, map, length, take, refl, sym, ap, ◌∙◌, arith}
use Rattle.std.specs.Prelude.{◌&&◌, nat_le, nat_lt}
use Rattle.std.specs.List.{AllByRecursion, filter, sum_by, enumerate_from}
use Rattle.std.proofs.lemmas.Bool.{lt-leb, lt-ltb}
use Rattle.std.proofs.lemmas.List.{append-nil, length-append, map-append, take-append-le}
use Rattle.std.proofs.lemmas.List.Sums.{sum_by-append, sum_by-cons}
use Rattle.std.proofs.Math.Seq.{take-append-add}
use Rattle.codestream_model.specs.Values.{Place}
use Rattle.stream_model.specs.Cut.{Piece, Known, piece_start, touched, started, res_of, body_header}
use Rattle.stream_model.proofs.DueGrows.{filter-append, none_left}

-- items that pass two tests alike and look alike
alike : {A B : Type 0} (x : A) (xs ys : List A) (f g : A → B) (b c : Bool) → b ≡ c → f x ≡ g x → map f xs ≡ map g ys → map f (cond b (x ∷ xs) xs) ≡ map g (cond c (x ∷ ys) ys)
alike x xs ys f g true true e h k = rw (h, k) refl
alike x xs ys f g false false e h k = k
alike x xs ys f g true false e h k = absurd (cc)
alike x xs ys f g false true e h k = absurd (cc)

-- so with a list of items
agree : {A B : Type 0} (t u : A → Bool) (f g : A → B) (xs : List A) → AllByRecursion (λ x. (t x ≡ u x) × (f x ≡ g x)) xs → map f (filter t xs) ≡ map g (filter u xs)
agree t u f g [] h = refl
agree t u f g (x ∷ xs) h = alike x (filter t xs) (filter u xs) f g (t x) (u x) h.0.0 h.0.1 (agree t u f g xs h.1)

-- numbered items
pub enumerate-append : {A : Type 0} (k : ℕ) (xs ys : List A) → enumerate_from k (xs ++ ys) ≡ enumerate_from k xs ++ enumerate_from (k + length xs) ys
enumerate-append k [] ys = ap (λ n. enumerate_from n ys) (let e : k ≡ k + 0 = omega arith in e)
enumerate-append k (x ∷ xs) ys =
    ap (λ zs. (k, x) ∷ zs) (enumerate-append (k + 1) xs ys ∙ ap (λ n. enumerate_from (k + 1) xs ++ enumerate_from n ys) (let e : k + 1 + length xs ≡ k + suc (length xs) = omega arith in e))

-- what holds below a number holds of the first items
low_numbers : {A : Type 0} (P : ℕ × A → Type 0) (k n : ℕ) (xs : List A) → k + length xs ≤ n → ((i : ℕ) (x : A) → i < n → P (i, x)) → AllByRecursion P (enumerate_from k xs)
low_numbers P k n [] h f = tt
low_numbers P k n (x ∷ xs) h f = (f k x (omega arith), low_numbers P (k + 1) n xs (omega arith) f)

-- and what holds from it on of those after them
high_numbers : {A : Type 0} (P : ℕ × A → Type 0) (k n : ℕ) (xs : List A) → n ≤ k → ((i : ℕ) (x : A) → n ≤ i → P (i, x)) → AllByRecursion P (enumerate_from k xs)
high_numbers P k n [] h f = tt
high_numbers P k n (x ∷ xs) h f = (f k x h, high_numbers P (k + 1) n xs (omega arith) f)

-- the length of pieces
abbrev pub total : List Piece → ℕ
total pieces = sum_by (λ x. length x.bytes) pieces

-- a piece of which more is there
abbrev pub longer : Piece → List ℕ → Piece
longer x extra = record { place = x.place; bytes = x.bytes ++ extra }

-- the start of a piece among the first,
start_low : (front rest : List Piece) (i : ℕ) → i ≤ length front → piece_start (front ++ rest) i ≡ total (take i front)
start_low front rest i h = ap total (take-append-le i front rest h)

-- after them,
start_last : (front : List Piece) (x : Piece) (rest : List Piece) → piece_start (front ++ x ∷ rest) (length front + 1) ≡ total front + length x.bytes
start_last front x rest =
    ap total (take-append-add front (x ∷ rest) 1) ∙ (sum_by-append (λ (y : Piece). length y.bytes) front (x ∷ []) ∙ (let e : total front + total (x ∷ []) ≡ total front + length x.bytes = omega (arith, sum_by-cons (λ (y : Piece). length y.bytes) x []) in e))

-- and further after
start_high : (front : List Piece) (x : Piece) (rest : List Piece) (i : ℕ) → length front + 1 ≤ i → total front + length x.bytes ≤ piece_start (front ++ x ∷ rest) i
start_high front x rest i h =
    let n = i - length front - 1 in
    let e : i ≡ length front + suc n = omega arith in
    let t : piece_start (front ++ x ∷ rest) i ≡ total (front ++ x ∷ take n rest) = ap (λ k. piece_start (front ++ x ∷ rest) k) e ∙ ap total (take-append-add front (x ∷ rest) (suc n)) in
    omega (arith, t, sum_by-append (λ (y : Piece). length y.bytes) front (x ∷ take n rest), sum_by-cons (λ (y : Piece). length y.bytes) x (take n rest))

-- what a Body's header has of a piece: its start and its precinct
abbrev pub seen : List Piece → ℕ × Piece → ℕ × Place
seen pieces x = (piece_start pieces x.0, x.1.place)

-- the last piece looks as it did
one_alike : (x y : ℕ × Piece) (f g : ℕ × Piece → ℕ × Place) (b c : Bool) → b ≡ c → f x ≡ g y → map f (cond b (x ∷ []) []) ≡ map g (cond c (y ∷ []) [])
one_alike x y f g true true e h = rw h refl
one_alike x y f g false false e h = refl
one_alike x y f g true false e h = absurd (cc)
one_alike x y f g false true e h = absurd (cc)

-- by its number and its start
last_alike : (was now : List Piece) (t u : ℕ × Piece → Bool) (k : ℕ) (last : Piece) (extra : List ℕ) → t (k, last) ≡ u (k, longer last extra) → piece_start was k ≡ piece_start now k
    → map (seen was) (filter t ((k, last) ∷ [])) ≡ map (seen now) (filter u ((k, longer last extra) ∷ []))
last_alike was now t u k last extra here start = one_alike (k, last) (k, longer last extra) (seen was) (seen now) (t (k, last)) (u (k, longer last extra)) here (ap (λ n. (n, last.place)) start)

-- pieces that pass a test by their starts, where more is there
grown_view : (front : List Piece) (last : Piece) (extra : List ℕ) (more : List Piece) (t u : ℕ × Piece → Bool)
    → ((i : ℕ) (x : Piece) → i < length front → t (i, x) ≡ u (i, x))
    → (t (length front, last) ≡ u (length front, longer last extra))
    → ((i : ℕ) (x : Piece) → length front + 1 ≤ i → u (i, x) ≡ false)
    → map (seen (front ++ last ∷ [])) (filter t (enumerate_from 0 (front ++ last ∷ []))) ≡ map (seen (front ++ longer last extra ∷ more)) (filter u (enumerate_from 0 (front ++ longer last extra ∷ more)))
grown_view front last extra more t u low here high =
    let was = front ++ last ∷ [] in
    let now = front ++ longer last extra ∷ more in
    let k = length front in
    let same : (i : ℕ) → i ≤ k → piece_start was i ≡ piece_start now i = λ i h. start_low front (last ∷ []) i h ∙ sym (start_low front (longer last extra ∷ more) i h) in
    let first : map (seen was) (filter t (enumerate_from 0 front)) ≡ map (seen now) (filter u (enumerate_from 0 front)) =
    agree t u (seen was) (seen now) (enumerate_from 0 front)
    (low_numbers (λ (x : ℕ × Piece). (t x ≡ u x) × (seen was x ≡ seen now x)) 0 k front (omega arith) (λ i x h. (low i x h, ap (λ n. (n, x.place)) (same i (omega arith))))) in
    let at_last : map (seen was) (filter t ((k, last) ∷ [])) ≡ map (seen now) (filter u ((k, longer last extra) ∷ [])) = last_alike was now t u k last extra here (same k (omega arith)) in
    let none : filter u (enumerate_from (k + 1) more) ≡ [] = none_left u (enumerate_from (k + 1) more) (high_numbers (λ (x : ℕ × Piece). u x ≡ false) (k + 1) (k + 1) more (omega arith) high) in
    let split_was : filter t (enumerate_from 0 was) ≡ filter t (enumerate_from 0 front) ++ filter t ((k, last) ∷ []) =
    ap (filter t) (enumerate-append 0 front (last ∷ []) ∙ ap (λ n. enumerate_from 0 front ++ (n, last) ∷ []) (let e : 0 + k ≡ k = omega arith in e)) ∙ filter-append t (enumerate_from 0 front) ((k, last) ∷ []) in
    let split_now : filter u (enumerate_from 0 now) ≡ filter u (enumerate_from 0 front) ++ filter u ((k, longer last extra) ∷ []) =
    ap (filter u) (enumerate-append 0 front (longer last extra ∷ more) ∙ ap (λ n. enumerate_from 0 front ++ enumerate_from n (longer last extra ∷ more)) (let e : 0 + k ≡ k = omega arith in e))
    ∙ (filter-append u (enumerate_from 0 front) ((k, longer last extra) ∷ enumerate_from (k + 1) more)
    ∙ ap (λ zs. filter u (enumerate_from 0 front) ++ zs) (filter-append u ((k, longer last extra) ∷ []) (enumerate_from (k + 1) more) ∙ (ap (λ zs. filter u ((k, longer last extra) ∷ []) ++ zs) none ∙ append-nil (filter u ((k, longer last extra) ∷ []))))) in
    ap (map (seen was)) split_was
    ∙ (map-append (seen was) (filter t (enumerate_from 0 front)) (filter t ((k, last) ∷ []))
    ∙ (ap (λ zs. zs ++ map (seen was) (filter t ((k, last) ∷ []))) first
    ∙ (ap (λ zs. map (seen now) (filter u (enumerate_from 0 front)) ++ zs) at_last
    ∙ (sym (map-append (seen now) (filter u (enumerate_from 0 front)) (filter u ((k, longer last extra) ∷ []))) ∙ sym (ap (map (seen now)) split_now)))))

-- the test of a packet that has a byte between two places, and that of one that starts there
abbrev touches : List Piece → ℕ → ℕ → ℕ × Piece → Bool
touches pieces from to x = nat_lt (piece_start pieces x.0) to && nat_lt from (piece_start pieces (x.0 + 1))

-- the test of one that starts there
abbrev starts : List Piece → ℕ → ℕ → ℕ × Piece → Bool
starts pieces from to x = nat_le from (piece_start pieces x.0) && nat_lt (piece_start pieces x.0) to

-- tests of equal numbers
same_touch : (a b c d from to : ℕ) → a ≡ b → c ≡ d → (nat_lt a to && nat_lt from c) ≡ (nat_lt b to && nat_lt from d)
same_touch a b c d from to e f = rw (e, f) refl

-- the same of where packets start
same_start : (a b from to : ℕ) → a ≡ b → (nat_le from a && nat_lt a to) ≡ (nat_le from b && nat_lt b to)
same_start a b from to e = rw e refl

-- a test of which the first part fails, or the second
first_fails : (b c : Bool) → b ≡ false → (b && c) ≡ false
first_fails b c e = rw e refl

-- or of which the second fails
second_fails : (b c : Bool) → c ≡ false → (b && c) ≡ false
second_fails true c e = e
second_fails false c e = refl

-- the packets that have a byte in a payload
pub touched_stay : (front : List Piece) (last : Piece) (extra : List ℕ) (more : List Piece) (from to : ℕ) → from < to → to ≤ total front + length last.bytes
    → map (seen (front ++ last ∷ [])) (touched (front ++ last ∷ []) from to) ≡ map (seen (front ++ longer last extra ∷ more)) (touched (front ++ longer last extra ∷ more) from to)
touched_stay front last extra more from to some within =
    let was = front ++ last ∷ [] in
    let now = front ++ longer last extra ∷ more in
    let k = length front in
    let same : (i : ℕ) → i ≤ k → piece_start was i ≡ piece_start now i = λ i h. start_low front (last ∷ []) i h ∙ sym (start_low front (longer last extra ∷ more) i h) in
    let here : touches was from to (k, last) ≡ touches now from to (k, longer last extra) =
    (let e : nat_lt from (piece_start was (k + 1)) ≡ true = lt-ltb from (piece_start was (k + 1)) (omega (arith, start_last front last [])) in
    let f : nat_lt from (piece_start now (k + 1)) ≡ true = lt-ltb from (piece_start now (k + 1)) (omega (arith, start_last front (longer last extra) more, length-append last.bytes extra)) in
    let g : piece_start was k ≡ piece_start now k = same k (omega arith) in
    rw (e, f, g) refl) in
    grown_view front last extra more (touches was from to) (touches now from to)
    (λ i x h. same_touch (piece_start was i) (piece_start now i) (piece_start was (i + 1)) (piece_start now (i + 1)) from to (same i (omega arith)) (same (i + 1) (omega arith)))
    here
    (λ i x h. first_fails (nat_lt (piece_start now i) to) (nat_lt from (piece_start now (i + 1)))
    (lt-leb (suc (piece_start now i)) to (omega (arith, start_high front (longer last extra) more i h, length-append last.bytes extra))))

-- and those that start in it
pub started_stay : (front : List Piece) (last : Piece) (extra : List ℕ) (more : List Piece) (from to : ℕ) → to ≤ total front + length last.bytes
    → map (seen (front ++ last ∷ [])) (started (front ++ last ∷ []) from to) ≡ map (seen (front ++ longer last extra ∷ more)) (started (front ++ longer last extra ∷ more) from to)
started_stay front last extra more from to within =
    let was = front ++ last ∷ [] in
    let now = front ++ longer last extra ∷ more in
    let k = length front in
    let same : (i : ℕ) → i ≤ k → piece_start was i ≡ piece_start now i = λ i h. start_low front (last ∷ []) i h ∙ sym (start_low front (longer last extra ∷ more) i h) in
    grown_view front last extra more (starts was from to) (starts now from to)
    (λ i x h. same_start (piece_start was i) (piece_start now i) from to (same i (omega arith)))
    (same_start (piece_start was k) (piece_start now k) from to (same k (omega arith)))
    (λ i x h. second_fails (nat_le from (piece_start now i)) (nat_lt (piece_start now i) to)
    (lt-leb (suc (piece_start now i)) to (omega (arith, start_high front (longer last extra) more i h, length-append last.bytes extra))))

-- RES and the rest of a Body's header go by that
places_alike : (was now : List Piece) (xs ys : List (ℕ × Piece)) → map (seen was) xs ≡ map (seen now) ys → map (λ y. y.1.place.r) xs ≡ map (λ y. y.1.place.r) ys
places_alike was now [] [] e = refl
places_alike was now [] (y ∷ ys) e = absurd (cc)
places_alike was now (x ∷ xs) [] e = absurd (cc)
places_alike was now (x ∷ xs) (y ∷ ys) e =
    let first : seen was x ≡ seen now y = cc in
    let behind : map (seen was) xs ≡ map (seen now) ys = cc in
    let r : x.1.place.r ≡ y.1.place.r = ap (λ (z : ℕ × Place). z.1.r) first in
    rw (r, places_alike was now xs ys behind) refl

-- so RES is the same
pub res_alike : (levels : ℕ) (was now : List Piece) (xs ys : List (ℕ × Piece)) → map (seen was) xs ≡ map (seen now) ys → res_of levels xs ≡ res_of levels ys
res_alike levels was now [] [] e = refl
res_alike levels was now [] (y ∷ ys) e = absurd (cc)
res_alike levels was now (x ∷ xs) [] e = absurd (cc)
res_alike levels was now (x ∷ xs) (y ∷ ys) e =
    let first : seen was x ≡ seen now y = cc in
    let behind : map (seen was) xs ≡ map (seen now) ys = cc in
    let r : x.1.place.r ≡ y.1.place.r = ap (λ (z : ℕ × Place). z.1.r) first in
    rw (r, places_alike was now xs ys behind) refl

-- and so is the rest of the header
pub header_alike : (c d : Known) (eseq res from : ℕ) (xs ys : List (ℕ × Piece)) → c.head ≡ d.head → map (seen c.pieces) xs ≡ map (seen d.pieces) ys → body_header c eseq res from xs ≡ body_header d eseq res from ys
header_alike c d eseq res from [] [] h e = refl
header_alike c d eseq res from [] (y ∷ ys) h e = absurd (cc)
header_alike c d eseq res from (x ∷ xs) [] h e = absurd (cc)
header_alike c d eseq res from (x ∷ xs) (y ∷ ys) h e =
    let first : seen c.pieces x ≡ seen d.pieces y = cc in
    let start : piece_start c.pieces x.0 ≡ piece_start d.pieces y.0 = ap (λ (z : ℕ × Place). z.0) first in
    let place : x.1.place ≡ y.1.place = ap (λ (z : ℕ × Place). z.1) first in
    rw (start, place, h) refl
