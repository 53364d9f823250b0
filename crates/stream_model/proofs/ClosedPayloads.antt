-- A payload that is closed stays as it is when more of the codestream comes.
use Rattle.std.proofs.Common.{◌≡◌, ◌<◌, ◌≤◌, ◌⊎◌, ◌+◌, ◌-◌, ◌*◌, ◌/◌, ℕ, zero, suc, Bool, true, false, not, List, [], ◌∷◌, ◌++◌, map, length, take, drop, refl, sym, subst, ap, ◌∙◌, inl, inr, arith, append_assoc}
use Rattle.std.specs.Prelude.{◌==◌, ◌&&◌, if◌then◌else◌}
use Rattle.std.specs.List.{filter, flat_map, range_with_len}
use Rattle.std.proofs.Math.Nat.{mul-le-mul_right, div-mul-le_self, le-div_iff_mul-le, lt-div-mul-add, div-lt_iff_lt-mul}
use Rattle.std.proofs.lemmas.Bool.{eqb-true, eq-eqb}
use Rattle.std.proofs.lemmas.List.{append-nil, length-append, length-take, length-drop, map-append, take-append-le}
use Rattle.std.proofs.Math.Seq.{drop-append-le}
use Rattle.stream_model.specs.Cut.{Piece, room, onto_first, stretches, with_eoc, chunks, closed_payloads, payloads}
use Rattle.stream_model.specs.Laws.{ClosedStays}
use Rattle.stream_model.proofs.Bases.{not_true}
use Rattle.stream_model.proofs.CutPayloads.{chunk}
use Rattle.stream_model.proofs.CutStreams.{range_append}
use Rattle.stream_model.proofs.DueGrows.{filter-append, none_left}

-- one list is a prefix of another
abbrev pub IsFront : List (List ℕ) → List (List ℕ) → Type 0
IsFront xs ys = (more : List (List ℕ)) × (ys ≡ xs ++ more)

-- a chunk that is whole in the front of bytes
same_chunk : (room : ℕ) (s e : List ℕ) (i : ℕ) → i * room + room ≤ length s → chunk room (s ++ e) i ≡ chunk room s i
same_chunk room s e i h =
    let d : drop (i * room) (s ++ e) ≡ drop (i * room) s ++ e = drop-append-le (i * room) s e (omega arith) in
    let n : i * room + room - i * room ≤ length (drop (i * room) s) = omega (arith, length-drop (i * room) s) in
    ap (λ xs. take (i * room + room - i * room) xs) d ∙ take-append-le (i * room + room - i * room) (drop (i * room) s) e n

long_chunk : (room : ℕ) (s : List ℕ) (i : ℕ) → i * room + room ≤ length s → length (chunk room s i) ≡ room
long_chunk room s i h = omega (arith, length-take (i * room + room - i * room) (drop (i * room) s), length-drop (i * room) s)

short_chunk : (room : ℕ) (s : List ℕ) (i : ℕ) → length s < i * room + room → 1 ≤ room → length (chunk room s i) < room
short_chunk room s i h some = omega (arith, length-take (i * room + room - i * room) (drop (i * room) s), length-drop (i * room) s)

-- the chunks that are full are those that are whole
whole_ones : (room : ℕ) (s e : List ℕ) (a m : ℕ) → 1 ≤ room → (a + m) * room ≤ length s → filter (λ payload. length payload == room) (map (chunk room s) (range_with_len a m)) ≡ map (chunk room (s ++ e)) (range_with_len a m)
whole_ones room s e a zero some h = refl
whole_ones room s e a (suc m) some h =
    let up : (a + 1) * room ≤ (a + suc m) * room = mul-le-mul_right room (let k : a + 1 ≤ a + suc m = omega arith in k) in
    let here : a * room + room ≤ length s = (let k : (a + 1) * room ≡ a * room + room = omega arith in omega arith) in
    let t : (length (chunk room s a) == room) ≡ true = eq-eqb (length (chunk room s a)) room (long_chunk room s a here) in
    let next : (a + 1 + m) * room ≤ length s = (let k : (a + 1 + m) * room ≡ (a + suc m) * room = omega arith in omega arith) in
    rw t (ap (λ ys. chunk room s a ∷ ys) (whole_ones room s e (a + 1) m some next) ∙ ap (λ y. y ∷ map (chunk room (s ++ e)) (range_with_len (a + 1) m)) (sym (same_chunk room s e a here)))

-- how many chunks there are, and how many of them are whole
abbrev pub count : ℕ → ℕ → ℕ
count room n = (n + room - 1) / room

grows : (room m n : ℕ) → 1 ≤ room → m ≤ n → m / room ≤ count room n
grows room m n some h =
    let l : m / room * room ≤ m = div-mul-le_self m room in
    let k : m / room * room ≤ n + room - 1 = omega arith in
    (le-div_iff_mul-le some).1 k

quotient_grows : (room m n : ℕ) → 1 ≤ room → m ≤ n → m / room ≤ n / room
quotient_grows room m n some h =
    let l : m / room * room ≤ m = div-mul-le_self m room in
    let k : m / room * room ≤ n = omega arith in
    (le-div_iff_mul-le some).1 k

at_most_by : (c q : ℕ) → q ≤ c → c < q + 2 → (c ≡ q) ⊎ (c ≡ q + 1)
at_most_by c q h k = grind arith

at_most_one : (room n : ℕ) → 1 ≤ room → (count room n ≡ n / room) ⊎ (count room n ≡ n / room + 1)
at_most_one room n some =
    let q : ℕ = n / room in
    let l : n < q * room + room = lt-div-mul-add some in
    let e : (q + 2) * room ≡ q * room + room + room = omega arith in
    let k : n + room - 1 < (q + 2) * room = omega arith in
    at_most_by (count room n) q (grows room n n some (omega arith)) ((div-lt_iff_lt-mul some).1 k)

-- so the full chunks of bytes are the first, whatever follows the bytes
abbrev pub full_ones : ℕ → List (List ℕ) → List (List ℕ)
full_ones room xs = filter (λ payload. length payload == room) xs

full_by : (room : ℕ) (s e : List ℕ) → 1 ≤ room → ((count room (length s) ≡ length s / room) ⊎ (count room (length s) ≡ length s / room + 1)) → full_ones room (chunks room s) ≡ map (chunk room (s ++ e)) (range_with_len 0 (length s / room))
full_by room s e some (inl h) =
    let q : ℕ = length s / room in
    let few : (0 + q) * room ≤ length s = (let l : q * room ≤ length s = div-mul-le_self (length s) room in let z : (0 + q) * room ≡ q * room = omega arith in omega arith) in
    ap (λ n. full_ones room (map (chunk room s) (range_with_len 0 n))) h ∙ whole_ones room s e 0 q some few
full_by room s e some (inr h) =
    let q : ℕ = length s / room in
    let few : (0 + q) * room ≤ length s = (let l : q * room ≤ length s = div-mul-le_self (length s) room in let z : (0 + q) * room ≡ q * room = omega arith in omega arith) in
    let last : length s < (0 + q) * room + room = (let l : length s < q * room + room = lt-div-mul-add some in let z : (0 + q) * room ≡ q * room = omega arith in omega arith) in
    let short : length (chunk room s (0 + q)) < room = short_chunk room s (0 + q) last some in
    let t : (length (chunk room s (0 + q)) == room) ≡ false = not_true (length (chunk room s (0 + q)) == room) (λ k. let l : length (chunk room s (0 + q)) ≡ room = eqb-true (length (chunk room s (0 + q))) room k in omega arith) in
    let two : map (chunk room s) (range_with_len 0 (q + 1)) ≡ map (chunk room s) (range_with_len 0 q) ++ chunk room s (0 + q) ∷ [] =
    ap (λ xs. map (chunk room s) xs) (range_append 0 q 1) ∙ map-append (chunk room s) (range_with_len 0 q) (range_with_len (0 + q) 1) in
    ap (λ n. full_ones room (map (chunk room s) (range_with_len 0 n))) h
    ∙ (ap (λ xs. full_ones room xs) two
    ∙ (filter-append (λ payload. length payload == room) (map (chunk room s) (range_with_len 0 q)) (chunk room s (0 + q) ∷ [])
    ∙ (ap (λ xs. full_ones room (map (chunk room s) (range_with_len 0 q)) ++ xs) (none_left (λ payload. length payload == room) (chunk room s (0 + q) ∷ []) (t, tt))
    ∙ (append-nil (full_ones room (map (chunk room s) (range_with_len 0 q))) ∙ whole_ones room s e 0 q some few))))

full_are_first : (room : ℕ) (s e : List ℕ) → 1 ≤ room → full_ones room (chunks room s) ≡ map (chunk room (s ++ e)) (range_with_len 0 (length s / room))
full_are_first room s e some = full_by room s e some (at_most_one room (length s) some)

-- the first chunks are the front of more
first_chunks : (room : ℕ) (b : List ℕ) (m n : ℕ) → m ≤ n → IsFront (map (chunk room b) (range_with_len 0 m)) (map (chunk room b) (range_with_len 0 n))
first_chunks room b m n h =
    let e : n ≡ m + (n - m) = omega arith in (
      map (chunk room b) (range_with_len (0 + m) (n - m)),
      ap (λ k. map (chunk room b) (range_with_len 0 k)) e ∙ (ap (λ xs. map (chunk room b) xs) (range_append 0 m (n - m)) ∙ map-append (chunk room b) (range_with_len 0 m) (range_with_len (0 + m) (n - m))),
    )

longer : (s e : List ℕ) → length s ≤ length (s ++ e)
longer s e = omega (arith, length-append s e)

full_in_chunks : (room : ℕ) (s e : List ℕ) → 1 ≤ room → IsFront (full_ones room (chunks room s)) (chunks room (s ++ e))
full_in_chunks room s e some =
    let P : List (List ℕ) → Type 0 = λ xs. IsFront xs (chunks room (s ++ e)) in
    subst P (sym (full_are_first room s e some)) (first_chunks room (s ++ e) (length s / room) (count room (length (s ++ e))) (grows room (length s) (length (s ++ e)) some (longer s e)))

full_in_full : (room : ℕ) (s e : List ℕ) → 1 ≤ room → IsFront (full_ones room (chunks room s)) (full_ones room (chunks room (s ++ e)))
full_in_full room s e some =
    let P : List (List ℕ) → Type 0 = λ xs. IsFront xs (full_ones room (chunks room (s ++ e))) in
    let Q : List (List ℕ) → Type 0 = λ ys. IsFront (map (chunk room (s ++ e)) (range_with_len 0 (length s / room))) ys in
    let now : full_ones room (chunks room (s ++ e)) ≡ map (chunk room (s ++ e)) (range_with_len 0 (length (s ++ e) / room)) =
    full_are_first room (s ++ e) [] some ∙ ap (λ b. map (chunk room b) (range_with_len 0 (length (s ++ e) / room))) (append-nil (s ++ e)) in
    subst P (sym (full_are_first room s e some))
    (subst Q (sym now) (first_chunks room (s ++ e) (length s / room) (length (s ++ e) / room) (quotient_grows room (length s) (length (s ++ e)) some (longer s e))))

-- fronts after a list and before one
front_behind : (a xs ys : List (List ℕ)) → IsFront xs ys → IsFront (a ++ xs) (a ++ ys)
front_behind a xs ys h = (h.0, ap (λ zs. a ++ zs) h.1 ∙ sym (append_assoc a xs h.0))

front_before : (xs ys zs : List (List ℕ)) → IsFront xs ys → IsFront xs (ys ++ zs)
front_before xs ys zs h = (h.0 ++ zs, ap (λ ws. ws ++ zs) h.1 ∙ append_assoc xs h.0 zs)

-- stretches of which the last has grown, and others after it
pub record Extends (was now : List (List ℕ)) : Type 0 where
  pub before : List (List ℕ)
  pub last : List ℕ
  pub extra : List ℕ
  pub more : List (List ℕ)
  pub old : was ≡ before ++ last ∷ []
  pub new : now ≡ before ++ (last ++ extra) ∷ more

-- what is closed of them is a prefix of what is closed later,
closed_cons : (room : ℕ) (s : List ℕ) (b : List (List ℕ)) (last : List ℕ) (m : List (List ℕ)) → closed_payloads room (s ∷ (b ++ last ∷ m)) ≡ chunks room s ++ closed_payloads room (b ++ last ∷ m)
closed_cons room s [] last m = refl
closed_cons room s (x ∷ b) last m = refl

closed_last : (room : ℕ) (last extra : List ℕ) (more : List (List ℕ)) → 1 ≤ room → IsFront (closed_payloads room (last ∷ [])) (closed_payloads room ((last ++ extra) ∷ more))
closed_last room last extra [] some = full_in_full room last extra some
closed_last room last extra (t ∷ more) some = front_before (full_ones room (chunks room last)) (chunks room (last ++ extra)) (closed_payloads room (t ∷ more)) (full_in_chunks room last extra some)

closed_in_closed : (room : ℕ) (before : List (List ℕ)) (last extra : List ℕ) (more : List (List ℕ)) → 1 ≤ room → IsFront (closed_payloads room (before ++ last ∷ [])) (closed_payloads room (before ++ (last ++ extra) ∷ more))
closed_in_closed room [] last extra more some = closed_last room last extra more some
closed_in_closed room (s ∷ before) last extra more some =
    rw (closed_cons room s before last [], closed_cons room s before (last ++ extra) more)
    (front_behind (chunks room s) (closed_payloads room (before ++ last ∷ [])) (closed_payloads room (before ++ (last ++ extra) ∷ more)) (closed_in_closed room before last extra more some))

-- and of all payloads at the end
closed_in_all : (room : ℕ) (before : List (List ℕ)) (last extra : List ℕ) (more : List (List ℕ)) → 1 ≤ room → IsFront (closed_payloads room (before ++ last ∷ [])) (flat_map (chunks room) (before ++ (last ++ extra) ∷ more))
closed_in_all room [] last extra more some = front_before (full_ones room (chunks room last)) (chunks room (last ++ extra)) (flat_map (chunks room) more) (full_in_chunks room last extra some)
closed_in_all room (s ∷ before) last extra more some =
    rw (closed_cons room s before last [])
    (front_behind (chunks room s) (closed_payloads room (before ++ last ∷ [])) (flat_map (chunks room) (before ++ (last ++ extra) ∷ more)) (closed_in_all room before last extra more some))

-- EOC only adds to the last
eoc_cons : (s : List ℕ) (b : List (List ℕ)) (last : List ℕ) (m : List (List ℕ)) → with_eoc (s ∷ (b ++ last ∷ m)) ≡ s ∷ with_eoc (b ++ last ∷ m)
eoc_cons s [] last m = refl
eoc_cons s (x ∷ b) last m = refl

eoc_last : (last extra : List ℕ) (more : List (List ℕ)) → Extends (last ∷ []) (with_eoc ((last ++ extra) ∷ more))
eoc_last last extra [] = record { before = []; last = last; extra = extra ++ 255 ∷ 217 ∷ []; more = []; old = refl; new = ap (λ b. b ∷ []) (append_assoc last extra (255 ∷ 217 ∷ [])) }
eoc_last last extra (t ∷ more) = record { before = []; last = last; extra = extra; more = with_eoc (t ∷ more); old = refl; new = refl }

extends_behind : (s : List ℕ) (was now : List (List ℕ)) → Extends was now → Extends (s ∷ was) (s ∷ now)
extends_behind s was now r = record { before = s ∷ r.before; last = r.last; extra = r.extra; more = r.more; old = ap (λ xs. s ∷ xs) r.old; new = ap (λ xs. s ∷ xs) r.new }

eoc_extends : (before : List (List ℕ)) (last extra : List ℕ) (more : List (List ℕ)) → Extends (before ++ last ∷ []) (with_eoc (before ++ (last ++ extra) ∷ more))
eoc_extends [] last extra more = eoc_last last extra more
eoc_extends (s ∷ before) last extra more = rw (eoc_cons s before (last ++ extra) more) (extends_behind s (before ++ last ∷ []) (with_eoc (before ++ (last ++ extra) ∷ more)) (eoc_extends before last extra more))

-- how the stretches grow with the packets
onto_by : (bytes : List ℕ) (before : List (List ℕ)) (last extra : List ℕ) (more : List (List ℕ)) → Extends (onto_first bytes (before ++ last ∷ [])) (onto_first bytes (before ++ (last ++ extra) ∷ more))
onto_by bytes [] last extra more = record { before = []; last = bytes ++ last; extra = extra; more = more; old = refl; new = ap (λ b. b ∷ more) (sym (append_assoc bytes last extra)) }
onto_by bytes (s ∷ before) last extra more = record { before = (bytes ++ s) ∷ before; last = last; extra = extra; more = more; old = refl; new = refl }

step : (b : Bool) (bytes : List ℕ) (was now : List (List ℕ)) → Extends was now → Extends (if b then bytes ∷ was else onto_first bytes was) (if b then bytes ∷ now else onto_first bytes now)
step true bytes was now r = extends_behind bytes was now r
step false bytes was now r = rw (r.old, r.new) (onto_by bytes r.before r.last r.extra r.more)

abbrev grown : Piece → List ℕ → Piece
grown x extra = record { place = x.place; bytes = x.bytes ++ extra }

first_by : (b : Bool) (bytes extra : List ℕ) (ss : List (List ℕ)) → Extends (bytes ∷ []) (if b then (bytes ++ extra) ∷ ss else onto_first (bytes ++ extra) ss)
first_by true bytes extra ss = record { before = []; last = bytes; extra = extra; more = ss; old = refl; new = refl }
first_by false bytes extra [] = record { before = []; last = bytes; extra = extra; more = []; old = refl; new = refl }
first_by false bytes extra (s ∷ ss) = record { before = []; last = bytes; extra = extra ++ s; more = ss; old = refl; new = ap (λ b. b ∷ ss) (append_assoc bytes extra s) }

stretches_grow : (split : Bool) (front : List Piece) (x : Piece) (extra : List ℕ) (more : List Piece) → Extends (stretches split (front ++ x ∷ [])) (stretches split (front ++ grown x extra ∷ more))
stretches_grow split [] x extra [] = record { before = []; last = x.bytes; extra = extra; more = []; old = refl; new = refl }
stretches_grow split [] x extra (y ∷ more) = first_by (split && not (x.place.r == y.place.r)) x.bytes extra (stretches split (y ∷ more))
stretches_grow split (z ∷ []) x extra more = step (split && not (z.place.r == x.place.r)) z.bytes (stretches split (x ∷ [])) (stretches split (grown x extra ∷ more)) (stretches_grow split [] x extra more)
stretches_grow split (z ∷ y ∷ front) x extra more =
    step (split && not (z.place.r == y.place.r)) z.bytes (stretches split ((y ∷ front) ++ x ∷ [])) (stretches split ((y ∷ front) ++ grown x extra ∷ more)) (stretches_grow split (y ∷ front) x extra more)

-- so a payload that is closed stays as it is
extended_closed : (room : ℕ) (was now : List (List ℕ)) → 1 ≤ room → Extends was now → IsFront (closed_payloads room was) (closed_payloads room now)
extended_closed room was now some r = rw (r.old, r.new) (closed_in_closed room r.before r.last r.extra r.more some)

extended_all : (room : ℕ) (was now : List (List ℕ)) → 1 ≤ room → Extends was now → IsFront (closed_payloads room was) (flat_map (chunks room) now)
extended_all room was now some r = rw (r.old, r.new) (closed_in_all room r.before r.last r.extra r.more some)

extended_eoc : (room : ℕ) (was now : List (List ℕ)) → 1 ≤ room → Extends was now → IsFront (closed_payloads room was) (flat_map (chunks room) (with_eoc now))
extended_eoc room was now some r =
    let P : List (List ℕ) → Type 0 = λ xs. IsFront (closed_payloads room was) (flat_map (chunks room) (with_eoc xs)) in
    let Q : List (List ℕ) → Type 0 = λ xs. IsFront (closed_payloads room xs) (flat_map (chunks room) (with_eoc (r.before ++ (r.last ++ r.extra) ∷ r.more))) in
    subst P (sym r.new) (subst Q (sym r.old) (extended_all room (r.before ++ r.last ∷ []) (with_eoc (r.before ++ (r.last ++ r.extra) ∷ r.more)) some (eoc_extends r.before r.last r.extra r.more)))

by_end : (b : Bool) (room : ℕ) (was now : List (List ℕ)) → 1 ≤ room → Extends was now → IsFront (closed_payloads room was) (if b then flat_map (chunks room) (with_eoc now) else closed_payloads room now)
by_end true room was now some r = extended_eoc room was now some r
by_end false room was now some r = extended_closed room was now some r

pub closed_stays : ClosedStays
closed_stays p was now some unended (inl none) = (payloads p now, rw (unended, none) refl)
closed_stays p was now some unended (inr g) =
    let is : Extends (stretches p.split was.pieces) (stretches p.split now.pieces) = rw (g.4, g.5) (stretches_grow p.split g.0 g.1 g.2 g.3) in
    rw unended (by_end now.ended (room p) (stretches p.split was.pieces) (stretches p.split now.pieces) some is)
