-- Bytes in payloads that are as long as they can be, one payload after another; and what is open of a stretch.
use Rattle.std.proofs.Common.{◌≡◌, ◌<◌, ◌≤◌, ◌+◌, ◌-◌, ◌*◌, ◌/◌, ℕ, zero, suc, Bool, true, false, not, List, [], ◌∷◌, ◌++◌, map, length, take, drop, refl, sym, ap, ◌∙◌, arith, append_assoc}
use Rattle.std.specs.Prelude.{◌==◌, ◌&&◌, if◌then◌else◌}
use Rattle.std.specs.List.{filter, flat_map, range_with_len}
use Rattle.std.proofs.Math.Nat.{div-mul-le_self, lt-div-mul-add, div-eq_of_lt-le}
use Rattle.std.proofs.Math.Seq.{drop-append-add, take-append_seam}
use Rattle.std.proofs.lemmas.Bool.{eqb-true, eq-eqb}
use Rattle.std.proofs.lemmas.List.{append-nil, length-append, take_all}
use Rattle.codestream_model.specs.Codestream.{joined}
use Rattle.stream_model.specs.Cut.{Piece, onto_first, stretches, with_eoc, chunks, closed_payloads}
use Rattle.packetiser.specs.Filled.{AreFull, IsOpen}
use Rattle.stream_model.proofs.Bases.{not_true}
use Rattle.stream_model.proofs.CutPayloads.{chunk, joined-append}

-- one payload more in front
next_quotient : (room m : ℕ) → 1 ≤ room → (room + m) / room ≡ suc (m / room)
next_quotient room m some =
    let q : ℕ = m / room in
    let l : q * room ≤ m = div-mul-le_self m room in
    let k : m < q * room + room = lt-div-mul-add some in
    let a : suc q * room ≡ q * room + room = omega arith in
    let b : (suc q + 1) * room ≡ q * room + room + room = omega arith in
    div-eq_of_lt-le room (let t : suc q * room ≤ room + m = omega arith in t) (let t : room + m < (suc q + 1) * room = omega arith in t)

shifted : (room : ℕ) (x rest : List ℕ) (a m : ℕ) → length x ≡ room → map (chunk room (x ++ rest)) (range_with_len (a + 1) m) ≡ map (chunk room rest) (range_with_len a m)
shifted room x rest a zero e = refl
shifted room x rest a (suc m) e =
    let at : (a + 1) * room ≡ length x + a * room = omega (arith, e) in
    let d : drop ((a + 1) * room) (x ++ rest) ≡ drop (a * room) rest = ap (λ n. drop n (x ++ rest)) at ∙ drop-append-add x rest (a * room) in
    let n : (a + 1) * room + room - (a + 1) * room ≡ a * room + room - a * room = omega arith in
    let here : chunk room (x ++ rest) (a + 1) ≡ chunk room rest a = ap (λ k. take k (drop ((a + 1) * room) (x ++ rest))) n ∙ ap (take (a * room + room - a * room)) d in
    ap (λ c. c ∷ map (chunk room (x ++ rest)) (range_with_len (a + 1 + 1) m)) here ∙ ap (λ cs. chunk room rest a ∷ cs) (shifted room x rest (a + 1) m e)

first_chunk : (room : ℕ) (x rest : List ℕ) → length x ≡ room → chunk room (x ++ rest) 0 ≡ x
first_chunk room x rest e =
    let z : 0 * room ≡ 0 = omega arith in
    let n : 0 * room + room - 0 * room ≡ length x = omega (arith, e) in
    ap (λ k. take k (drop (0 * room) (x ++ rest))) n ∙ (ap (λ k. take (length x) (drop k (x ++ rest))) z ∙ take-append_seam x rest)

pub chunks_next : (room : ℕ) (x rest : List ℕ) → 1 ≤ room → length x ≡ room → chunks room (x ++ rest) ≡ x ∷ chunks room rest
chunks_next room x rest some e =
    let n : length (x ++ rest) + room - 1 ≡ room + (length rest + room - 1) = omega (arith, e, some, length-append x rest) in
    let q : (length (x ++ rest) + room - 1) / room ≡ suc ((length rest + room - 1) / room) = ap (λ k. k / room) n ∙ next_quotient room (length rest + room - 1) some in
    ap (λ k. map (chunk room (x ++ rest)) (range_with_len 0 k)) q
    ∙ (ap (λ c. c ∷ map (chunk room (x ++ rest)) (range_with_len (0 + 1) ((length rest + room - 1) / room))) (first_chunk room x rest e)
    ∙ ap (λ cs. x ∷ cs) (shifted room x rest 0 ((length rest + room - 1) / room) e))

pub chunks_none : (room : ℕ) → 1 ≤ room → chunks room [] ≡ []
chunks_none room some = ap (λ k. map (chunk room []) (range_with_len 0 k)) (div-eq_of_lt-le room (let t : 0 * room ≤ 0 + room - 1 = omega arith in t) (let t : 0 + room - 1 < (0 + 1) * room = omega (arith, some) in t))

pub chunks_one : (room : ℕ) (s : List ℕ) → 1 ≤ length s → length s ≤ room → chunks room s ≡ s ∷ []
chunks_one room s some few =
    let q : (length s + room - 1) / room ≡ 1 = div-eq_of_lt-le room (let t : 1 * room ≤ length s + room - 1 = omega (arith, some) in t) (let t : length s + room - 1 < (1 + 1) * room = omega (arith, some, few) in t) in
    let z : 0 * room ≡ 0 = omega arith in
    let n : length s ≤ 0 * room + room - 0 * room = omega (arith, few) in
    let here : chunk room s 0 ≡ s = ap (λ k. take (0 * room + room - 0 * room) (drop k s)) z ∙ take_all (0 * room + room - 0 * room) s n in
    ap (λ k. map (chunk room s) (range_with_len 0 k)) q ∙ ap (λ c. c ∷ []) here

pub chunks_full : (room : ℕ) (full : List (List ℕ)) (rest : List ℕ) → 1 ≤ room → AreFull room full → chunks room (joined full ++ rest) ≡ full ++ chunks room rest
chunks_full room [] rest some a = refl
chunks_full room (x ∷ full) rest some a =
    ap (chunks room) (append_assoc x (joined full) rest) ∙ (chunks_next room x (joined full ++ rest) some a.0 ∙ ap (λ l. x ∷ l) (chunks_full room full rest some a.1))

-- what is open as a payload, where it is some bytes
abbrev pub as_payload : List ℕ → List (List ℕ)
as_payload [] = []
as_payload (b ∷ bytes) = (b ∷ bytes) ∷ []

pub chunks_open : (room : ℕ) (open_ : List ℕ) → 1 ≤ room → length open_ ≤ room → chunks room open_ ≡ as_payload open_
chunks_open room [] some few = chunks_none room some
chunks_open room (b ∷ bytes) some few = chunks_one room (b ∷ bytes) (omega arith) few

full_pass : (room : ℕ) (full more : List (List ℕ)) → AreFull room full → filter (λ payload. length payload == room) (full ++ more) ≡ full ++ filter (λ payload. length payload == room) more
full_pass room [] more a = refl
full_pass room (x ∷ full) more a =
    let t : (length x == room) ≡ true = eq-eqb (length x) room a.0 in
    rw t (ap (λ l. x ∷ l) (full_pass room full more a.1))

open_fails : (room : ℕ) (open_ : List ℕ) → length open_ < room → filter (λ payload. length payload == room) (as_payload open_) ≡ []
open_fails room [] few = refl
open_fails room (b ∷ bytes) few =
    let t : (length (b ∷ bytes) == room) ≡ false = not_true (length (b ∷ bytes) == room) (λ k. let l : length (b ∷ bytes) ≡ room = eqb-true (length (b ∷ bytes)) room k in omega arith) in
    rw t refl

closed_cons : (room : ℕ) (s : List ℕ) (before : List (List ℕ)) (last : List ℕ) → closed_payloads room (s ∷ (before ++ last ∷ [])) ≡ chunks room s ++ closed_payloads room (before ++ last ∷ [])
closed_cons room s [] last = refl
closed_cons room s (x ∷ before) last = refl

closed_before : (room : ℕ) (before : List (List ℕ)) (last : List ℕ) → closed_payloads room (before ++ last ∷ []) ≡ flat_map (chunks room) before ++ closed_payloads room (last ∷ [])
closed_before room [] last = refl
closed_before room (s ∷ before) last = closed_cons room s before last ∙ (ap (λ l. chunks room s ++ l) (closed_before room before last) ∙ sym (append_assoc (chunks room s) (flat_map (chunks room) before) (closed_payloads room (last ∷ []))))

-- these are closed
pub open_closes : (room : ℕ) (ss done : List (List ℕ)) (open_ : List ℕ) → 1 ≤ room → IsOpen room ss done open_ → closed_payloads room ss ≡ done
open_closes room ss done open_ some o =
    let few : length open_ ≤ room = omega (arith, o.short) in
    ap (closed_payloads room) o.are
    ∙ (closed_before room o.before (joined o.full ++ open_)
    ∙ (ap (λ l. flat_map (chunks room) o.before ++ filter (λ payload. length payload == room) l) (chunks_full room o.full open_ some o.are_full ∙ ap (λ l. o.full ++ l) (chunks_open room open_ some few))
    ∙ (ap (λ l. flat_map (chunks room) o.before ++ l) (full_pass room o.full (as_payload open_) o.are_full ∙ (ap (λ l. o.full ++ l) (open_fails room open_ o.short) ∙ append-nil o.full))
    ∙ sym o.is_done)))

eoc_before : (before : List (List ℕ)) (last : List ℕ) → with_eoc (before ++ last ∷ []) ≡ before ++ (last ++ 255 ∷ 217 ∷ []) ∷ []
eoc_before [] last = refl
eoc_before (s ∷ []) last = refl
eoc_before (s ∷ t ∷ before) last = ap (λ l. s ∷ l) (eoc_before (t ∷ before) last)

map_before : (room : ℕ) (before : List (List ℕ)) (last : List ℕ) → flat_map (chunks room) (before ++ last ∷ []) ≡ flat_map (chunks room) before ++ chunks room last
map_before room [] last = append-nil (chunks room last)
map_before room (s ∷ before) last = ap (λ l. chunks room s ++ l) (map_before room before last) ∙ sym (append_assoc (chunks room s) (flat_map (chunks room) before) (chunks room last))

-- and with EOC these follow
pub open_ends : (room : ℕ) (ss done : List (List ℕ)) (open_ : List ℕ) → 1 ≤ room → IsOpen room ss done open_ → flat_map (chunks room) (with_eoc ss) ≡ done ++ chunks room (open_ ++ 255 ∷ 217 ∷ [])
open_ends room ss done open_ some o =
    ap (λ l. flat_map (chunks room) (with_eoc l)) o.are
    ∙ (ap (flat_map (chunks room)) (eoc_before o.before (joined o.full ++ open_))
    ∙ (map_before room o.before ((joined o.full ++ open_) ++ 255 ∷ 217 ∷ [])
    ∙ (ap (λ l. flat_map (chunks room) o.before ++ chunks room l) (append_assoc (joined o.full) open_ (255 ∷ 217 ∷ []))
    ∙ (ap (λ l. flat_map (chunks room) o.before ++ l) (chunks_full room o.full (open_ ++ 255 ∷ 217 ∷ []) some o.are_full)
    ∙ (sym (append_assoc (flat_map (chunks room) o.before) o.full (chunks room (open_ ++ 255 ∷ 217 ∷ []))) ∙ ap (λ l. l ++ chunks room (open_ ++ 255 ∷ 217 ∷ [])) (sym o.is_done))))))

-- the last stretch with more bytes
pub record LastGrows (was now : List (List ℕ)) (bytes : List ℕ) : Type 0 where
  pub before : List (List ℕ)
  pub last : List ℕ
  pub was_is : was ≡ before ++ last ∷ []
  pub now_is : now ≡ before ++ (last ++ bytes) ∷ []

-- a last item is one
last_is_one : (xs ys : List (List ℕ)) (x y : List ℕ) → xs ++ x ∷ [] ≡ ys ++ y ∷ [] → (xs ≡ ys) × (x ≡ y)
last_is_one [] [] x y e = (refl, cc)
last_is_one [] (b ∷ []) x y e = absurd (omega (arith, ap length e))
last_is_one [] (b ∷ c ∷ ys) x y e = absurd (omega (arith, ap length e, length-append ys (y ∷ [])))
last_is_one (a ∷ []) [] x y e = absurd (omega (arith, ap length e))
last_is_one (a ∷ c ∷ xs) [] x y e = absurd (omega (arith, ap length e, length-append xs (x ∷ [])))
last_is_one (a ∷ xs) (b ∷ ys) x y e =
    let first : a ≡ b = cc in
    let more : xs ++ x ∷ [] ≡ ys ++ y ∷ [] = cc in
    let r = last_is_one xs ys x y more in
    (rw (first, r.0) refl, r.1)

-- bytes that leave the payload open
pub open_grows : (room : ℕ) (was now done : List (List ℕ)) (open_ bytes : List ℕ) → IsOpen room was done open_ → LastGrows was now bytes → length (open_ ++ bytes) < room → IsOpen room now done (open_ ++ bytes)
open_grows room was now done open_ bytes o g few =
    let s = last_is_one g.before o.before g.last (joined o.full ++ open_) (sym g.was_is ∙ o.are) in
    record {
      before = o.before;
      full = o.full;
      are = g.now_is ∙ (ap (λ l. l ++ (g.last ++ bytes) ∷ []) s.0 ∙ ap (λ l. o.before ++ l ∷ []) (ap (λ l. l ++ bytes) s.1 ∙ append_assoc (joined o.full) open_ bytes));
      are_full = o.are_full;
      short = few;
      is_done = o.is_done;
    }

full_push : (room : ℕ) (full : List (List ℕ)) (x : List ℕ) → AreFull room full → length x ≡ room → AreFull room (full ++ x ∷ [])
full_push room [] x a e = (e, tt)
full_push room (y ∷ full) x a e = (a.0, full_push room full x a.1 e)

-- and bytes that fill it
pub open_fills : (room : ℕ) (was now done : List (List ℕ)) (open_ bytes : List ℕ) → 1 ≤ room → IsOpen room was done open_ → LastGrows was now bytes → length (open_ ++ bytes) ≡ room → IsOpen room now (done ++ (open_ ++ bytes) ∷ []) []
open_fills room was now done open_ bytes some o g all =
    let s = last_is_one g.before o.before g.last (joined o.full ++ open_) (sym g.was_is ∙ o.are) in
    let x : List ℕ = open_ ++ bytes in
    let j : (joined o.full ++ open_) ++ bytes ≡ joined (o.full ++ x ∷ []) ++ [] =
    append_assoc (joined o.full) open_ bytes ∙ (ap (λ l. joined o.full ++ l) (sym (append-nil x)) ∙ (sym (joined-append o.full (x ∷ [])) ∙ sym (append-nil (joined (o.full ++ x ∷ []))))) in
    record {
      before = o.before;
      full = o.full ++ x ∷ [];
      are = g.now_is ∙ (ap (λ l. l ++ (g.last ++ bytes) ∷ []) s.0 ∙ ap (λ l. o.before ++ l ∷ []) (ap (λ l. l ++ bytes) s.1 ∙ j));
      are_full = full_push room o.full x o.are_full all;
      short = omega (arith, some);
      is_done = ap (λ l. l ++ x ∷ []) o.is_done ∙ append_assoc (flat_map (chunks room) o.before) o.full (x ∷ []);
    }

-- a stretch that another one follows, of which nothing is there yet
pub open_parts : (room : ℕ) (was done : List (List ℕ)) (open_ : List ℕ) → 1 ≤ room → IsOpen room was done open_ → IsOpen room (was ++ [] ∷ []) (done ++ as_payload open_) []
open_parts room was done open_ some o = record {
  before = was;
  full = [];
  are = refl;
  are_full = tt;
  short = omega (arith, some);
  is_done =
      (let few : length open_ ≤ room = omega (arith, o.short) in
      sym (append-nil (flat_map (chunks room) was)
      ∙ (ap (flat_map (chunks room)) o.are
      ∙ (map_before room o.before (joined o.full ++ open_)
      ∙ (ap (λ l. flat_map (chunks room) o.before ++ l) (chunks_full room o.full open_ some o.are_full ∙ ap (λ l. o.full ++ l) (chunks_open room open_ some few))
      ∙ (sym (append_assoc (flat_map (chunks room) o.before) o.full (as_payload open_)) ∙ ap (λ l. l ++ as_payload open_) (sym o.is_done)))))));
}

-- the first stretch, of which nothing is there yet
pub open_begins : (room : ℕ) → 1 ≤ room → IsOpen room ([] ∷ []) [] []
open_begins room some = record { before = []; full = []; are = refl; are_full = tt; short = omega (arith, some); is_done = refl }

-- how the stretches change: more of the last packet
step_grows : (b : Bool) (bytes : List ℕ) (was now : List (List ℕ)) (more : List ℕ) → LastGrows was now more → LastGrows (if b then bytes ∷ was else onto_first bytes was) (if b then bytes ∷ now else onto_first bytes now) more
step_grows true bytes was now more g = record { before = bytes ∷ g.before; last = g.last; was_is = ap (λ l. bytes ∷ l) g.was_is; now_is = ap (λ l. bytes ∷ l) g.now_is }
step_grows false bytes was now more g = rw (g.was_is, g.now_is) (onto g.before)
  where
    onto : (before : List (List ℕ)) → LastGrows (onto_first bytes (before ++ g.last ∷ [])) (onto_first bytes (before ++ (g.last ++ more) ∷ [])) more
    onto [] = record { before = []; last = bytes ++ g.last; was_is = refl; now_is = ap (λ l. l ∷ []) (sym (append_assoc bytes g.last more)) }
    onto (s ∷ before) = record { before = (bytes ++ s) ∷ before; last = g.last; was_is = refl; now_is = refl }

pub stretches_grow : (split : Bool) (front : List Piece) (x : Piece) (bytes : List ℕ) → LastGrows (stretches split (front ++ x ∷ [])) (stretches split (front ++ record { place = x.place; bytes = x.bytes ++ bytes } ∷ [])) bytes
stretches_grow split [] x bytes = record { before = []; last = x.bytes; was_is = refl; now_is = refl }
stretches_grow split (z ∷ []) x bytes =
    step_grows (split && not (z.place.r == x.place.r)) z.bytes (x.bytes ∷ []) ((x.bytes ++ bytes) ∷ []) bytes (record { before = []; last = x.bytes; was_is = refl; now_is = refl })
stretches_grow split (z ∷ y ∷ front) x bytes =
    step_grows (split && not (z.place.r == y.place.r)) z.bytes (stretches split ((y ∷ front) ++ x ∷ [])) (stretches split ((y ∷ front) ++ record { place = x.place; bytes = x.bytes ++ bytes } ∷ [])) bytes
    (stretches_grow split (y ∷ front) x bytes)

-- and a packet of which nothing is there yet
abbrev pub parts : Bool → Piece → Piece → Bool
parts split x y = split && not (x.place.r == y.place.r)

onto_append : (bytes : List ℕ) (ss : List (List ℕ)) (s : List ℕ) (more : List (List ℕ)) → onto_first bytes ((s ∷ ss) ++ more) ≡ onto_first bytes (s ∷ ss) ++ more
onto_append bytes ss s more = refl

some_stretch : (split : Bool) (x : Piece) (xs : List Piece) → (s : List ℕ) × (ss : List (List ℕ)) × (stretches split (x ∷ xs) ≡ s ∷ ss)
some_stretch split x [] = (x.bytes, [], refl)
some_stretch split x (y ∷ xs) = by_choice (split && not (x.place.r == y.place.r)) (stretches split (y ∷ xs))
  where
    by_choice : (b : Bool) (ss : List (List ℕ)) → (s : List ℕ) × (rest : List (List ℕ)) × ((if b then x.bytes ∷ ss else onto_first x.bytes ss) ≡ s ∷ rest)
    by_choice true ss = (x.bytes, ss, refl)
    by_choice false [] = (x.bytes, [], refl)
    by_choice false (s ∷ ss) = (x.bytes ++ s, ss, refl)

choice_append : (b : Bool) (bytes s : List ℕ) (ss more was now : List (List ℕ)) → was ≡ s ∷ ss → now ≡ was ++ more → (if b then bytes ∷ now else onto_first bytes now) ≡ (if b then bytes ∷ was else onto_first bytes was) ++ more
choice_append true bytes s ss more was now e f = ap (λ l. bytes ∷ l) f
choice_append false bytes s ss more was now e f = rw (f, e) refl

opened_one : (b : Bool) (bytes : List ℕ) → (if b then bytes ∷ [] ∷ [] else onto_first bytes ([] ∷ [])) ≡ bytes ∷ (if b then [] ∷ [] else [])
opened_one true bytes = refl
opened_one false bytes = ap (λ l. l ∷ []) (append-nil bytes)

pub stretches_open : (split : Bool) (front : List Piece) (x y : Piece) → y.bytes ≡ [] → stretches split ((front ++ x ∷ []) ++ y ∷ []) ≡ stretches split (front ++ x ∷ []) ++ (if parts split x y then [] ∷ [] else [])
stretches_open split [] x y none = ap (λ l. if parts split x y then x.bytes ∷ l ∷ [] else onto_first x.bytes (l ∷ [])) none ∙ opened_one (parts split x y) x.bytes
stretches_open split (z ∷ []) x y none =
    choice_append (split && not (z.place.r == x.place.r)) z.bytes x.bytes [] (if parts split x y then [] ∷ [] else []) (stretches split (x ∷ [])) (stretches split ((x ∷ []) ++ y ∷ [])) refl (stretches_open split [] x y none)
stretches_open split (z ∷ w ∷ front) x y none =
    let s = some_stretch split w (front ++ x ∷ []) in
    choice_append (split && not (z.place.r == w.place.r)) z.bytes s.0 s.1 (if parts split x y then [] ∷ [] else []) (stretches split ((w ∷ front) ++ x ∷ [])) (stretches split (((w ∷ front) ++ x ∷ []) ++ y ∷ [])) s.2 (stretches_open split (w ∷ front) x y none)
