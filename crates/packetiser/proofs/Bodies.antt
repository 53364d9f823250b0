-- The Bodies of a codestream, as its bytes are put in: which one is made when a payload is closed.
use Rattle.std.proofs.Common.{◌≡◌, ◌⊎◌, ◌<◌, ◌≤◌, ◌+◌, ◌-◌, ◌/◌, ◌^◌, ℕ, min, Bool, true, false, List, [], ◌∷◌, ◌++◌, map, length, refl, sym, subst, ap, ◌∙◌, inl, inr, arith, append_assoc, Option, Some, None}
use Rattle.std.specs.Prelude.{◌==◌, ◌&&◌, if◌then◌else◌}
use Rattle.std.specs.List.{AllByRecursion, fold}
use Rattle.std.proofs.lemmas.Bool.{eqb-true, eq-eqb}
use Rattle.std.proofs.lemmas.List.{append-nil, length-append}
use Rattle.stream_model.proofs.Bases.{not_true}
use Rattle.std.proofs.lemmas.List.Sums.{sum_by-cons, sum_by_push}
use Rattle.codestream_model.specs.Values.{Head, Place}
use Rattle.codestream_model.specs.PacketOrder.{pid}
use Rattle.stream_model.specs.Cut.{Plan, Piece, Known, room, stretches, chunks, payloads, touched, started, res_of, resolution_code, body_header, number_at, body_at, bodies_at}
use Rattle.stream_model.specs.Laws.{HasGrown}
use Rattle.stream_model.proofs.Positions.{placed}
use Rattle.stream_model.proofs.CutBodies.{the_body, bodies_placed}
use Rattle.stream_model.proofs.GrownBodies.{total, seen}
use Rattle.stream_model.proofs.GrownDatagrams.{body_stays, marker_stays, placed_alike, placed-append, unended_bytes, unended_some}
use Rattle.packetiser.specs.Filling.{Filling, empty, put, put_eoc, marked, lowered, filled_res, filled_header, body_of}
use Rattle.packetiser.specs.Filled.{marks, reaching, first_mark, lowest_of, IsOpen, part, whole, bytes_in, longer, unbegun, Fills, IsFresh}
use Rattle.packetiser.proofs.Marks.{Covers, started_are, touched_are, no_marks, no_touch, lowest_grown, mark_begun, mark_grown, marks_opened, reaching_opened}
use Rattle.packetiser.proofs.Chunks.{as_payload, open_closes, open_ends, open_grows, open_fills, open_parts, open_begins, chunks_one, chunks_next, stretches_grow, stretches_open, parts}

-- a Body by its mark and its resolution
map_both : (xs : List (ℕ × Piece)) → map (λ (q : Place). q.r) (map (λ (y : ℕ × Piece). y.1.place) xs) ≡ map (λ (y : ℕ × Piece). y.1.place.r) xs
map_both [] = refl
map_both (x ∷ xs) = ap (λ l. x.1.place.r ∷ l) (map_both xs)

res_is : (levels : ℕ) (xs : List (ℕ × Piece)) → res_of levels xs ≡ filled_res levels (lowest_of (map (λ (y : ℕ × Piece). y.1.place) xs))
res_is levels [] = refl
res_is levels (x ∷ xs) = ap (λ l. resolution_code (fold min x.1.place.r l) levels) (sym (map_both xs))

header_is : (c : Known) (eseq res from : ℕ) (xs : List (ℕ × Piece)) → body_header c eseq res from xs ≡ filled_header eseq res (first_mark c.head from (map (seen c.pieces) xs))
header_is c eseq res from [] = refl
header_is c eseq res from (x ∷ xs) = refl

pub body_is : (p : Plan) (stamp position : ℕ) (c : Known) (marker : Bool) (from : ℕ) (f : Filling) → Covers 0 (from + length f.payload) c.pieces → f.mark ≡ first_mark c.head from (marks 0 from c.pieces) → f.lowest ≡ lowest_of (reaching 0 from c.pieces)
    → body_at p stamp position c marker from f.payload ≡ body_of p c.head.levels stamp position marker f
body_is p stamp position c marker from f covers m l =
    let to = from + length f.payload in
    let eseq = number_at p position / 2 ^ 16 in
    let r : res_of c.head.levels (touched c.pieces from to) ≡ filled_res c.head.levels f.lowest =
    res_is c.head.levels (touched c.pieces from to) ∙ (ap (λ x. filled_res c.head.levels (lowest_of x)) (touched_are c.pieces from to covers) ∙ ap (filled_res c.head.levels) (sym l)) in
    let h : body_header c eseq (res_of c.head.levels (touched c.pieces from to)) from (started c.pieces from to) ≡ filled_header eseq (filled_res c.head.levels f.lowest) f.mark =
    header_is c eseq (res_of c.head.levels (touched c.pieces from to)) from (started c.pieces from to)
    ∙ (ap (λ x. filled_header eseq (res_of c.head.levels (touched c.pieces from to)) (first_mark c.head from x)) (started_are c.pieces from to covers)
    ∙ (ap (λ x. filled_header eseq x (first_mark c.head from (marks 0 from c.pieces))) r ∙ ap (filled_header eseq (filled_res c.head.levels f.lowest)) (sym m))) in
    rw h refl

-- the Bodies that follow where more is there
pub bodies_follow : (p : Plan) (stamp at : ℕ) (c d : Known) (q : List (List ℕ)) → 1 ≤ room p → c.ended ≡ false → c.head ≡ d.head → HasGrown c.pieces d.pieces → payloads p d ≡ payloads p c ++ q
    → bodies_at p stamp at d ≡ bodies_at p stamp at c ++ placed (λ b. length b) (the_body p stamp at d) (length (payloads p c)) (bytes_in (payloads p c)) q
bodies_follow p stamp at c d q some e h grown is =
    let was = the_body p stamp at c in
    let now = the_body p stamp at d in
    let same : placed (λ b. length b) was 0 0 (payloads p c) ≡ placed (λ b. length b) now 0 0 (payloads p c) =
    placed_alike was now (length (payloads p c)) (total c.pieces) 0 0 (payloads p c)
    (λ j from x low full within. body_stays p stamp (at + 1 + j) c d (c.ended && (j + 1 == length (payloads p c))) (d.ended && (j + 1 == length (payloads p d))) from x h grown (marker_stays p c d q j some e grown is low) full within)
    (omega arith) (omega (arith, unended_bytes p c some e)) (unended_some p c some e) in
    let zero_k : 0 + length (payloads p c) ≡ length (payloads p c) = omega arith in
    let zero_n : 0 + bytes_in (payloads p c) ≡ bytes_in (payloads p c) = omega arith in
    bodies_placed p stamp at d
    ∙ (ap (placed (λ b. length b) now 0 0) is
    ∙ (placed-append (λ (b : List ℕ). length b) now 0 0 (payloads p c) q
    ∙ (ap (λ k. placed (λ b. length b) now 0 0 (payloads p c) ++ placed (λ b. length b) now k (0 + bytes_in (payloads p c)) q) zero_k
    ∙ (ap (λ k. placed (λ b. length b) now 0 0 (payloads p c) ++ placed (λ b. length b) now (length (payloads p c)) k q) zero_n
    ∙ (ap (λ l. l ++ placed (λ b. length b) now (length (payloads p c)) (bytes_in (payloads p c)) q) (sym same)
    ∙ ap (λ l. l ++ placed (λ b. length b) now (length (payloads p c)) (bytes_in (payloads p c)) q) (sym (bodies_placed p stamp at c)))))))

-- the number of Bodies so far
abbrev pub bodies_so_far : Plan → Head → List ℕ → List Piece → ℕ
bodies_so_far p h header pieces = length (payloads p (part h header pieces))

total_push : (front : List Piece) (x : Piece) → total (front ++ x ∷ []) ≡ total front + length x.bytes
total_push front x = sum_by_push (λ (y : Piece). length y.bytes) front x

-- pieces with a byte each cover
covers_some : (at to : ℕ) (xs : List Piece) → AllByRecursion (λ y. 1 ≤ length y.bytes) xs → at + total xs ≤ to → Covers at to xs
covers_some at to [] a h = omega (arith, h)
covers_some at to (x ∷ xs) a h = (inl a.0, covers_some (at + length x.bytes) to xs a.1 (omega (arith, h, sum_by-cons (λ (y : Piece). length y.bytes) x xs)))

all_push : (xs : List Piece) (x : Piece) → AllByRecursion (λ y. 1 ≤ length y.bytes) xs → 1 ≤ length x.bytes → AllByRecursion (λ y. 1 ≤ length y.bytes) (xs ++ x ∷ [])
all_push [] x a s = (s, tt)
all_push (y ∷ xs) x a s = (a.0, all_push xs x a.1 s)

-- the first packet
pub first_opens : (p : Plan) (h : Head) (header : List ℕ) (q : Place) → 1 ≤ room p → Fills p h header [] (unbegun q) empty
first_opens p h header q some =
    let none : payloads p (part h header (unbegun q ∷ [])) ≡ [] = open_closes (room p) ([] ∷ []) [] [] some (open_begins (room p) some) in
    let O : List (List ℕ) → Type 0 = λ l. IsOpen (room p) ([] ∷ []) l [] in
    record {
      each = tt;
      is_open = subst O (sym none) (open_begins (room p) some);
      size = (let e : bytes_in (payloads p (part h header (unbegun q ∷ []))) ≡ 0 = ap bytes_in none in omega (arith, e));
      mark = sym (ap (first_mark h (bytes_in (payloads p (part h header (unbegun q ∷ []))))) (marks_opened (bytes_in (payloads p (part h header (unbegun q ∷ [])))) [] (unbegun q) refl));
      lowest = sym (ap lowest_of (reaching_opened (bytes_in (payloads p (part h header (unbegun q ∷ [])))) [] (unbegun q) refl));
    }

pub first_bodies : (p : Plan) (stamp at : ℕ) (h : Head) (header : List ℕ) (q : Place) → 1 ≤ room p → bodies_at p stamp at (part h header (unbegun q ∷ [])) ≡ []
first_bodies p stamp at h header q some =
    let none : payloads p (part h header (unbegun q ∷ [])) ≡ [] = open_closes (room p) ([] ∷ []) [] [] some (open_begins (room p) some) in
    bodies_placed p stamp at (part h header (unbegun q ∷ [])) ∙ ap (placed (λ b. length b) (the_body p stamp at (part h header (unbegun q ∷ []))) 0 0) none

-- what is put in of a packet
abbrev pub put_piece : Piece → Option ℕ → List ℕ → Filling → Filling
put_piece x begins bytes f = put x.place.r begins bytes f

-- the mark and the resolution with bytes put in
mark_put : (begins : Option ℕ) (h : Head) (from n : ℕ) (front : List Piece) (x : Piece) (bytes : List ℕ) (m : Option (ℕ × ℕ)) → IsFresh begins h x → 1 ≤ length bytes → from + n ≡ total (front ++ x ∷ []) → m ≡ first_mark h from (marks 0 from (front ++ x ∷ []))
    → marked m begins n ≡ first_mark h from (marks 0 from (front ++ longer x bytes ∷ []))
mark_put (Some id) h from n front x bytes m fresh some size is =
    let e : total front - from ≡ n = omega (arith, size, total_push front x, ap length fresh.0) in
    ap (λ o. marked o (Some id) n) is ∙ (ap (λ i. marked (first_mark h from (marks 0 from (front ++ x ∷ []))) (Some i) n) fresh.1 ∙ (ap (λ k. marked (first_mark h from (marks 0 from (front ++ x ∷ []))) (Some (pid h x.place)) k) (sym e) ∙ sym (mark_begun h from front x bytes some fresh.0 (omega (arith, size, total_push front x, ap length fresh.0)))))
mark_put None h from n front x bytes m fresh some size is =
    ap (λ o. marked o None n) is ∙ sym (mark_grown h from front x bytes n fresh)

lowest_put : (h : Head) (from n : ℕ) (front : List Piece) (x : Piece) (bytes : List ℕ) (l : Option ℕ) → 1 ≤ length bytes → from + n ≡ total (front ++ x ∷ []) → l ≡ lowest_of (reaching 0 from (front ++ x ∷ []))
    → lowered l x.place.r ≡ lowest_of (reaching 0 from (front ++ longer x bytes ∷ []))
lowest_put h from n front x bytes l some size is = ap (λ o. lowered o x.place.r) is ∙ sym (lowest_grown from front x bytes some (omega (arith, size, total_push front x)))

grown_last : (front : List Piece) (x : Piece) (bytes : List ℕ) → HasGrown (front ++ x ∷ []) (front ++ longer x bytes ∷ [])
grown_last front x bytes = inr (front, x, bytes, [], refl, refl)

-- the size of pieces with more bytes
size_put : (front : List Piece) (x : Piece) (bytes : List ℕ) → total (front ++ longer x bytes ∷ []) ≡ total (front ++ x ∷ []) + length bytes
size_put front x bytes = omega (arith, total_push front x, total_push front (longer x bytes), length-append x.bytes bytes)

-- bytes of the last packet that leave the payload open
pub put_stays : (p : Plan) (stamp at : ℕ) (h : Head) (header : List ℕ) (front : List Piece) (x : Piece) (f : Filling) (begins : Option ℕ) (bytes : List ℕ) → 1 ≤ room p → Fills p h header front x f → IsFresh begins h x → 1 ≤ length bytes → length f.payload + length bytes < room p
    → Fills p h header front (longer x bytes) (put_piece x begins bytes f)
    × (bodies_at p stamp at (part h header (front ++ longer x bytes ∷ [])) ≡ bodies_at p stamp at (part h header (front ++ x ∷ [])))
    × (bodies_so_far p h header (front ++ longer x bytes ∷ []) ≡ bodies_so_far p h header (front ++ x ∷ []))
put_stays p stamp at h header front x f begins bytes some w is_fresh more few =
    let c = part h header (front ++ x ∷ []) in
    let d = part h header (front ++ longer x bytes ∷ []) in
    let o = open_grows (room p) (stretches p.split c.pieces) (stretches p.split d.pieces) (payloads p c) f.payload bytes w.is_open (stretches_grow p.split front x bytes) (omega (arith, few, length-append f.payload bytes)) in
    let same : payloads p d ≡ payloads p c = open_closes (room p) (stretches p.split d.pieces) (payloads p c) (f.payload ++ bytes) some o in
    let from : bytes_in (payloads p d) ≡ bytes_in (payloads p c) = ap bytes_in same in
    let O : List (List ℕ) → Type 0 = λ l. IsOpen (room p) (stretches p.split d.pieces) l (f.payload ++ bytes) in
    let M : ℕ → Type 0 = λ n. marked f.mark begins (length f.payload) ≡ first_mark h n (marks 0 n d.pieces) in
    let L : ℕ → Type 0 = λ n. lowered f.lowest x.place.r ≡ lowest_of (reaching 0 n d.pieces) in (
      record {
        each = w.each;
        is_open = subst O (sym same) o;
        size = omega (arith, from, w.size, size_put front x bytes, length-append f.payload bytes);
        mark = subst M (sym from) (mark_put begins h (bytes_in (payloads p c)) (length f.payload) front x bytes f.mark is_fresh more w.size w.mark);
        lowest = subst L (sym from) (lowest_put h (bytes_in (payloads p c)) (length f.payload) front x bytes f.lowest more w.size w.lowest);
      },
      bodies_follow p stamp at c d [] some refl refl (grown_last front x bytes) (same ∙ sym (append-nil (payloads p c))) ∙ append-nil (bodies_at p stamp at c),
      ap length same,
    )

-- bytes that fill it: the Body is made
pub put_fills : (p : Plan) (stamp at : ℕ) (h : Head) (header : List ℕ) (front : List Piece) (x : Piece) (f : Filling) (begins : Option ℕ) (bytes : List ℕ) → 1 ≤ room p → Fills p h header front x f → IsFresh begins h x → 1 ≤ length bytes → length f.payload + length bytes ≡ room p
    → Fills p h header front (longer x bytes) empty
    × (bodies_at p stamp at (part h header (front ++ longer x bytes ∷ [])) ≡ bodies_at p stamp at (part h header (front ++ x ∷ [])) ++ body_of p h.levels stamp (at + 1 + bodies_so_far p h header (front ++ x ∷ [])) false (put_piece x begins bytes f) ∷ [])
    × (bodies_so_far p h header (front ++ longer x bytes ∷ []) ≡ bodies_so_far p h header (front ++ x ∷ []) + 1)
put_fills p stamp at h header front x f begins bytes some w is_fresh more all =
    let c = part h header (front ++ x ∷ []) in
    let d = part h header (front ++ longer x bytes ∷ []) in
    let y : List ℕ = f.payload ++ bytes in
    let o = open_fills (room p) (stretches p.split c.pieces) (stretches p.split d.pieces) (payloads p c) f.payload bytes some w.is_open (stretches_grow p.split front x bytes) (length-append f.payload bytes ∙ all) in
    let same : payloads p d ≡ payloads p c ++ y ∷ [] = open_closes (room p) (stretches p.split d.pieces) (payloads p c ++ y ∷ []) [] some o in
    let from : bytes_in (payloads p d) ≡ bytes_in (payloads p c) + length y = ap bytes_in same ∙ sum_by_push (λ (b : List ℕ). length b) (payloads p c) y in
    let long : total d.pieces ≡ bytes_in (payloads p c) + length y = omega (arith, w.size, size_put front x bytes, length-append f.payload bytes) in
    let O : List (List ℕ) → Type 0 = λ l. IsOpen (room p) (stretches p.split d.pieces) l [] in
    let g = put_piece x begins bytes f in
    let covers : Covers 0 (bytes_in (payloads p c) + length y) d.pieces =
    covers_some 0 (bytes_in (payloads p c) + length y) d.pieces (all_push front (longer x bytes) w.each (omega (arith, more, length-append x.bytes bytes))) (omega (arith, long)) in
    let made : body_at p stamp (at + 1 + length (payloads p c)) d false (bytes_in (payloads p c)) y ≡ body_of p h.levels stamp (at + 1 + length (payloads p c)) false g =
    body_is p stamp (at + 1 + length (payloads p c)) d false (bytes_in (payloads p c)) g covers
    (mark_put begins h (bytes_in (payloads p c)) (length f.payload) front x bytes f.mark is_fresh more w.size w.mark)
    (lowest_put h (bytes_in (payloads p c)) (length f.payload) front x bytes f.lowest more w.size w.lowest) in (
      record {
        each = w.each;
        is_open = subst O (sym same) o;
        size = omega (arith, from, long);
        mark = sym (ap (first_mark h (bytes_in (payloads p d))) (no_marks 0 (bytes_in (payloads p d)) d.pieces (omega (arith, from, long))));
        lowest = sym (ap lowest_of (no_touch 0 (bytes_in (payloads p d)) d.pieces (omega (arith, from, long))));
      },
      bodies_follow p stamp at c d (y ∷ []) some refl refl (grown_last front x bytes) same ∙ ap (λ z. bodies_at p stamp at c ++ z ∷ []) made,
      ap length same ∙ length-append (payloads p c) (y ∷ []),
    )

-- the next packet begins: what is open stays open,
pub next_stays : (p : Plan) (stamp at : ℕ) (h : Head) (header : List ℕ) (front : List Piece) (x : Piece) (f : Filling) (q : Place) → 1 ≤ room p → Fills p h header front x f → 1 ≤ length x.bytes → (parts p.split x (unbegun q) ≡ false) ⊎ (f.payload ≡ [])
    → Fills p h header (front ++ x ∷ []) (unbegun q) f
    × (bodies_at p stamp at (part h header ((front ++ x ∷ []) ++ unbegun q ∷ [])) ≡ bodies_at p stamp at (part h header (front ++ x ∷ [])))
    × (bodies_so_far p h header ((front ++ x ∷ []) ++ unbegun q ∷ []) ≡ bodies_so_far p h header (front ++ x ∷ []))
next_stays p stamp at h header front x f q some w has which =
    let c = part h header (front ++ x ∷ []) in
    let d = part h header ((front ++ x ∷ []) ++ unbegun q ∷ []) in
    let o : IsOpen (room p) (stretches p.split d.pieces) (payloads p c) f.payload = still which in
    let same : payloads p d ≡ payloads p c = open_closes (room p) (stretches p.split d.pieces) (payloads p c) f.payload some o in
    let from : bytes_in (payloads p d) ≡ bytes_in (payloads p c) = ap bytes_in same in
    let O : List (List ℕ) → Type 0 = λ l. IsOpen (room p) (stretches p.split d.pieces) l f.payload in
    let M : ℕ → Type 0 = λ n. f.mark ≡ first_mark h n (marks 0 n d.pieces) in
    let L : ℕ → Type 0 = λ n. f.lowest ≡ lowest_of (reaching 0 n d.pieces) in (
      record {
        each = all_push front x w.each has;
        is_open = subst O (sym same) o;
        size = omega (arith, from, w.size, total_push (front ++ x ∷ []) (unbegun q));
        mark = subst M (sym from) (w.mark ∙ ap (first_mark h (bytes_in (payloads p c))) (sym (marks_opened (bytes_in (payloads p c)) (front ++ x ∷ []) (unbegun q) refl)));
        lowest = subst L (sym from) (w.lowest ∙ ap lowest_of (sym (reaching_opened (bytes_in (payloads p c)) (front ++ x ∷ []) (unbegun q) refl)));
      },
      bodies_follow p stamp at c d [] some refl refl (grown_next front x q) (same ∙ sym (append-nil (payloads p c))) ∙ append-nil (bodies_at p stamp at c),
      ap length same,
    )
  where
    by_test : (b : Bool) → parts p.split x (unbegun q) ≡ b → (b ≡ false) ⊎ (f.payload ≡ []) → IsOpen (room p) (stretches p.split ((front ++ x ∷ []) ++ unbegun q ∷ [])) (payloads p (part h header (front ++ x ∷ []))) f.payload
    by_test false e which =
        let S : List (List ℕ) → Type 0 = λ l. IsOpen (room p) l (payloads p (part h header (front ++ x ∷ []))) f.payload in
        subst S (sym (stretches_open p.split front x (unbegun q) refl ∙ (ap (λ b. stretches p.split (front ++ x ∷ []) ++ (if b then [] ∷ [] else [])) e ∙ append-nil (stretches p.split (front ++ x ∷ []))))) w.is_open
    by_test true e (inl f) = absurd (cc)
    by_test true e (inr none) =
        let done : List (List ℕ) = payloads p (part h header (front ++ x ∷ [])) in
        let S : List (List ℕ) → Type 0 = λ l. IsOpen (room p) l done f.payload in
        let D : List (List ℕ) → Type 0 = λ l. IsOpen (room p) (stretches p.split (front ++ x ∷ []) ++ [] ∷ []) l f.payload in
        let E : List ℕ → Type 0 = λ l. IsOpen (room p) (stretches p.split (front ++ x ∷ []) ++ [] ∷ []) (done ++ as_payload f.payload) l in
        subst S (sym (stretches_open p.split front x (unbegun q) refl ∙ ap (λ b. stretches p.split (front ++ x ∷ []) ++ (if b then [] ∷ [] else [])) e))
        (subst D (ap (λ l. done ++ as_payload l) none ∙ append-nil done) (subst E (sym none) (open_parts (room p) (stretches p.split (front ++ x ∷ [])) done f.payload some w.is_open)))

    still : (parts p.split x (unbegun q) ≡ false) ⊎ (f.payload ≡ []) → IsOpen (room p) (stretches p.split ((front ++ x ∷ []) ++ unbegun q ∷ [])) (payloads p (part h header (front ++ x ∷ []))) f.payload
    still which = by_test (parts p.split x (unbegun q)) refl which

    grown_next : (front : List Piece) (x : Piece) (q : Place) → HasGrown (front ++ x ∷ []) ((front ++ x ∷ []) ++ unbegun q ∷ [])
    grown_next front x q = inr (front, x, [], unbegun q ∷ [], refl, append_assoc front (x ∷ []) (unbegun q ∷ []) ∙ ap (λ (l : List ℕ). front ++ record { place = x.place; bytes = l } ∷ unbegun q ∷ []) (sym (append-nil x.bytes)))

-- or the Body is made
pub next_parts : (p : Plan) (stamp at : ℕ) (h : Head) (header : List ℕ) (front : List Piece) (x : Piece) (f : Filling) (q : Place) → 1 ≤ room p → Fills p h header front x f → 1 ≤ length x.bytes → parts p.split x (unbegun q) ≡ true → 1 ≤ length f.payload
    → Fills p h header (front ++ x ∷ []) (unbegun q) empty
    × (bodies_at p stamp at (part h header ((front ++ x ∷ []) ++ unbegun q ∷ [])) ≡ bodies_at p stamp at (part h header (front ++ x ∷ [])) ++ body_of p h.levels stamp (at + 1 + bodies_so_far p h header (front ++ x ∷ [])) false f ∷ [])
    × (bodies_so_far p h header ((front ++ x ∷ []) ++ unbegun q ∷ []) ≡ bodies_so_far p h header (front ++ x ∷ []) + 1)
next_parts p stamp at h header front x f q some w has e more =
    let c = part h header (front ++ x ∷ []) in
    let d = part h header ((front ++ x ∷ []) ++ unbegun q ∷ []) in
    let y : List ℕ = f.payload in
    let n = bytes_in (payloads p c) in
    let S : List (List ℕ) → Type 0 = λ l. IsOpen (room p) l (payloads p c ++ y ∷ []) [] in
    let D : List (List ℕ) → Type 0 = λ l. IsOpen (room p) (stretches p.split c.pieces ++ [] ∷ []) (payloads p c ++ l) [] in
    let o : IsOpen (room p) (stretches p.split d.pieces) (payloads p c ++ y ∷ []) [] =
    subst S (sym (stretches_open p.split front x (unbegun q) refl ∙ ap (λ b. stretches p.split c.pieces ++ (if b then [] ∷ [] else [])) e))
    (subst D (one_payload f.payload more) (open_parts (room p) (stretches p.split c.pieces) (payloads p c) f.payload some w.is_open)) in
    let same : payloads p d ≡ payloads p c ++ y ∷ [] = open_closes (room p) (stretches p.split d.pieces) (payloads p c ++ y ∷ []) [] some o in
    let from : bytes_in (payloads p d) ≡ n + length y = ap bytes_in same ∙ sum_by_push (λ (b : List ℕ). length b) (payloads p c) y in
    let long : total d.pieces ≡ n + length y = omega (arith, w.size, total_push (front ++ x ∷ []) (unbegun q)) in
    let O : List (List ℕ) → Type 0 = λ l. IsOpen (room p) (stretches p.split d.pieces) l [] in
    let covers : Covers 0 (n + length y) d.pieces = covers_push 0 (n + length y) (front ++ x ∷ []) q (all_push front x w.each has) (omega (arith, w.size)) in
    let made : body_at p stamp (at + 1 + length (payloads p c)) d false n y ≡ body_of p h.levels stamp (at + 1 + length (payloads p c)) false f =
    body_is p stamp (at + 1 + length (payloads p c)) d false n f covers
    (w.mark ∙ ap (first_mark h n) (sym (marks_opened n (front ++ x ∷ []) (unbegun q) refl)))
    (w.lowest ∙ ap lowest_of (sym (reaching_opened n (front ++ x ∷ []) (unbegun q) refl))) in (
      record {
        each = all_push front x w.each has;
        is_open = subst O (sym same) o;
        size = omega (arith, from, long);
        mark = sym (ap (first_mark h (bytes_in (payloads p d))) (no_marks 0 (bytes_in (payloads p d)) d.pieces (omega (arith, from, long))));
        lowest = sym (ap lowest_of (no_touch 0 (bytes_in (payloads p d)) d.pieces (omega (arith, from, long))));
      },
      bodies_follow p stamp at c d (y ∷ []) some refl refl (grown_next front x q) same ∙ ap (λ z. bodies_at p stamp at c ++ z ∷ []) made,
      ap length same ∙ length-append (payloads p c) (y ∷ []),
    )
  where
    one_payload : (y : List ℕ) → 1 ≤ length y → as_payload y ≡ y ∷ []
    one_payload [] h = absurd (omega arith)
    one_payload (b ∷ y) h = refl

    covers_push : (at to : ℕ) (xs : List Piece) (q : Place) → AllByRecursion (λ y. 1 ≤ length y.bytes) xs → at + total xs ≡ to → Covers at to (xs ++ unbegun q ∷ [])
    covers_push at to [] q a h = let e : to ≡ at = omega arith in (inr e, omega arith)
    covers_push at to (x ∷ xs) q a h = (inl a.0, covers_push (at + length x.bytes) to xs q a.1 (omega (arith, h, sum_by-cons (λ (y : Piece). length y.bytes) x xs)))

    grown_next : (front : List Piece) (x : Piece) (q : Place) → HasGrown (front ++ x ∷ []) ((front ++ x ∷ []) ++ unbegun q ∷ [])
    grown_next front x q = inr (front, x, [], unbegun q ∷ [], refl, append_assoc front (x ∷ []) (unbegun q ∷ []) ∙ ap (λ (l : List ℕ). front ++ record { place = x.place; bytes = l } ∷ unbegun q ∷ []) (sym (append-nil x.bytes)))

-- EOC: the last Body of a codestream, where both its bytes have room,
grown_same : (front : List Piece) (x : Piece) → HasGrown (front ++ x ∷ []) (front ++ x ∷ [])
grown_same front x = inr (front, x, [], [], refl, ap (λ (l : List ℕ). front ++ record { place = x.place; bytes = l } ∷ []) (sym (append-nil x.bytes)))

last_marker : (n : ℕ) (q : List (List ℕ)) (was : List (List ℕ)) (j : ℕ) → q ≡ was → (true && (j + 1 == n)) ≡ (j + 1 == n)
last_marker n q was j e = refl

pub ends_in_one : (p : Plan) (stamp at : ℕ) (h : Head) (header : List ℕ) (front : List Piece) (x : Piece) (f : Filling) → 1 ≤ room p → Fills p h header front x f → 1 ≤ length x.bytes → length f.payload + 2 ≤ room p
    → (bodies_at p stamp at (whole h header (front ++ x ∷ [])) ≡ bodies_at p stamp at (part h header (front ++ x ∷ [])) ++ body_of p h.levels stamp (at + 1 + bodies_so_far p h header (front ++ x ∷ [])) true (put_eoc (255 ∷ 217 ∷ []) f) ∷ [])
    × (length (payloads p (whole h header (front ++ x ∷ []))) ≡ bodies_so_far p h header (front ++ x ∷ []) + 1)
ends_in_one p stamp at h header front x f some w has few =
    let c = part h header (front ++ x ∷ []) in
    let d = whole h header (front ++ x ∷ []) in
    let y : List ℕ = f.payload ++ 255 ∷ 217 ∷ [] in
    let n = bytes_in (payloads p c) in
    let k = length (payloads p c) in
    let l : length y ≡ length f.payload + 2 = length-append f.payload (255 ∷ 217 ∷ []) in
    let same : payloads p d ≡ payloads p c ++ y ∷ [] =
    open_ends (room p) (stretches p.split c.pieces) (payloads p c) f.payload some w.is_open ∙ ap (λ z. payloads p c ++ z) (chunks_one (room p) y (omega (arith, l)) (omega (arith, l, few))) in
    let count : length (payloads p d) ≡ k + 1 = ap length same ∙ length-append (payloads p c) (y ∷ []) in
    let m : (d.ended && (k + 1 == length (payloads p d))) ≡ true = eq-eqb (k + 1) (length (payloads p d)) (sym count) in
    let covers : Covers 0 (n + length y) d.pieces = covers_some 0 (n + length y) d.pieces (all_push front x w.each has) (omega (arith, w.size, l)) in
    let made : body_at p stamp (at + 1 + k) d true n y ≡ body_of p h.levels stamp (at + 1 + k) true (put_eoc (255 ∷ 217 ∷ []) f) =
    body_is p stamp (at + 1 + k) d true n (put_eoc (255 ∷ 217 ∷ []) f) covers w.mark w.lowest in (
      bodies_follow p stamp at c d (y ∷ []) some refl refl (grown_same front x) same ∙ ap (λ z. bodies_at p stamp at c ++ z ∷ []) (ap (λ b. body_at p stamp (at + 1 + k) d b n y) m ∙ made),
      count,
    )

-- or the last two, where one has
pub ends_in_two : (p : Plan) (stamp at : ℕ) (h : Head) (header : List ℕ) (front : List Piece) (x : Piece) (f : Filling) → 1 ≤ room p → Fills p h header front x f → 1 ≤ length x.bytes → length f.payload + 1 ≡ room p
    → (bodies_at p stamp at (whole h header (front ++ x ∷ [])) ≡ bodies_at p stamp at (part h header (front ++ x ∷ [])) ++ body_of p h.levels stamp (at + 1 + bodies_so_far p h header (front ++ x ∷ [])) false (put_eoc (255 ∷ []) f)
    ∷ body_of p h.levels stamp (at + 1 + (bodies_so_far p h header (front ++ x ∷ []) + 1)) true (put_eoc (217 ∷ []) empty) ∷ [])
    × (length (payloads p (whole h header (front ++ x ∷ []))) ≡ bodies_so_far p h header (front ++ x ∷ []) + 2)
ends_in_two p stamp at h header front x f some w has few =
    let c = part h header (front ++ x ∷ []) in
    let d = whole h header (front ++ x ∷ []) in
    let y : List ℕ = f.payload ++ 255 ∷ [] in
    let z : List ℕ = 217 ∷ [] in
    let n = bytes_in (payloads p c) in
    let k = length (payloads p c) in
    let l : length y ≡ length f.payload + 1 = length-append f.payload (255 ∷ []) in
    let split : f.payload ++ 255 ∷ 217 ∷ [] ≡ y ++ z = sym (append_assoc f.payload (255 ∷ []) z) in
    let same : payloads p d ≡ payloads p c ++ y ∷ z ∷ [] =
    open_ends (room p) (stretches p.split c.pieces) (payloads p c) f.payload some w.is_open
    ∙ ap (λ t. payloads p c ++ t) (ap (chunks (room p)) split ∙ (chunks_next (room p) y z some (omega (arith, l, few)) ∙ ap (λ t. y ∷ t) (chunks_one (room p) z (omega arith) some))) in
    let count : length (payloads p d) ≡ k + 2 = ap length same ∙ length-append (payloads p c) (y ∷ z ∷ []) in
    let m : (d.ended && (k + 1 == length (payloads p d))) ≡ false = not_true (k + 1 == length (payloads p d)) (λ t. let e : k + 1 ≡ length (payloads p d) = eqb-true (k + 1) (length (payloads p d)) t in omega (arith, e, count)) in
    let s : (d.ended && (k + 1 + 1 == length (payloads p d))) ≡ true = eq-eqb (k + 1 + 1) (length (payloads p d)) (let e : k + 1 + 1 ≡ length (payloads p d) = omega (arith, count) in e) in
    let long : total d.pieces + 1 ≡ n + length y = omega (arith, w.size, l) in
    let covers : Covers 0 (n + length y) d.pieces = covers_some 0 (n + length y) d.pieces (all_push front x w.each has) (omega (arith, long)) in
    let covers_z : Covers 0 (n + length y + length z) d.pieces = covers_some 0 (n + length y + length z) d.pieces (all_push front x w.each has) (omega (arith, long)) in
    let made : body_at p stamp (at + 1 + k) d false n y ≡ body_of p h.levels stamp (at + 1 + k) false (put_eoc (255 ∷ []) f) =
    body_is p stamp (at + 1 + k) d false n (put_eoc (255 ∷ []) f) covers w.mark w.lowest in
    let last : body_at p stamp (at + 1 + (k + 1)) d true (n + length y) z ≡ body_of p h.levels stamp (at + 1 + (k + 1)) true (put_eoc z empty) =
    body_is p stamp (at + 1 + (k + 1)) d true (n + length y) (put_eoc z empty) covers_z
    (sym (ap (first_mark h (n + length y)) (no_marks 0 (n + length y) d.pieces (omega (arith, long)))))
    (sym (ap lowest_of (no_touch 0 (n + length y) d.pieces (omega (arith, long))))) in (
      bodies_follow p stamp at c d (y ∷ z ∷ []) some refl refl (grown_same front x) same
          ∙ (ap (λ t. bodies_at p stamp at c ++ t ∷ the_body p stamp at d (k + 1) (n + length y) z ∷ []) (ap (λ b. body_at p stamp (at + 1 + k) d b n y) m ∙ made)
          ∙ ap (λ t. bodies_at p stamp at c ++ body_of p h.levels stamp (at + 1 + k) false (put_eoc (255 ∷ []) f) ∷ t ∷ []) (ap (λ b. body_at p stamp (at + 1 + (k + 1)) d b (n + length y) z) s ∙ last)),
      count,
    )
