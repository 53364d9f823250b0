-- What a writer of bits has written after one bit more.
use Rattle.std.proofs.Common.{◌≡◌, ◌≢◌, ◌<◌, ◌≤◌, ◌+◌, ◌-◌, ◌*◌, ◌^◌, ℕ, zero, suc, Bool, false, List, [], ◌∷◌, ◌++◌, length, take, replicate, slice_index, slice_set, refl, sym, ◌∙◌, ap, subst, inl, inr, arith, append_assoc}
use Rattle.std.proofs.lemmas.Bool.Decides.{eqb_tells}
use Rattle.std.proofs.lemmas.List.{append-nil, length-append, length-set, length-take-le, take_at, take-append-le, take_more, take_more_set}
use Rattle.codestream_model.specs.Bytes.{bit}
use Rattle.codestream_model.specs.StuffedBits.{number_bits, width_after, carried, packing, bytes_of_bits}
use Rattle.codestream_model.proofs.BitLemmas.{padded, number_bits-zero}
use Rattle.codestream_model.proofs.PackingLemmas.{width_cases}
use Rattle.stuffed_bits.specs.Carried.{last_from, Carries, Begun}
use Rattle.stuffed_bits.specs.BitWriterState.{BitWriterState}
use Rattle.stuffed_bits.specs.BitsWritten.{HasWritten, begun, filled, added, reach}
use Rattle.stuffed_bits.proofs.CarriedLemmas.{last-push, carried-one, bytes-push, stuffed-push, bytes_less, stuffed_less, none_begun, begins, takes}
use Rattle.stuffed_bits.proofs.NumberLemmas.{bit_is_set}
use Rattle.stuffed_bits.proofs.PackedLemmas.{closing, byte_fits, packing_is, reach_of}

-- a list that becomes two parts, by its first part
behind_front : {X : Type 0} (xs ys us vs : List X) → xs ++ ys ≡ us ++ vs → length xs ≤ length us → (more : List X) × (us ≡ xs ++ more) × (ys ≡ more ++ vs)
behind_front [] ys us vs e h = (us, refl, e)
behind_front (x ∷ xs) ys [] vs e h = absurd (omega arith)
behind_front {X} (x ∷ xs) ys (u ∷ us) vs e h =
    let head : x ≡ u = cc in
    let tail : xs ++ ys ≡ us ++ vs = cc in
    let r = behind_front xs ys us vs tail (omega arith) in
    let f : us ≡ xs ++ r.0 = r.1 in
    (r.0, cc, r.2)

-- the first spare bit of the last byte is filled
pub fills : (bits : List Bool) (d : Bool) (k : ℕ) (front : List ℕ) (v : ℕ) → Begun bits (replicate (suc k) false) (front ++ v ∷ [])
    → Carries (bits ++ d ∷ []) (replicate k false) (front ++ (v + bit d * 2 ^ k) ∷ [])
fills bits d k front v s =
    let w = width_after (last_from 0 front) in
    let each = bytes_less front v s.each in
    let stuffed = stuffed_less front v s.stuffed in
    let short : length (carried front) ≤ length bits =
    let h : length (carried (take (length front) (front ++ v ∷ []))) ≤ length bits = s.needed (length front) (omega (arith, length-append front (v ∷ []))) in
    rw (take_at front (v ∷ []) (length front) refl) at h in
    let parts = behind_front (carried front) (number_bits w v) bits (replicate (suc k) false) (sym (carried-one front v) ∙ s.filled) short in
    let set = bit_is_set w v parts.0 d k (byte_fits (last_from 0 front) v each.1 stuffed.1) parts.2 in
    let small : v + bit d * 2 ^ k < 2 ^ w = set.1 in
    let sizes = width_cases (last_from 0 front) in
    let spare : carried (front ++ (v + bit d * 2 ^ k) ∷ []) ≡ bits ++ (d ∷ replicate k false) =
    carried-one front (v + bit d * 2 ^ k) ∙ (ap (λ (l : List Bool). carried front ++ l) set.0
    ∙ (sym (append_assoc (carried front) parts.0 (d ∷ replicate k false)) ∙ ap (λ (l : List Bool). l ++ d ∷ replicate k false) (sym parts.1))) in
    let t : Begun bits (d ∷ replicate k false) (front ++ (v + bit d * 2 ^ k) ∷ []) = record {
      each = bytes-push front (v + bit d * 2 ^ k) each.0 (elim sizes [
        | inl t ↦ let f : v + bit d * 2 ^ k < 2 ^ 7 = rw t.1 at small in omega arith
        | inr t ↦ let f : v + bit d * 2 ^ k < 2 ^ 8 = rw t.1 at small in omega arith
      ]);
      stuffed = stuffed-push front (v + bit d * 2 ^ k) stuffed.0 (λ e. elim sizes [
        | inl t ↦ let f : v + bit d * 2 ^ k < 2 ^ 7 = rw t.1 at small in omega arith
        | inr t ↦ absurd (t.0 e)
      ]);
      filled = spare;
      needed = λ n h.
          let within : n ≤ length front = omega (arith, h, length-append front ((v + bit d * 2 ^ k) ∷ [])) in
          let was : length (carried (take n (front ++ v ∷ []))) ≤ length bits = s.needed n (omega (arith, length-append front (v ∷ []))) in
          rw (take-append-le n front ((v + bit d * 2 ^ k) ∷ []) within) (rw (take-append-le n front (v ∷ []) within) at was);
    } in
    takes bits d (replicate k false) (front ++ (v + bit d * 2 ^ k) ∷ []) t

-- a positive number is one more than the one before it
one_before : (n : ℕ) → 0 < n → n ≡ suc (n - 1)
one_before n h = omega arith

-- 0 in n bits
padded_zeros : (n : ℕ) → padded n [] ≡ replicate n false
unfolding padded
padded_zeros zero = refl
padded_zeros (suc n) = ap (λ (l : List Bool). false ∷ l) (padded_zeros n)

zero_bits : (n : ℕ) → number_bits n 0 ≡ replicate n false
zero_bits n = number_bits-zero n ∙ padded_zeros n

-- a byte carries some bits
width_some : (before : ℕ) → 0 < width_after before
width_some before = elim (width_cases before) [ inl t ↦ omega (arith, t.1) | inr t ↦ omega (arith, t.1) ]

-- the first bit of the next byte is filled
pub fills_next : (bits : List Bool) (d : Bool) (last : ℕ) (bytes : List ℕ) → Carries bits [] bytes → last ≡ last_from 0 bytes
    → Carries (bits ++ d ∷ []) (replicate (width_after last - 1) false) (bytes ++ (0 + bit d * 2 ^ (width_after last - 1)) ∷ [])
fills_next bits d last bytes s e =
    let b : Begun bits (number_bits (width_after (last_from 0 bytes)) 0) (bytes ++ 0 ∷ []) = begins bits bytes 0 s (omega arith) (λ f. omega arith) in
    let P : ℕ → Type 0 = λ k. Begun bits (number_bits (width_after k) 0) (bytes ++ 0 ∷ []) in
    let c : Begun bits (number_bits (width_after last) 0) (bytes ++ 0 ∷ []) = subst P (sym e) b in
    let Q : List Bool → Type 0 = λ l. Begun bits l (bytes ++ 0 ∷ []) in
    let zeros : number_bits (width_after last) 0 ≡ replicate (suc (width_after last - 1)) false = zero_bits (width_after last) ∙ ap (λ (n : ℕ). replicate n false) (one_before (width_after last) (width_some last)) in
    fills bits d (width_after last - 1) bytes 0 (subst Q zeros c)

-- what is in the first bytes of a buffer was written
written : (bits : List Bool) (buf front : List ℕ) (w : BitWriterState) → w.len ≤ length buf → take w.len buf ≡ front ++ w.last ∷ [] → Carries bits (replicate w.free false) (front ++ w.last ∷ []) → HasWritten bits buf w
written bits buf front w within e s =
    let P : List ℕ → Type 0 = λ l. Carries bits (replicate w.free false) l in
    record { within = within; last = sym (ap (last_from 0) e ∙ last-push 0 front w.last); holds = subst P (sym e) s }

-- one bit more, in the next byte
writes_next : (bits : List Bool) (buf : List ℕ) (w : BitWriterState) (d : Bool) → w.free ≡ 0 → w.len < length buf → HasWritten bits buf w
    → HasWritten (bits ++ d ∷ []) (slice_set buf (w.len + 1 - 1) (filled d (begun w)).last) (filled d (begun w))
writes_next bits buf w d none room r =
    let v = (filled d (begun w)).last in
    let s : Carries bits [] (take w.len buf) = rw none at r.holds in
    let place : w.len + 1 - 1 ≡ w.len = omega arith in
    written (bits ++ d ∷ []) (slice_set buf (w.len + 1 - 1) v) (take w.len buf) (filled d (begun w))
    (omega (arith, length-set buf (w.len + 1 - 1) v))
    (rw place (take_more_set buf w.len v room))
    (fills_next bits d w.last (take w.len buf) s r.last)

-- and in the last one
writes_here : (bits : List Bool) (buf : List ℕ) (w : BitWriterState) (d : Bool) → 0 < w.free → 0 < w.len → HasWritten bits buf w
    → HasWritten (bits ++ d ∷ []) (slice_set buf (w.len - 1) (filled d w).last) (filled d w)
writes_here bits buf w d some begun_one r =
    let v = (filled d w).last in
    let front = take (w.len - 1) buf in
    let place : w.len - 1 + 1 ≡ w.len = omega arith in
    let inside : w.len - 1 < length buf = omega (arith, r.within) in
    let was : take w.len buf ≡ front ++ slice_index buf (w.len - 1) ∷ [] = ap (λ (n : ℕ). take n buf) (sym place) ∙ take_more buf (w.len - 1) 0 inside in
    let last : w.last ≡ slice_index buf (w.len - 1) = r.last ∙ (ap (last_from 0) was ∙ last-push 0 front (slice_index buf (w.len - 1))) in
    let whole : take w.len buf ≡ front ++ w.last ∷ [] = was ∙ ap (λ (n : ℕ). front ++ n ∷ []) (sym last) in
    let P : List ℕ → Type 0 = λ l. Carries bits (replicate w.free false) l in
    let Q : ℕ → Type 0 = λ n. Carries bits (replicate n false) (front ++ w.last ∷ []) in
    let s : Carries bits (replicate (suc (w.free - 1)) false) (front ++ w.last ∷ []) = subst Q (one_before w.free some) (subst P whole r.holds) in
    written (bits ++ d ∷ []) (slice_set buf (w.len - 1) v) front (filled d w)
    (omega (arith, length-set buf (w.len - 1) v, r.within))
    (ap (λ (n : ℕ). take n (slice_set buf (w.len - 1) v)) (sym place) ∙ take_more_set buf (w.len - 1) v inside)
    (fills bits d (w.free - 1) front w.last (none_begun bits (replicate (suc (w.free - 1)) false) (front ++ w.last ∷ []) s))

-- one bit more
pub writes_on : (bits : List Bool) (buf : List ℕ) (w : BitWriterState) (d : Bool) → w.free ≤ 8 * w.len → (w.free ≡ 0 → w.len < length buf) → HasWritten bits buf w
    → HasWritten (bits ++ d ∷ []) (slice_set buf ((added d w).len - 1) (added d w).last) (added d w)
writes_on bits buf w d begun_one room r = elim (eqb_tells w.free 0) [
  | inl t ↦ rw t.0 (writes_next bits buf w d t.1 (room t.1) r)
  | inr t ↦ let some : 0 < w.free = let ne : w.free ≢ 0 = t.1 in omega arith in rw t.0 (writes_here bits buf w d some (omega arith) r)
]

-- what was written reaches into as many bytes as were begun
pub reach_is : (bits : List Bool) (buf : List ℕ) (w : BitWriterState) → 0 < w.len → HasWritten bits buf w → reach bits ≡ w.len
reach_is bits buf w some r =
    let size : length (take w.len buf) ≡ w.len = length-take-le w.len buf r.within in
    ap (bytes_of_bits 0 (length bits)) (packing_is bits w.free (take w.len buf) r.holds)
    ∙ (reach_of bits (replicate w.free false) (take w.len buf) (closing (last_from 0 (take w.len buf))) r.holds (omega arith) ∙ size)

-- where the last byte is filled, one bit more reaches into one byte more
pub reach_more : (bits : List Bool) (buf : List ℕ) (w : BitWriterState) (d : Bool) → w.free ≡ 0 → HasWritten bits buf w → reach (bits ++ d ∷ []) ≡ w.len + 1
reach_more bits buf w d none r =
    let size : length (take w.len buf) ≡ w.len = length-take-le w.len buf r.within in
    let s : Carries bits [] (take w.len buf) = rw none at r.holds in
    let k = width_after w.last - 1 in
    let bytes = take w.len buf ++ (0 + bit d * 2 ^ k) ∷ [] in
    let t : Carries (bits ++ d ∷ []) (replicate k false) bytes = fills_next bits d w.last (take w.len buf) s r.last in
    let long : length bytes ≡ w.len + 1 = omega (arith, size, length-append (take w.len buf) ((0 + bit d * 2 ^ k) ∷ [])) in
    ap (bytes_of_bits 0 (length (bits ++ d ∷ []))) (packing_is (bits ++ d ∷ []) k bytes t)
    ∙ (reach_of (bits ++ d ∷ []) (replicate k false) bytes (closing (last_from 0 bytes)) t (omega arith) ∙ long)

-- the bytes of what was written, closed
pub packing_here : (bits : List Bool) (buf : List ℕ) (w : BitWriterState) → HasWritten bits buf w → packing bits ≡ take w.len buf ++ closing w.last
packing_here bits buf w r = packing_is bits w.free (take w.len buf) r.holds ∙ ap (λ (k : ℕ). take w.len buf ++ closing k) (sym r.last)

-- where there is room, one bit more doesn't reach past the buffer
fits_open : (bits : List Bool) (buf : List ℕ) (w : BitWriterState) (d : Bool) → 0 < (added d w).len → HasWritten (bits ++ d ∷ []) (slice_set buf ((added d w).len - 1) (added d w).last) (added d w) → reach (bits ++ d ∷ []) ≤ length buf
fits_open bits buf w d some r =
    omega (arith, reach_is (bits ++ d ∷ []) (slice_set buf ((added d w).len - 1) (added d w).last) (added d w) some r, r.within, length-set buf ((added d w).len - 1) (added d w).last)

added_some : (w : BitWriterState) (d : Bool) → w.free ≤ 8 * w.len → 0 < (added d w).len
added_some w d begun_one = elim (eqb_tells w.free 0) [
  | inl t ↦ rw t.0 (omega arith)
  | inr t ↦ let ne : w.free ≢ 0 = t.1 in let some : 0 < w.len = omega arith in rw t.0 some
]

pub reach_within : (bits : List Bool) (buf : List ℕ) (w : BitWriterState) (d : Bool) → w.free ≤ 8 * w.len → (w.free ≡ 0 → w.len < length buf) → HasWritten bits buf w → reach (bits ++ d ∷ []) ≤ length buf
reach_within bits buf w d begun_one room r = fits_open bits buf w d (added_some w d begun_one) (writes_on bits buf w d begun_one room r)

-- a list that is one longer than a buffer isn't within it
pub closed_ff : (bits : List Bool) (buf : List ℕ) (w : BitWriterState) → w.last ≡ 255 → HasWritten bits buf w → packing bits ≡ take w.len buf ++ 0 ∷ []
closed_ff bits buf w ff r = packing_here bits buf w r ∙ rw ff refl

pub closed_other : (bits : List Bool) (buf : List ℕ) (w : BitWriterState) → w.last ≢ 255 → HasWritten bits buf w → packing bits ≡ take w.len buf
closed_other bits buf w other r = packing_here bits buf w r ∙ elim (eqb_tells w.last 255) [ inl t ↦ absurd (other t.1) | inr t ↦ rw t.0 (append-nil (take w.len buf)) ]

-- how long bits are, closed
pub length_ff : (bits : List Bool) (buf : List ℕ) (w : BitWriterState) → w.last ≡ 255 → HasWritten bits buf w → length (packing bits) ≡ w.len + 1
length_ff bits buf w ff r = omega (arith, ap length (closed_ff bits buf w ff r), length-append (take w.len buf) (0 ∷ []), length-take-le w.len buf r.within)

pub length_other : (bits : List Bool) (buf : List ℕ) (w : BitWriterState) → w.last ≢ 255 → HasWritten bits buf w → length (packing bits) ≡ w.len
length_other bits buf w other r = omega (arith, ap length (closed_other bits buf w other r), length-take-le w.len buf r.within)

-- the byte after FF is written
pub writes_closing : (bits : List Bool) (buf : List ℕ) (w : BitWriterState) → w.last ≡ 255 → w.len < length buf → HasWritten bits buf w → take (w.len + 1) (slice_set buf w.len 0) ≡ packing bits
writes_closing bits buf w ff room r = take_more_set buf w.len 0 room ∙ sym (closed_ff bits buf w ff r)
