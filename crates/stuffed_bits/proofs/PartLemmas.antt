-- Numbers in parts, and that a reader that has begun a byte gives a part of its bits.
use Rattle.std.proofs.Common.{◌≡◌, ◌<◌, ◌≤◌, ◌+◌, ◌-◌, ◌*◌, ◌/◌, ◌%◌, ◌^◌, ◌==◌, ℕ, zero, suc, Bool, List, [], ◌∷◌, ◌++◌, length, drop, Some, Ok, refl, sym, ◌∙◌, ap, subst, arith, append_assoc}
use Rattle.std.specs.List.{slice_range}
use Rattle.std.proofs.lemmas.Nat.{pow-add, div-mul-add, div-add-mod'}
use Rattle.std.proofs.lemmas.List.{length-append}
use Rattle.std.proofs.Math.Nat.{div-div-eq-div-mul, mul-le-mul_right, mod-eq_of_lt, pow-le-pow_right}
use Rattle.codestream_model.specs.Bytes.{IsBytes}
use Rattle.codestream_model.specs.StuffedBits.{number_bits, width_after}
use Rattle.codestream_model.proofs.BitLemmas.{higher_bits, number_bits-length}
use Rattle.stuffed_bits.specs.Carried.{Carries, last_from, before_next, Begun}
use Rattle.stuffed_bits.specs.BitInState.{BitInState}
use Rattle.stuffed_bits.specs.BitsRead.{HasDrawn, HasBegun, next_of}
use Rattle.stuffed_bits.specs.NumbersRead.{high_part}
use Rattle.stuffed_bits.proofs.CarriedLemmas.{before_last, last_of-push, begins}
use Rattle.stuffed_bits.proofs.ReadLemmas.{byte_next, byte_of_piece, range_one, took}

-- the bits of a number, in two parts
pub split_bits : (j k v : ℕ) → number_bits (k + j) v ≡ number_bits k (v / 2 ^ j) ++ number_bits j v
unfolding number_bits
split_bits j zero v = let z : 0 + j ≡ j = omega arith in rw z refl
split_bits j (suc k) v =
    let s : suc k + j ≡ suc (k + j) = omega arith in
    let c : k + j ≡ j + k = omega arith in
    let p : 2 ^ (k + j) ≡ 2 ^ j * 2 ^ k = ap (λ (n : ℕ). 2 ^ n) c ∙ pow-add 2 j k in
    let e : v / 2 ^ (k + j) ≡ v / 2 ^ j / 2 ^ k = ap (λ (n : ℕ). v / n) p ∙ sym (div-div-eq-div-mul v (2 ^ j) (2 ^ k)) in
    let h : (v / 2 ^ (k + j) % 2 == 1) ≡ (v / 2 ^ j / 2 ^ k % 2 == 1) = ap (λ (n : ℕ). n % 2 == 1) e in
    rw s (ap (λ (l : List Bool). (v / 2 ^ (k + j) % 2 == 1) ∷ l) (split_bits j k v) ∙ ap (λ (b : Bool). b ∷ (number_bits k (v / 2 ^ j) ++ number_bits j v)) h)

-- what a number has above n bits
pub above : (c x y : ℕ) → number_bits c (x * 2 ^ c + y) ≡ number_bits c y
above c x y = let z : c + 0 ≡ c = omega arith in ap (λ (n : ℕ). number_bits c (x * 2 ^ n + y)) (sym z) ∙ higher_bits c 0 x y

-- a number of n bits, and another after it
pub joined_bits : (a c x y : ℕ) → y < 2 ^ c → number_bits (a + c) (x * 2 ^ c + y) ≡ number_bits a x ++ number_bits c y
joined_bits a c x y h =
    let e : (x * 2 ^ c + y) / 2 ^ c ≡ x = div-mul-add x (2 ^ c) y h in
    split_bits c a (x * 2 ^ c + y) ∙ (ap (λ (n : ℕ). number_bits a n ++ number_bits c (x * 2 ^ c + y)) e ∙ ap (λ (l : List Bool). number_bits a x ++ l) (above c x y))

pub joined_small : (a c x y : ℕ) → x < 2 ^ a → y < 2 ^ c → x * 2 ^ c + y < 2 ^ (a + c)
joined_small a c x y h g =
    let p : 2 ^ (a + c) ≡ 2 ^ a * 2 ^ c = pow-add 2 a c in
    let m : suc x * 2 ^ c ≤ 2 ^ a * 2 ^ c = mul-le-mul_right (2 ^ c) h in
    rw p (omega arith)

-- Two numbers make one of 25 bits at most, and nothing of it is lost in 32.
pub record Joins (done count v part : ℕ) : Type 0 where
  pub unwrapped : v * 2 ^ count % 4294967296 ≡ v * 2 ^ count
  pub small : v * 2 ^ count + part < 2 ^ (done + count)
  pub low : v * 2 ^ count + part < 2 ^ 25

pub joins : (done count v part : ℕ) → done + count ≤ 25 → v < 2 ^ done → part < 2 ^ count → Joins done count v part
joins done count v part few h g =
    let small : v * 2 ^ count + part < 2 ^ (done + count) = joined_small done count v part h g in
    let most : 2 ^ (done + count) ≤ 2 ^ 25 = pow-le-pow_right (omega arith) few in
    let room : v * 2 ^ count < 4294967296 = omega arith in
    record { unwrapped = mod-eq_of_lt room; small = small; low = omega arith }

-- the bits in hand, in two parts
unread_bits : (k left v : ℕ) → k ≤ left → number_bits left v ≡ number_bits k (high_part k left v) ++ number_bits (left - k) v
unread_bits k left v h =
    let j = left - k in
    let s : left ≡ k + j = omega arith in
    let whole : (v / 2 ^ j) / 2 ^ k * 2 ^ k + v / 2 ^ j % 2 ^ k ≡ v / 2 ^ j = div-add-mod' (v / 2 ^ j) (2 ^ k) in
    let low : number_bits k (v / 2 ^ j) ≡ number_bits k (high_part k left v) = ap (number_bits k) (sym whole) ∙ above k ((v / 2 ^ j) / 2 ^ k) (v / 2 ^ j % 2 ^ k) in
    ap (λ (n : ℕ). number_bits n v) s ∙ (split_bits j k v ∙ ap (λ (l : List Bool). l ++ number_bits j v) low)

-- the next byte is begun
pub begins_next : (bits : List Bool) (bytes : List ℕ) (h : BitInState) (b : ℕ) → h.left ≡ 0 → b < 256 → (before_next h.last ≡ 255 → b < 128) → HasDrawn bits bytes h
    → HasBegun bits (bytes ++ b ∷ []) (took h b)
unfolding number_bits
begins_next bits bytes h b none small low r =
    let same : before_next h.last ≡ last_from 0 bytes = ap before_next r.last ∙ before_last bytes in
    let s : Carries bits [] bytes = rw none at r.holds in
    let P : ℕ → Type 0 = λ k. Begun bits (number_bits (width_after k) b) (bytes ++ b ∷ []) in
    record { last = sym (last_of-push bytes b); begun = subst P (sym same) (begins bits bytes b s small (λ e. low (same ∙ e))) }

-- spare bits are taken, one or more
takes_part : (bits front spare : List Bool) (bytes : List ℕ) → 0 < length front → Begun bits (front ++ spare) bytes → Carries (bits ++ front) spare bytes
takes_part bits front spare bytes some s = record {
  each = s.each;
  stuffed = s.stuffed;
  filled = s.filled ∙ sym (append_assoc bits front spare);
  needed = λ n h. omega (arith, s.needed n h, length-append bits front);
}

-- the first bits in hand are given
pub gives_front : (bits front : List Bool) (bytes : List ℕ) (h : BitInState) (k : ℕ) → 0 < length front → number_bits h.left (before_next h.last) ≡ front ++ number_bits k (before_next h.last) → HasBegun bits bytes h
    → HasDrawn (bits ++ front) bytes (record h { left = k })
gives_front bits front bytes h k some e r =
    let P : List Bool → Type 0 = λ l. Begun bits l bytes in
    record { last = r.last; holds = takes_part bits front (number_bits k (before_next h.last)) bytes some (subst P e r.begun) }

-- as a part of a number
pub gives_part : (bits : List Bool) (bytes : List ℕ) (h : BitInState) (k : ℕ) → 0 < k → k ≤ h.left → HasBegun bits bytes h
    → HasDrawn (bits ++ number_bits k (high_part k h.left (before_next h.last))) bytes (record h { left = h.left - k })
gives_part bits bytes h k some few r =
    let v = before_next h.last in
    gives_front bits (number_bits k (high_part k h.left v)) bytes h (h.left - k) (omega (arith, number_bits-length k (high_part k h.left v))) (unread_bits k h.left v few) r

-- the next byte of a piece is begun
pub begins_piece : (bits : List Bool) (bytes piece : List ℕ) (at b w : ℕ) (h : BitInState) → h.left ≡ 0 → IsBytes piece → next_of (before_next h.last) (drop at piece) ≡ Ok b → w ≡ width_after (before_next h.last)
    → HasDrawn bits bytes h → HasBegun bits (bytes ++ slice_range piece at (at + 1)) (record h { last = Some b; left = w })
begins_piece bits bytes piece at b w h none each e width r =
    let next = byte_next (before_next h.last) (drop at piece) b e in
    let one : slice_range piece at (at + 1) ≡ b ∷ [] = range_one piece next.0 at b next.1 in
    rw (one, width) (begins_next bits bytes h b none (byte_of_piece piece next.0 at b next.1 each) next.3 r)
