-- The first bits of a number that are equal.
use Rattle.std.proofs.Common.{◌≡◌, ◌<◌, ◌≤◌, ◌+◌, ◌-◌, ◌*◌, ◌/◌, ◌%◌, ◌^◌, ℕ, zero, suc, Bool, true, false, List, [], ◌∷◌, ◌++◌, length, map, not, take, replicate, refl, sym, ◌∙◌, ap, subst, inl, inr, arith, append_assoc}
use Rattle.std.proofs.lemmas.Bool.Decides.{leb_tells}
use Rattle.std.proofs.lemmas.Nat.{pow_pos, div-add-mod', leading_length}
use Rattle.std.proofs.lemmas.List.{map-append, length-append, length-replicate, replicate-append-replicate, take_at}
use Rattle.std.proofs.Math.Bool.{not-not}
use Rattle.std.proofs.Math.Nat.{pow-suc, div-eq_of_lt, mod-lt, pow-le-pow_right}
use Rattle.codestream_model.specs.Bytes.{bit}
use Rattle.codestream_model.specs.StuffedBits.{number_bits}
use Rattle.codestream_model.proofs.BitLemmas.{number_bits-length}
use Rattle.stuffed_bits.specs.RunsRead.{BeginsWith, others_in}
use Rattle.stuffed_bits.proofs.PartLemmas.{above, joined_bits, split_bits}
use lib.Count.{count_leading_zeros}

-- a bit above others
top_bit : (n : ℕ) (b : Bool) (r : ℕ) → r < 2 ^ n → number_bits (suc n) (bit b * 2 ^ n + r) ≡ b ∷ number_bits n r
unfolding number_bits
top_bit n true r h = let s : suc n ≡ 1 + n = omega arith in ap (λ (m : ℕ). number_bits m (bit true * 2 ^ n + r)) s ∙ joined_bits 1 n 1 r h
top_bit n false r h = let s : suc n ≡ 1 + n = omega arith in ap (λ (m : ℕ). number_bits m (bit false * 2 ^ n + r)) s ∙ joined_bits 1 n 0 r h

-- the bits of 0
zero_bits : (n : ℕ) → number_bits n 0 ≡ replicate n false
unfolding number_bits
zero_bits zero = refl
zero_bits (suc n) = let e : 0 / 2 ^ n ≡ 0 = div-eq_of_lt (pow_pos n) in rw e (ap (λ (l : List Bool). false ∷ l) (zero_bits n))

-- a number of one bit more is a bit above others
record Split (n y : ℕ) : Type 0 where
  pub top : Bool
  pub rest : ℕ
  pub small : rest < 2 ^ n
  pub whole : y ≡ bit top * 2 ^ n + rest

split : (n y : ℕ) → y < 2 ^ suc n → Split n y
split n y h = elim (leb_tells (2 ^ n) y) [
  | inl t ↦ let p : 2 ^ suc n ≡ 2 ^ n * 2 = pow-suc 2 n in record { top = true; rest = y - 2 ^ n; small = omega (arith, t.1); whole = omega (arith, t.1) }
  | inr t ↦ record { top = false; rest = y; small = t.1; whole = omega arith }
]

-- what such a number lacks of the greatest
lacks : (n : ℕ) (top : Bool) (rest y whole : ℕ) → whole ≡ 2 ^ n * 2 → rest < 2 ^ n → y ≡ bit top * 2 ^ n + rest → whole - 1 - y ≡ bit (not top) * 2 ^ n + (2 ^ n - 1 - rest)
lacks n true rest y whole p h e = omega arith
lacks n false rest y whole p h e = omega arith

-- what a number lacks of the greatest has the other bits
lacking : (n y : ℕ) → y < 2 ^ n → number_bits n (2 ^ n - 1 - y) ≡ map not (number_bits n y)
unfolding number_bits
lacking zero y h = refl
lacking (suc n) y h =
    let s : Split n y = split n y h in
    let p : 2 ^ suc n ≡ 2 ^ n * 2 = pow-suc 2 n in
    let e : 2 ^ suc n - 1 - y ≡ bit (not s.top) * 2 ^ n + (2 ^ n - 1 - s.rest) = lacks n s.top s.rest y (2 ^ suc n) p s.small s.whole in
    let low : 2 ^ n - 1 - s.rest < 2 ^ n = omega (arith, s.small) in
    let own : number_bits (suc n) y ≡ s.top ∷ number_bits n s.rest = ap (number_bits (suc n)) s.whole ∙ top_bit n s.top s.rest s.small in
    ap (number_bits (suc n)) e ∙ (top_bit n (not s.top) (2 ^ n - 1 - s.rest) low
    ∙ (ap (λ (l : List Bool). not s.top ∷ l) (lacking n s.rest s.small) ∙ sym (ap (map not) own)))

-- the bits of the lowest ones
lowest_bits : (left byte : ℕ) → number_bits left (byte % 2 ^ left) ≡ number_bits left byte
lowest_bits left byte = let whole : byte / 2 ^ left * 2 ^ left + byte % 2 ^ left ≡ byte = div-add-mod' byte (2 ^ left) in sym (ap (number_bits left) (sym whole) ∙ above left (byte / 2 ^ left) (byte % 2 ^ left))

-- the first bits that are 0, of a number of n bits
first_zeros : (left y m : ℕ) → m ≤ left → y < 2 ^ m → 2 ^ m ≤ 2 * y + 1 → BeginsWith false (left - m) (number_bits left y)
unfolding number_bits
first_zeros left y zero few small great =
    let z : y ≡ 0 = omega arith in
    let s : left - 0 ≡ left = omega arith in
    inl (rw (z, s) (zero_bits left))
first_zeros left y (suc j) few small great =
    let s : left ≡ (left - suc j) + suc j = omega arith in
    let p : 2 ^ suc j ≡ 2 ^ j * 2 = pow-suc 2 j in
    let none : y / 2 ^ suc j ≡ 0 = div-eq_of_lt small in
    let one : y ≡ bit true * 2 ^ j + (y - 2 ^ j) = omega arith in
    let low : y - 2 ^ j < 2 ^ j = omega arith in
    let front : number_bits (left - suc j) (y / 2 ^ suc j) ≡ replicate (left - suc j) false = ap (number_bits (left - suc j)) none ∙ zero_bits (left - suc j) in
    let rest : number_bits (suc j) y ≡ true ∷ number_bits j (y - 2 ^ j) = ap (number_bits (suc j)) one ∙ top_bit j true (y - 2 ^ j) low in
    inr (number_bits j (y - 2 ^ j), ap (λ (n : ℕ). number_bits n y) s ∙ (split_bits (suc j) (left - suc j) y ∙ (ap (λ (l : List Bool). l ++ number_bits (suc j) y) front ∙ ap (λ (l : List Bool). replicate (left - suc j) false ++ l) rest)))

-- the same of the other bits
map-replicate : (n : ℕ) (b : Bool) → map not (replicate n b) ≡ replicate n (not b)
map-replicate zero b = refl
map-replicate (suc n) b = ap (λ (l : List Bool). not b ∷ l) (map-replicate n b)

map-twice : (l : List Bool) → map not (map not l) ≡ l
map-twice [] = refl
map-twice (b ∷ l) = rw (not-not b) (ap (λ (m : List Bool). b ∷ m) (map-twice l))

begins_with_other : (n : ℕ) (l : List Bool) → BeginsWith false n (map not l) → BeginsWith true n l
begins_with_other n l (inl e) = inl (sym (map-twice l) ∙ (ap (map not) e ∙ map-replicate n false))
begins_with_other n l (inr (rest, e)) =
    inr (map not rest, sym (map-twice l) ∙ (ap (map not) e ∙ (map-append not (replicate n false) (true ∷ rest) ∙ ap (λ (m : List Bool). m ++ false ∷ map not rest) (map-replicate n false))))

-- a number isn't longer than the bits that it fits
long_enough : (left y m : ℕ) → y < 2 ^ left → 2 ^ m ≤ 2 * y + 1 → m ≤ left
long_enough left y m h g = elim (leb_tells m left) [
  | inl t ↦ t.1
  | inr t ↦
      let p : 2 ^ suc left ≡ 2 ^ left * 2 = pow-suc 2 left in
      let q : 2 ^ suc left ≤ 2 ^ m = pow-le-pow_right (omega arith) t.1 in
      absurd (omega arith)
]

pub others_small : (of : Bool) (left byte : ℕ) → others_in of left byte < 2 ^ left
others_small true left byte = omega (arith, pow_pos left)
others_small false left byte = mod-lt byte (pow_pos left)

-- the first bits of a kind are told by the leading zeros
begins_with : (of : Bool) (left byte m : ℕ) → m ≤ left → others_in of left byte < 2 ^ m → 2 ^ m ≤ 2 * others_in of left byte + 1 → BeginsWith of (left - m) (number_bits left byte)
begins_with true left byte m few small great =
    let low : byte % 2 ^ left < 2 ^ left = mod-lt byte (pow_pos left) in
    let P : List Bool → Type 0 = λ l. BeginsWith false (left - m) l in
    begins_with_other (left - m) (number_bits left byte)
    (subst P (lacking left (byte % 2 ^ left) low ∙ ap (map not) (lowest_bits left byte)) (first_zeros left (others_in true left byte) m few small great))
begins_with false left byte m few small great =
    let P : List Bool → Type 0 = λ l. BeginsWith false (left - m) l in
    subst P (lowest_bits left byte) (first_zeros left (byte % 2 ^ left) m few small great)

-- what the leading zeros of 32 bits leave
pub record Tells (of : Bool) (left byte zeros : ℕ) : Type 0 where
  pub most : zeros ≤ 32
  pub few : 32 - zeros ≤ left
  pub begins : BeginsWith of (left - (32 - zeros)) (number_bits left byte)

pub leading_tells : (of : Bool) (left byte : ℕ) → left ≤ 8 → Tells of left byte (count_leading_zeros 32 (others_in of left byte))
leading_tells of left byte h =
    let y = others_in of left byte in
    let small : y < 2 ^ left = others_small of left byte in
    let room : left ≤ 32 = omega arith in
    let more : 2 ^ left ≤ 2 ^ 32 = pow-le-pow_right (omega arith) room in
    let t = leading_length 32 y (omega arith) in
    let few : t.0 ≤ left = long_enough left y t.0 small t.3 in
    let e : 32 - count_leading_zeros 32 y ≡ t.0 = omega (arith, t.1) in
    let P : ℕ → Type 0 = λ m. BeginsWith of (left - m) (number_bits left byte) in
    record { most = omega (arith, t.1); few = rw e few; begins = subst P (sym e) (begins_with of left byte t.0 few t.2 t.3) }

-- the bits of a number that begin with these
front_of : (left v : ℕ) (front tail : List Bool) → length front ≤ left → number_bits left v ≡ front ++ tail → number_bits left v ≡ front ++ number_bits (left - length front) v
front_of left v front tail few e =
    let k = length front in
    let s : left ≡ k + (left - k) = omega arith in
    let parts : number_bits left v ≡ number_bits k (v / 2 ^ (left - k)) ++ number_bits (left - k) v = ap (λ (n : ℕ). number_bits n v) s ∙ split_bits (left - k) k v in
    let same : number_bits k (v / 2 ^ (left - k)) ≡ front =
    sym (take_at (number_bits k (v / 2 ^ (left - k))) (number_bits (left - k) v) k (number_bits-length k (v / 2 ^ (left - k)))) ∙ (ap (take k) (sym parts ∙ e) ∙ take_at front tail k refl) in
    parts ∙ ap (λ (l : List Bool). l ++ number_bits (left - k) v) same

-- a run that ends in the byte in hand
pub ended_front : (of : Bool) (n left v : ℕ) → n < left → BeginsWith of n (number_bits left v) → number_bits left v ≡ (replicate n of ++ not of ∷ []) ++ number_bits (left - (n + 1)) v
ended_front of n left v few (inl e) = absurd (omega (arith, ap length e, number_bits-length left v, length-replicate n of))
ended_front of n left v few (inr (rest, e)) =
    let front = replicate n of ++ not of ∷ [] in
    let size : length front ≡ n + 1 = omega (arith, length-append (replicate n of) (not of ∷ []), length-replicate n of) in
    front_of left v front rest (omega arith) (e ∙ sym (append_assoc (replicate n of) (not of ∷ []) rest)) ∙ ap (λ (k : ℕ). front ++ number_bits (left - k) v) size

-- a run of at least n bits
begins_with_fewer : (of : Bool) (n k : ℕ) (bits : List Bool) → k ≤ n → BeginsWith of n bits → (tail : List Bool) × (bits ≡ replicate k of ++ tail)
begins_with_fewer of n k bits few (inl e) =
    let s : n ≡ k + (n - k) = omega arith in
    (replicate (n - k) of, e ∙ (ap (λ (m : ℕ). replicate m of) s ∙ sym (replicate-append-replicate k (n - k) of)))
begins_with_fewer of n k bits few (inr (rest, e)) =
    let s : n ≡ k + (n - k) = omega arith in
    let t : replicate n of ≡ replicate k of ++ replicate (n - k) of = ap (λ (m : ℕ). replicate m of) s ∙ sym (replicate-append-replicate k (n - k) of) in
    (replicate (n - k) of ++ not of ∷ rest, e ∙ (ap (λ (l : List Bool). l ++ not of ∷ rest) t ∙ append_assoc (replicate k of) (replicate (n - k) of) (not of ∷ rest)))

pub whole_front : (of : Bool) (n k left v : ℕ) → k ≤ n → n ≤ left → BeginsWith of n (number_bits left v) → number_bits left v ≡ replicate k of ++ number_bits (left - k) v
whole_front of n k left v few low b =
    let t = begins_with_fewer of n k (number_bits left v) few b in
    let size : length (replicate k of) ≡ k = length-replicate k of in
    front_of left v (replicate k of) t.0 (omega (arith, size)) t.1 ∙ ap (λ (m : ℕ). replicate k of ++ number_bits (left - m) v) size

-- the same, with the byte in hand as the code has it
pub begins_unread : (of : Bool) (n left own byte v : ℕ) → left ≡ own → byte ≡ v → BeginsWith of n (number_bits left byte) → BeginsWith of n (number_bits own v)
begins_unread of n left own byte v e f b =
    let P : ℕ → Type 0 = λ k. BeginsWith of n (number_bits k byte) in
    let Q : ℕ → Type 0 = λ k. BeginsWith of n (number_bits own k) in
    subst Q f (subst P e b)
