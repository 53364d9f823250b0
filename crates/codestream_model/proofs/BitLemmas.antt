-- Numbers as bits: a number of n bits is spelled by them, and bits that aren't there are 0.
use Rattle.std.proofs.Common.{◌≡◌, ◌<◌, ◌≤◌, ◌+◌, ◌-◌, ◌*◌, ◌/◌, ◌%◌, ◌^◌, ◌==◌, ℕ, zero, suc, Bool, true, false, List, [], ◌∷◌, ◌++◌, length, take, refl, sym, ◌∙◌, ap, arith}
use Rattle.std.proofs.lemmas.Nat.{pow_pos, pow-add, div-mul-add, div-add-mod'}
use Rattle.std.proofs.Math.Nat.{mul-add-div_right, pow-suc, div-eq_of_lt, div-lt_iff_lt-mul, mod-lt, sub-zero}
use Rattle.codestream_model.specs.Bytes.{bit}
use Rattle.codestream_model.specs.StuffedBits.{number_bits, number_of}

-- the first n bits, with 0 for those that aren't there
unfoldable pub padded : ℕ → List Bool → List Bool
padded zero bits = []
padded (suc n) [] = false ∷ padded n []
padded (suc n) (b ∷ bits) = b ∷ padded n bits

-- a multiple of a greater power of two doesn't show in the lower bits
digit : (k x v : ℕ) → (((x * 2) * 2 ^ k + v) / 2 ^ k) % 2 ≡ (v / 2 ^ k) % 2
digit k x v =
    let e : ((x * 2) * 2 ^ k + v) / 2 ^ k ≡ x * 2 + v / 2 ^ k = mul-add-div_right (pow_pos k) (x * 2) v in
    rw e (omega arith)

-- a greater power of two as such a multiple
greater_power : (k j c : ℕ) → c * 2 ^ (suc k + j) ≡ ((c * 2 ^ j) * 2) * 2 ^ k
greater_power k j c =
    let e : 2 ^ (suc k + j) ≡ 2 ^ suc k * 2 ^ j = pow-add 2 (suc k) j in
    let f : 2 ^ suc k ≡ 2 ^ k * 2 = pow-suc 2 k in
    rw (e, f) (grind arith)

-- what a number has above n bits doesn't show in them
pub higher_bits : (k j c v : ℕ) → number_bits k (c * 2 ^ (k + j) + v) ≡ number_bits k v
unfolding number_bits
higher_bits zero j c v = refl
higher_bits (suc k) j c v =
    let e : c * 2 ^ (suc k + j) ≡ ((c * 2 ^ j) * 2) * 2 ^ k = greater_power k j c in
    let f : suc k + j ≡ k + suc j = omega arith in
    let top : ((c * 2 ^ (suc k + j) + v) / 2 ^ k) % 2 ≡ (v / 2 ^ k) % 2 = rw e (digit k (c * 2 ^ j) v) in
    let low : number_bits k (c * 2 ^ (suc k + j) + v) ≡ number_bits k v = rw f (higher_bits k (suc j) c v) in
    cc

-- n bits spell a number that fits them
pub number_of-lt : (n : ℕ) (bits : List Bool) → number_of n bits < 2 ^ n
unfolding number_of
number_of-lt zero bits = omega arith
number_of-lt (suc n) [] = pow_pos (suc n)
number_of-lt (suc n) (true ∷ bits) = omega (arith, number_of-lt n bits, pow-suc 2 n)
number_of-lt (suc n) (false ∷ bits) = omega (arith, number_of-lt n bits, pow-suc 2 n)

-- a bit is read as it was written
top_bit : (b : Bool) → ((bit b % 2) == 1) ≡ b
top_bit true = refl
top_bit false = refl

-- 0 in n bits
pub number_bits-zero : (n : ℕ) → number_bits n 0 ≡ padded n []
unfolding number_bits padded
number_bits-zero zero = refl
number_bits-zero (suc n) =
    let e : 0 / 2 ^ n ≡ 0 = div-eq_of_lt (pow_pos n) in
    rw (e, number_bits-zero n) refl

-- the bits of the number that bits spell are these bits
pub bits_of_number : (n : ℕ) (bits : List Bool) → number_bits n (number_of n bits) ≡ padded n bits
unfolding number_bits number_of padded
bits_of_number zero bits = refl
bits_of_number (suc n) [] = number_bits-zero (suc n)
bits_of_number (suc n) (b ∷ bits) =
    let e : (bit b * 2 ^ n + number_of n bits) / 2 ^ n ≡ bit b = div-mul-add (bit b) (2 ^ n) (number_of n bits) (number_of-lt n bits) in
    let top : ((((bit b * 2 ^ n + number_of n bits) / 2 ^ n) % 2) == 1) ≡ b = rw e (top_bit b) in
    let z : n + 0 ≡ n = omega arith in
    let h : number_bits n (bit b * 2 ^ (n + 0) + number_of n bits) ≡ number_bits n (number_of n bits) = higher_bits n 0 (bit b) (number_of n bits) in
    let low : number_bits n (bit b * 2 ^ n + number_of n bits) ≡ padded n bits = ap (λ (m : ℕ). number_bits n (bit b * 2 ^ m + number_of n bits)) (sym z) ∙ (h ∙ bits_of_number n bits) in
    cc

-- n bits of a number are n
pub number_bits-length : (n v : ℕ) → length (number_bits n v) ≡ n
unfolding number_bits
number_bits-length zero v = refl
number_bits-length (suc n) v = ap suc (number_bits-length n v)

-- padding changes nothing that is there
pub padded-take : (n : ℕ) (bits : List Bool) → n ≤ length bits → padded n bits ≡ take n bits
unfolding padded
padded-take zero bits h = refl
padded-take (suc n) [] h = absurd (omega arith)
padded-take (suc n) (b ∷ bits) h = ap (λ (l : List Bool). b ∷ l) (padded-take n bits (omega arith))

-- and adds bits after what is there
pub padded-short : (n : ℕ) (bits : List Bool) → length bits ≤ n → padded n bits ≡ bits ++ padded (n - length bits) []
unfolding padded
padded-short n [] h = rw (sub-zero n) refl
padded-short zero (b ∷ bits) h = absurd (omega arith)
padded-short (suc n) (b ∷ bits) h =
    let e : suc n - suc (length bits) ≡ n - length bits = omega arith in
    rw e (ap (λ (l : List Bool). b ∷ l) (padded-short n bits (omega arith)))

-- a number below 2 is its bit
one_bit : (q : ℕ) → q < 2 → bit ((q % 2) == 1) ≡ q
one_bit zero h = refl
one_bit (suc zero) h = refl
one_bit (suc (suc q)) h = absurd (omega arith)

-- the number that the bits of a number spell is this one
pub number_of_bits : (n v : ℕ) → v < 2 ^ n → (rest : List Bool) → number_of n (number_bits n v ++ rest) ≡ v
unfolding number_bits number_of
number_of_bits zero v h rest = omega arith
number_of_bits (suc n) v h rest =
    let whole : (v / 2 ^ n) * 2 ^ n + v % 2 ^ n ≡ v = div-add-mod' v (2 ^ n) in
    let room : v < 2 * 2 ^ n = omega (arith, pow-suc 2 n) in
    let small : v / 2 ^ n < 2 = (div-lt_iff_lt-mul (pow_pos n)).1 room in
    let top : bit (((v / 2 ^ n) % 2) == 1) ≡ v / 2 ^ n = one_bit (v / 2 ^ n) small in
    let z : n + 0 ≡ n = omega arith in
    let low : number_bits n v ≡ number_bits n (v % 2 ^ n) =
    ap (number_bits n) (sym whole) ∙ (ap (λ (m : ℕ). number_bits n ((v / 2 ^ n) * 2 ^ m + v % 2 ^ n)) (sym z) ∙ higher_bits n 0 (v / 2 ^ n) (v % 2 ^ n)) in
    let rest_is : number_of n (number_bits n v ++ rest) ≡ v % 2 ^ n = rw low (number_of_bits n (v % 2 ^ n) (mod-lt v (pow_pos n)) rest) in
    rw (top, rest_is) whole
