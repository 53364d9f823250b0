-- Numbers whose lowest bits are 0, and one of these set.
use Rattle.std.proofs.Common.{◌≡◌, ◌<◌, ◌+◌, ◌*◌, ◌^◌, ℕ, zero, suc, Bool, true, false, List, [], ◌∷◌, ◌++◌, length, take, replicate, refl, sym, ◌∙◌, ap, arith}
use Rattle.std.proofs.lemmas.List.{append-nil, length-append, length-replicate, take_at}
use Rattle.codestream_model.specs.Bytes.{bit}
use Rattle.codestream_model.specs.StuffedBits.{number_bits, number_of}
use Rattle.codestream_model.proofs.BitLemmas.{number_of-lt, bits_of_number, number_bits-length, number_of_bits, padded-take}

-- bits that are 0 are 0
zeros_are_zero : (n k : ℕ) → number_of n (replicate k false) ≡ 0
unfolding number_of
zeros_are_zero zero k = refl
zeros_are_zero (suc n) zero = refl
zeros_are_zero (suc n) (suc k) = omega (arith, zeros_are_zero n k)

-- zeros after bits add nothing
pub zeros_add_nothing : (n : ℕ) (bits : List Bool) (k : ℕ) → number_of n (bits ++ replicate k false) ≡ number_of n bits
unfolding number_of
zeros_add_nothing zero bits k = refl
zeros_add_nothing (suc n) [] k = zeros_are_zero (suc n) k
zeros_add_nothing (suc n) (b ∷ bits) k = omega (arith, zeros_add_nothing n bits k)

-- a bit is worth its power of two
worth : (n : ℕ) (bits : List Bool) (b : Bool) (k : ℕ) (more : List Bool) → n ≡ length bits + suc k → number_of n (bits ++ b ∷ more) ≡ number_of n (bits ++ false ∷ more) + bit b * 2 ^ k
unfolding number_of
worth zero bits b k more e = absurd (omega arith)
worth (suc n) [] true k more e = let f : n ≡ k = omega arith in rw f (omega arith)
worth (suc n) [] false k more e = omega arith
worth (suc n) (a ∷ bits) b k more e = omega (arith, worth n bits b k more (omega arith))

-- all of a list
take_all : {A : Type 0} (n : ℕ) (xs : List A) → n ≡ length xs → take n xs ≡ xs
take_all n xs e = ap (take n) (sym (append-nil xs)) ∙ take_at xs [] n (sym e)

-- a number with one of its lowest zeros set
pub bit_is_set : (n v : ℕ) (front : List Bool) (b : Bool) (k : ℕ) → v < 2 ^ n → number_bits n v ≡ front ++ false ∷ replicate k false
    → (number_bits n (v + bit b * 2 ^ k) ≡ front ++ b ∷ replicate k false) × (v + bit b * 2 ^ k < 2 ^ n)
bit_is_set n v front b k small e =
    let size : n ≡ length front + suc k = omega (arith, number_bits-length n v, ap length e, length-append front (false ∷ replicate k false), length-replicate k false) in
    let long : n ≡ length (front ++ b ∷ replicate k false) = omega (arith, length-append front (b ∷ replicate k false), length-replicate k false) in
    let was : number_of n (front ++ false ∷ replicate k false) ≡ v = ap (number_of n) (sym (append-nil (number_bits n v) ∙ e)) ∙ number_of_bits n v small [] in
    let is : number_of n (front ++ b ∷ replicate k false) ≡ v + bit b * 2 ^ k = worth n front b k (replicate k false) size ∙ ap (λ (m : ℕ). m + bit b * 2 ^ k) was in (
      ap (number_bits n) (sym is) ∙ (bits_of_number n (front ++ b ∷ replicate k false) ∙ (padded-take n (front ++ b ∷ replicate k false) (omega arith) ∙ take_all n (front ++ b ∷ replicate k false) long)),
      rw (← is) (number_of-lt n (front ++ b ∷ replicate k false)),
    )
