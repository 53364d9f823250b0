-- How many bytes n bits reach into.
use Rattle.std.proofs.Common.{◌≡◌, ◌<◌, ◌≤◌, ◌↔◌, ◌+◌, ◌-◌, ℕ, zero, suc, Bool, true, false, List, [], ◌∷◌, ◌++◌, length, take, refl, sym, ◌∙◌, ap, inl, inr, arith, nat_le}
use Rattle.std.proofs.lemmas.Bool.Decides.{leb_tells}
use Rattle.std.proofs.lemmas.List.{length-append}
use Rattle.codestream_model.specs.StuffedBits.{number_bits, width_after, carried_after, carried, bytes_of_bits}
use Rattle.codestream_model.specs.BitLaws.{BytesOfBitsIsLeast}
use Rattle.codestream_model.proofs.BitLemmas.{number_bits-length}

-- how many bits a byte and those after it carry
carried_length : (before b : ℕ) (bytes : List ℕ) → length (carried_after before (b ∷ bytes)) ≡ width_after before + length (carried_after b bytes)
unfolding carried_after
carried_length before b bytes = length-append (number_bits (width_after before) b) (carried_after b bytes) ∙ ap (λ (n : ℕ). n + length (carried_after b bytes)) (number_bits-length (width_after before) b)

-- over plain numbers
less_suc : (r k : ℕ) → suc r ≤ suc k → r ≤ k
less_suc r k p = omega arith

more_suc : (r k : ℕ) → r ≤ k → suc r ≤ suc k
more_suc r k p = omega arith

up_back : (w n x : ℕ) → n - w ≤ x → n ≤ w + x
up_back w n x p = omega arith

up_down : (w n x : ℕ) → n ≤ w + x → n - w ≤ x
up_down w n x p = omega arith

step_up : (w n x k r : ℕ) → w < n → (r ≤ k) ↔ (n - w ≤ x) → (suc r ≤ suc k) ↔ (n ≤ w + x)
step_up w n x k r lt f = (λ p. up_back w n x (f.0 (less_suc r k p)), λ p. more_suc r k (f.1 (up_down w n x p)))

reached : (before n k : ℕ) (bytes : List ℕ) → 1 ≤ n → n ≤ length (carried_after before bytes) → (bytes_of_bits before n bytes ≤ k) ↔ (n ≤ length (carried_after before (take k bytes)))
unfolding carried_after bytes_of_bits
reached before n k [] some few = absurd (omega arith)
reached before n zero (b ∷ bytes) some few = elim (leb_tells n (width_after before)) [
  | inl t ↦ rw t.0 (λ p. absurd (omega arith), λ p. absurd (omega arith))
  | inr t ↦ rw t.0 (λ p. absurd (omega arith), λ p. absurd (omega arith))
]
reached before n (suc k) (b ∷ bytes) some few = rw (carried_length before b (take k bytes)) (elim (leb_tells n (width_after before)) [
  | inl t ↦ rw t.0 (λ p. (let e : n ≤ width_after before + length (carried_after b (take k bytes)) = omega (arith, t.1) in e), λ p. omega arith)
  | inr t ↦ rw t.0 (step_up (width_after before) n (length (carried_after b (take k bytes))) k (bytes_of_bits b (n - width_after before) bytes) t.1
      (reached b (n - width_after before) k bytes (omega (arith, t.1)) (omega (arith, few, carried_length before b bytes))))
])

pub bytes_of_bits_is_least : BytesOfBitsIsLeast
bytes_of_bits_is_least n k bytes some few = reached 0 n k bytes some few
