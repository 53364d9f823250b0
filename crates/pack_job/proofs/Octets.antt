-- Bytes as bytes are themselves.
use Rattle.std.proofs.Common.{◌≡◌, ◌<◌, ◌%◌, ℕ, suc, zero, List, [], ◌∷◌, ◌++◌, refl, ap, ◌∙◌, arith}
use Rattle.std.proofs.Math.Nat.{mod-eq_of_lt}
use Rattle.std.proofs.lemmas.List.{map-append}
use Rattle.codestream_model.specs.Bytes.{IsBytes}
use Rattle.pack_job.specs.SentInput.{octets}

-- one byte and the others
first_byte : (b : ℕ) (bytes : List ℕ) → IsBytes (b ∷ bytes) → b < 256
first_byte b bytes is = is zero

other_bytes : (b : ℕ) (bytes : List ℕ) → IsBytes (b ∷ bytes) → IsBytes bytes
other_bytes b bytes is i = is (suc i)

pub octets_are : (bytes : List ℕ) → IsBytes bytes → octets bytes ≡ bytes
octets_are [] is = refl
octets_are (b ∷ bytes) is = ap (λ (x : ℕ). x ∷ octets bytes) (mod-eq_of_lt (first_byte b bytes is)) ∙ ap (λ (l : List ℕ). b ∷ l) (octets_are bytes (other_bytes b bytes is))

-- any numbers as bytes are bytes
pub are_octets : (input : List ℕ) → IsBytes (octets input)
are_octets [] i = omega arith
are_octets (b ∷ input) zero = omega arith
are_octets (b ∷ input) (suc i) = are_octets input i

pub octets_join : (read rest : List ℕ) → octets (read ++ rest) ≡ octets read ++ octets rest
octets_join read rest = map-append (λ (b : ℕ). b % 256) read rest
