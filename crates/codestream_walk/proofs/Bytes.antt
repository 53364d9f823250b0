-- Bytes that follow bytes.
use Rattle.std.proofs.Common.{ℕ, zero, suc, List, [], ◌∷◌, ◌++◌, arith}
use Rattle.codestream_model.specs.Bytes.{IsBytes}

-- bytes after bytes are bytes
pub bytes_join : (xs ys : List ℕ) → IsBytes xs → IsBytes ys → IsBytes (xs ++ ys)
bytes_join [] ys a b i = b i
bytes_join (x ∷ xs) ys a b zero = a zero
bytes_join (x ∷ xs) ys a b (suc i) = bytes_join xs ys (λ j. a (suc j)) b i

-- no bytes are bytes
pub no_bytes : IsBytes []
no_bytes i = omega arith
