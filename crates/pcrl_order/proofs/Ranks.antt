-- Keys with the same rank.
use Rattle.std.proofs.Common.{◌≡◌, ◌↔◌, ℕ, List, ◌∷◌, inl, inr, arith}
use Rattle.pcrl_order.specs.Least.{IsUpTo}

-- of two lists with the same rank, the rest tells
pub of_same_rank : (m n : ℕ) (xs ys : List ℕ) → m ≡ n → IsUpTo (m ∷ xs) (n ∷ ys) ↔ IsUpTo xs ys
of_same_rank m n xs ys e = (
  λ up. elim up [
    | inl before ↦ elim before [ inl lt ↦ absurd (omega (arith, e)) | inr more ↦ inl more.1 ]
    | inr same ↦ inr (cc)
  ],
  λ up. elim up [ inl before ↦ inl (inr (e, before)) | inr same ↦ inr (cc) ],
)
