-- EPH, put after a header.
use Rattle.std.proofs.Common.{◌≡◌, ◌≤◌, ◌+◌, ℕ, zero, suc, List, [], ◌∷◌, ◌++◌, length, take, drop, set, refl, sym, ◌∙◌, ap, arith}

-- two items that are set
pub two_set : (n a b : ℕ) (l : List ℕ) → n + 2 ≤ length l → (take (n + 2) (set (set l n a) (n + 1) b) ≡ take n l ++ a ∷ b ∷ []) × (drop (n + 2) (set (set l n a) (n + 1) b) ≡ drop (n + 2) l)
two_set zero a b [] room = absurd (omega arith)
two_set zero a b (x ∷ []) room = absurd (omega arith)
two_set zero a b (x ∷ y ∷ l) room = (refl, refl)
two_set (suc n) a b [] room = absurd (omega arith)
two_set (suc n) a b (x ∷ l) room =
    let t = two_set n a b l (omega arith) in
    let e : suc n + 2 ≡ suc (n + 2) = omega arith in
    let f : suc n + 1 ≡ suc (n + 1) = omega arith in
    rw (e, f) (ap (λ (k : List ℕ). x ∷ k) t.0, t.1)

-- two items more are dropped
drop_two : (n : ℕ) (l : List ℕ) → drop (n + 2) l ≡ drop 2 (drop n l)
drop_two zero l = refl
drop_two (suc n) [] = let e : suc n + 2 ≡ suc (n + 2) = omega arith in rw e refl
drop_two (suc n) (x ∷ l) = let e : suc n + 2 ≡ suc (n + 2) = omega arith in rw e (drop_two n l)

-- lists that end alike end alike two items later
pub two_more : (n : ℕ) (xs ys : List ℕ) → drop n xs ≡ drop n ys → drop (n + 2) xs ≡ drop (n + 2) ys
two_more n xs ys e = drop_two n xs ∙ (ap (drop 2) e ∙ sym (drop_two n ys))
