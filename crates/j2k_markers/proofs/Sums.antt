-- Sums of the values of a function, and how large they are.
use Rattle.std.proofs.Common.{◌≡◌, ◌<◌, ◌+◌, ◌-◌, ◌||◌, ℕ, zero, suc, Bool, refl, ◌∙◌, ap, arith}
use Rattle.std.specs.List.{list_any, range_with_len}
use Rattle.codestream_model.specs.PacketOrder.{sum_below}

-- the sum of no values
pub sum_none : (f : ℕ → ℕ) → sum_below f 0 ≡ 0
unfolding sum_below
sum_none f = refl

-- and of one value more
pub sum_more : (f : ℕ → ℕ) (n : ℕ) → sum_below f (suc n) ≡ sum_below f n + f n
unfolding sum_below
sum_more f n = refl

-- the same
pub sum_next : (f : ℕ → ℕ) (n : ℕ) → sum_below f (n + 1) ≡ sum_below f n + f n
sum_next f n =
    let e : n + 1 ≡ suc n = omega arith in
    ap (sum_below f) e ∙ sum_more f n

-- a test of some number of a range that is not empty
pub any_next : (test : ℕ → Bool) (a n : ℕ) → 0 < n → list_any test (range_with_len a n) ≡ (test a || list_any test (range_with_len (a + 1) (n - 1)))
any_next test a zero some = absurd (omega arith)
any_next test a (suc n) some =
    let e : suc n - 1 ≡ n = omega arith in
    rw e refl
